use Rattle.std.proofs.Common.{sym, ◌∙◌}
use Rattle.std.specs.Prelude.{max}
use Rattle.gp_world.proofs.Showing.{tops_more, ord_max-nat}
use Rattle.gp_world.proofs.log.top_of_messages.Goals as goal

pub loop-m-preserved : goal.loop-m-preserved
loop-m-preserved c =
    c.max-top.ensures
    ∙ ord_max-nat c.loop-m.top c.top_of_message.result
    ∙ (λ i. max (c.loop-m.invariant i) (c.top_of_message.ensures i))
    ∙ sym (tops_more c.args.out.now c.loop-m.m-index c.m-item.result c.loop-m-test.true c.m-item.is)
