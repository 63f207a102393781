use Rattle.std.proofs.Common.{sym, ◌∙◌}
use Rattle.gp_history.specs.Sequence.{history_of}
use Rattle.gp_index.proofs.Ascending.{first_place_is_least, nothing_is_ready, none_at_place}
use Rattle.gp_index.proofs.ordering.next_place.Goals as goal

pub returns-then-is_ready-clause-next : goal.returns-then-is_ready-clause-next
returns-then-is_ready-clause-next c = λ taken e.
    first_place_is_least c.args.commands.now c.args.order.now c.requires.index (history_of taken) c.loop-k.k c.loop-k-test.true (λ d at. sym (c.is_ready.ensures taken d e at) ∙ c.if-is_ready.true) (c.loop-k.invariant taken e)

pub loop-k-preserved : goal.loop-k-preserved
loop-k-preserved c = λ taken e.
    none_at_place c.args.commands.now c.args.order.now c.requires.index (history_of taken) c.loop-k.k c.loop-k-test.true (λ d at. sym (c.is_ready.ensures taken d e at) ∙ c.if-is_ready.false) (c.loop-k.invariant taken e)

pub returns-clause-none : goal.returns-clause-none
returns-clause-none c = λ taken e.
    nothing_is_ready c.args.commands.now c.args.order.now c.requires.index (history_of taken) c.loop-k.k c.loop-k-test.false (c.loop-k.invariant taken e)
