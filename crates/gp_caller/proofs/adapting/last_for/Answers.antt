use Rattle.std.proofs.Common.{◌∙◌, sym}
use Rattle.gp_caller.proofs.Following.{last_for_taken, last_for_passed}
use Rattle.gp_caller.proofs.adapting.last_for.Goals as goal
use Rattle.gp_caller.proofs.adapting.last_for.Goals.{then-call-epoch, else-call-epoch}

pub loop-call-preserved : goal.loop-call-preserved
loop-call-preserved c =
    elim c.if-call-epoch.branch [
      | then-call-epoch w ↦ w.last-is ∙ sym (last_for_taken c.args.epoch c.loop-call.call-index c.args.calls.now _ c.loop-call-test.true w.if-call-epoch.true)
      | else-call-epoch w ↦ w.last-is ∙ c.loop-call.invariant ∙ sym (last_for_passed c.args.epoch c.loop-call.call-index c.args.calls.now _ c.loop-call-test.true w.if-call-epoch.false)
    ]
