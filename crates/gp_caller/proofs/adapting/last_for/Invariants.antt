use Rattle.std.proofs.Common.{◌≡◌, take}
use Rattle.gp_caller.specs.Adapting.{last_for}
use Rattle.gp_caller.proofs.adapting.last_for.Given as goal

abbrev pub invariant-loop-call : goal.invariant-loop-call
invariant-loop-call l = l.last ≡ last_for l.epoch (take l.call-index l.calls)
