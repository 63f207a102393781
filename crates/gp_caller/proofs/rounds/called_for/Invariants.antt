use Rattle.std.proofs.Common.{◌≡◌, ◌+◌, ◌≤◌, length, drop}
use Rattle.gp_caller.specs.Calling.{called_for}
use Rattle.gp_caller.proofs.rounds.called_for.Given as goal

abbrev pub invariant-loop-i : goal.invariant-loop-i
invariant-loop-i l = (l.count ≡ called_for l.epoch (drop l.i l.calls)) × (l.count + l.i ≤ length l.calls)
