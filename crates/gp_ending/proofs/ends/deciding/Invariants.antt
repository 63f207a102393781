use Rattle.std.proofs.Common.{◌≡◌, map, drop}
use Rattle.gp_ending.specs.Ends.{deciding, fault_in}
use Rattle.gp_ending.proofs.ends.deciding.Given as goal

abbrev pub invariant-loop-i : goal.invariant-loop-i
invariant-loop-i g l = l.first ≡ deciding (map fault_in (drop l.i l.jobs))
