use Rattle.std.proofs.Common.{◌≡◌, drop}
use Rattle.gp_phase.specs.Phases.{total}
use Rattle.gp_ending.proofs.working.count.Given as goal

abbrev pub invariant-loop-i : goal.invariant-loop-i
invariant-loop-i g l = l.sum ≡ total g.P.Process.state l.others (drop l.i l.jobs)
