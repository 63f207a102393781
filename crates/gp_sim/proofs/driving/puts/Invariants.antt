use Rattle.std.proofs.Common.{◌≡◌}
use Rattle.gp_sim.specs.Driven.{puts}
use Rattle.gp_sim.proofs.driving.puts.Given as goal

abbrev pub invariant-loop-before : goal.invariant-loop-before
invariant-loop-before l = l.drafts.items ≡ puts l.before
