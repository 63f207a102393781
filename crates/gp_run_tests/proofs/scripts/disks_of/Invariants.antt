use Rattle.std.proofs.Common.{◌≡◌, length}
use Rattle.gp_run_tests.proofs.scripts.disks_of.Given as goal

abbrev pub invariant-loop-number : goal.invariant-loop-number
invariant-loop-number l = length l.disks.items ≡ l.number
