use Rattle.std.proofs.Common.{◌≡◌, length}
use Rattle.gp_run_tests.proofs.writes_at_once.disks_at.Given as goal

abbrev pub invariant-loop-number : goal.invariant-loop-number
invariant-loop-number l = length l.disks.items ≡ l.number
