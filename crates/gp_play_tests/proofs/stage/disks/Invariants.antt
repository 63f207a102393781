use Rattle.std.proofs.Common.{◌≡◌, length}
use Rattle.gp_play_tests.proofs.stage.disks.Given as goal

abbrev pub invariant-loop-count : goal.invariant-loop-count
invariant-loop-count l = length l.disks.items ≡ l._count
