use Rattle.std.proofs.Common.{◌≡◌, length}
use Rattle.gp_cli.proofs.disks.file_disks.Given as goal

abbrev pub invariant-loop-number : goal.invariant-loop-number
invariant-loop-number g l = length l.disks.items ≡ l.number-counter
