use Rattle.std.proofs.Common.{◌≡◌, length}
use Rattle.gp_program_cases.proofs.serving.disks_with.Given as goal

abbrev pub invariant-loop-count : goal.invariant-loop-count
invariant-loop-count l = length l.disks.items ≡ l.count
