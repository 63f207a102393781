use Rattle.std.proofs.Common.{◌≡◌, ◌+◌, ◌≤◌, ◌++◌, length, map, vec_len, vec_capacity}
use Rattle.gp_shelf.specs.Lists.{disk_in}
use Rattle.gp_shelf.proofs.moving.unmake.Given as goal

abbrev pub invariant-loop-log : goal.invariant-loop-log
invariant-loop-log g l = (map disk_in l.left.items ++ l.disks.items ≡ map disk_in l.fn.logs.items ++ l.fn.disks.items)
    × (length l.left.items + vec_len l.disks ≤ vec_capacity l.disks)
    × (vec_capacity l.disks ≡ vec_capacity l.fn.disks)

abbrev pub decreases-loop-log : goal.decreases-loop-log
decreases-loop-log g l = length l.left.items
