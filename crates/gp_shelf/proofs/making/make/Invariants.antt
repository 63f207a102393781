use Rattle.std.proofs.Common.{◌≡◌, ◌≤◌, List, ◌++◌, length, vec_capacity}
use Rattle.std.specs.List.{AllZip}
use Rattle.gp_shelf.specs.Making.{IsMade}
use Rattle.gp_shelf.proofs.making.make.Given as goal

abbrev pub invariant-loop : goal.invariant-loop
invariant-loop g l = (done : List g.row.D.Denot)
    × (l.fn.disks.items ≡ done ++ l.disks.items)
    × AllZip (IsMade g.D.Disk.content g.D.Disk.image g.D.Disk.faults l.fn.limit) done l.logs.items
    × (length done ≡ l.counter)
    × (vec_capacity l.disks ≡ vec_capacity l.fn.disks)
    × (length l.fn.disks.items ≤ vec_capacity l.logs)
