use Rattle.std.proofs.Common.{◌≡◌, ◌≤◌, ◌++◌, true, length, reverse, vec_capacity}
use Rattle.std.specs.List.{All}
use Rattle.gp_vlog.specs.Logs.{IsReady}
use Rattle.gp_cluster.specs.Cells.{present}
use Rattle.gp_cluster.proofs.closing.present.Given as goal

abbrev pub invariant-loop-log : goal.invariant-loop-log
invariant-loop-log g l = (l.found.items ++ present (reverse l.left.items) ≡ present l.fn.logs.items)
    × (length (present l.fn.logs.items) ≤ vec_capacity l.found)
    × All (λ log. log.ready ≡ true → IsReady g.D.Disk.content g.D.Disk.image log) l.found.items

abbrev pub decreases-loop-log : goal.decreases-loop-log
decreases-loop-log g l = length l.left.items
