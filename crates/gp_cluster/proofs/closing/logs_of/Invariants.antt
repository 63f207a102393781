use Rattle.std.proofs.Common.{◌≡◌, ◌≤◌, ◌++◌, true, map, length, reverse, vec_capacity}
use Rattle.std.specs.List.{All}
use Rattle.gp_vlog.specs.Logs.{IsReady}
use Rattle.gp_cell.specs.Cells.{log_of}
use Rattle.gp_cluster.specs.Cells.{present, logs_of}
use Rattle.gp_cluster.proofs.closing.logs_of.Given as goal

abbrev pub invariant-loop-cell : goal.invariant-loop-cell
invariant-loop-cell g l = (l.found.items ++ present (map log_of (reverse l.left.items)) ≡ logs_of l.fn.cells.items)
    × (length (logs_of l.fn.cells.items) ≤ vec_capacity l.found)
    × All (λ log. log.ready ≡ true → IsReady g.D.Disk.content g.D.Disk.image log) l.found.items

abbrev pub decreases-loop-cell : goal.decreases-loop-cell
decreases-loop-cell g l = length l.left.items
