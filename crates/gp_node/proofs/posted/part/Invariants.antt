use Rattle.std.proofs.Common.{◌≡◌, ◌≤◌, List, ◌++◌, reverse, map, length, vec_capacity}
use Rattle.gp_cell.specs.Cells.{CellState, pass_of, log_of}
use Rattle.gp_node.proofs.posted.part.Given as goal

abbrev pub invariant-loop-cell : goal.invariant-loop-cell
invariant-loop-cell g l = (done : List (CellState g.row.D.Denot))
    × (l.fn.cells.items ≡ done ++ reverse l.left.items)
    × (l.passes.items ≡ map pass_of done)
    × (l.logs.items ≡ map log_of done)
    × (length l.fn.cells.items ≤ vec_capacity l.passes)
    × (length l.fn.cells.items ≤ vec_capacity l.logs)

abbrev pub decreases-loop-cell : goal.decreases-loop-cell
decreases-loop-cell g l = length l.left.items
