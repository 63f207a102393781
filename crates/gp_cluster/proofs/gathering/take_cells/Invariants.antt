use Rattle.std.proofs.Common.{◌≡◌, List, ◌++◌, reverse, length, vec_capacity}
use Rattle.std.specs.List.{All}
use Rattle.gp_work.specs.declared.job.Job.{Job}
use Rattle.gp_cell.specs.Cells.{CellState}
use Rattle.gp_ending.specs.Ended.{cells_of}
use Rattle.gp_cluster.specs.Cells.{IsKnownCell}
use Rattle.gp_cluster.proofs.gathering.take_cells.Given as goal

abbrev pub invariant-loop-job : goal.invariant-loop-job
invariant-loop-job g l = (done : List (Job (CellState g.row.D.Denot)))
    × (l.fn.jobs.items ≡ done ++ reverse l.left.items)
    × (l.cells.items ≡ l.fn.cells.items ++ cells_of done)
    × All IsKnownCell (cells_of done)
    × (vec_capacity l.cells ≡ vec_capacity l.fn.cells)

abbrev pub decreases-loop-job : goal.decreases-loop-job
decreases-loop-job g l = length l.left.items
