use Rattle.std.proofs.Common.{take}
use Rattle.std.specs.List.{All}
use Rattle.gp_cluster.specs.Cells.{IsKnownCell}
use Rattle.gp_cluster.proofs.closing.know.Given as goal

abbrev pub invariant-loop-cell : goal.invariant-loop-cell
invariant-loop-cell g l = All IsKnownCell (take l.cell-index l.cells)
