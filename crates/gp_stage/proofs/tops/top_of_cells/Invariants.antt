use Rattle.std.proofs.Common.{◌≡◌, take}
use Rattle.gp_stage.specs.Held.{AreUp}
use Rattle.gp_stage.specs.Tops.{AreTrue, top_of_cells}
use Rattle.gp_stage.proofs.tops.top_of_cells.Given as goal

abbrev pub invariant-loop-cell : goal.invariant-loop-cell
invariant-loop-cell g l = (AreUp l.cells → l.top ≡ top_of_cells (take l.cell-index l.cells)) × AreTrue (take l.cell-index l.cells)
