use Rattle.std.proofs.Common.{◌≡◌, ◌≢◌, ℕ, ◌<◌, Some, slice_get}
use Rattle.gp_cell.specs.Cells.{CellState}
use Rattle.gp_stage.proofs.finding.find.Given as goal

-- no cell up to here is that of the node
abbrev pub invariant-loop-at : goal.invariant-loop-at
invariant-loop-at g l = (i : ℕ) (c : CellState g.row.D.Denot) → i < l.at → slice_get l.cells i ≡ Some c → c.node ≢ l.node
