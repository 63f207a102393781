-- All cells of a wire, which close it.
use Rattle.std.specs.Prelude.{List, map}
use Rattle.gp_msg.specs.declared.node.Node.{Node}
use Rattle.gp_wire.specs.Lists.{Has}
use Rattle.gp_wire.specs.Known.{WireState}
use Rattle.gp_wire.specs.Ends.{AreOf, IsHeld}
use Rattle.gp_cell.specs.declared.rules.PaxosRules.{PaxosRules}
use Rattle.gp_cell.specs.Cells.{CellState, pass_of}

-- the cells are at this wire, and their passes hold all its nodes
pub record AreAllCells {D : Type 0} (wire : WireState PaxosRules) (cells : List (CellState D)) : Type 0 where
  pub own : AreOf wire.id (map pass_of cells)
  pub all : (n : Node) → Has n wire.nodes → IsHeld n (map pass_of cells)
