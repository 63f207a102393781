-- One node at a wire of its own.
use Rattle.std.specs.Prelude.{◌≡◌, [], ◌∷◌, None}
use Rattle.atomic_table.specs.Seated.{TableId}
use Rattle.gp_round.specs.Counts.{Counts}
use Rattle.gp_edge.specs.Records.{MemDiskState}
use Rattle.gp_msg.specs.declared.node.Node.{Node}
use Rattle.gp_wire.specs.Known.{WireState, PassState, new_pass}
use Rattle.gp_cell.specs.declared.rules.PaxosRules.{PaxosRules}
use Rattle.gp_cell.specs.Cells.{CellState}
use Rattle.gp_cell.specs.Working.{IsAt}

-- the pass of the only node, which has seen nothing
abbrev pub IsNew : TableId → Node → PassState → Type 0
IsNew id node pass = pass ≡ new_pass node id (node ∷ []) (node ∷ [])

-- the cell is up, is at the wire, and its pass holds the one node of the wire and has seen nothing
pub record IsAlone (config : Counts) (node : Node) (wire : WireState PaxosRules) (cell : CellState MemDiskState) : Type 0 where
  pub at : IsAt cell wire
  pub config_is : cell.config ≡ config
  pub node_is : cell.node ≡ node
  pub nodes : wire.nodes ≡ node ∷ []
  pub pass : IsNew wire.id node cell.pass
  pub up : cell.down ≡ None

-- the cell is at the wire, and its pass holds the one node of the wire
pub record IsThere (config : Counts) (node : Node) (wire : WireState PaxosRules) (cell : CellState MemDiskState) : Type 0 where
  pub at : IsAt cell wire
  pub config_is : cell.config ≡ config
  pub node_is : cell.node ≡ node
  pub nodes : wire.nodes ≡ node ∷ []
  pub holds : cell.pass.holds ≡ node ∷ []
