-- The invariant of the stage over cells.
use Rattle.std.specs.Prelude.{◌≡◌, ℕ, List, map, slice_get, Some}
use Rattle.gp_round.specs.Counts.{Counts}
use Rattle.gp_msg.specs.declared.node.Node.{Node}
use Rattle.gp_msg.specs.declared.message.MsgKind.{MsgKind}
use Rattle.gp_msg.specs.Reads.{kind_of}
use Rattle.gp_run.specs.Messages.{messages}
use Rattle.gp_run.specs.Legal.{Legal}
use Rattle.gp_run.specs.Runs.{newest_first}
use Rattle.gp_run.specs.TopCount.{top_count, top_of_messages}
use Rattle.gp_wire.specs.Lists.{Has}
use Rattle.gp_wire.specs.Known.{WireState, records}
use Rattle.gp_msg.specs.Records.{messages_in}
use Rattle.gp_cell.specs.declared.rules.PaxosRules.{PaxosRules}
use Rattle.gp_cell.specs.Cells.{CellState}
use Rattle.gp_stage.specs.Held.{AreAllNodes, AreCellsOf, seen_by}
use Rattle.gp_stage.specs.Gathered.{AreBehind, IsPlaced}

-- there is one cell for each node of this wire; the pass of one cell holds all nodes; the list of that pass begins with what each cell has seen, with no more records of the cell's node, and is a legal run
pub record AreHeld {D : Type 0} (wire : WireState PaxosRules) (config : Counts) (cells : List (CellState D)) (holder : ℕ) : Type 0 where
  pub config_is : config ≡ wire.rules.config
  pub nodes : AreAllNodes config wire.nodes
  pub placed : (i : ℕ) (c : CellState D) → slice_get cells i ≡ Some c → IsPlaced wire c
  pub cells_are : AreCellsOf wire.nodes cells
  pub lead : CellState D
  pub lead_is : slice_get cells holder ≡ Some lead
  pub holds : (n : Node) → Has n wire.nodes → Has n lead.pass.holds
  pub behind : AreBehind cells (records lead.pass)
  pub legal : Legal config (newest_first (records lead.pass))

-- the same, and the kinds of all messages are known, and so is the greatest count of a round in messages, and in messages and nodes
pub record IsKept {D : Type 0} (wire : WireState PaxosRules) (config : Counts) (cells : List (CellState D)) (holder : ℕ) (kinds : List MsgKind) (sent top : ℕ) : Type 0 where
  pub held : AreHeld wire config cells holder
  pub kinds_are : kinds ≡ map kind_of (messages_in (seen_by (slice_get cells holder)))
  pub sent_is : sent ≡ top_of_messages (messages (newest_first (seen_by (slice_get cells holder))))
  pub top_is : top ≡ top_count config (newest_first (seen_by (slice_get cells holder)))
