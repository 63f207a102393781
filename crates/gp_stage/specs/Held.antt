-- The cells of a wire, one of whose passes holds all nodes.
use Rattle.std.specs.Prelude.{◌≡◌, ◌-◌, ◌+◌, ◌^◌, ℕ, true, if◌then◌else◌, nat_lt, List, [], ◌∷◌, map, slice_get, Option, Some, None}
use Rattle.atomic_table.specs.Seated.{TableId}
use Rattle.gp_round.specs.Counts.{Counts}
use Rattle.gp_msg.specs.declared.node.Node.{Node}
use Rattle.gp_msg.specs.declared.event.Event.{Event}
use Rattle.gp_msg.specs.declared.record.Record.{Record}
use Rattle.gp_msg.specs.Nodes.{is_present}
use Rattle.gp_run.specs.Runs.{newest_first}
use Rattle.gp_wire.specs.Lists.{Has}
use Rattle.gp_wire.specs.Known.{WireState, PassState, records}
use Rattle.gp_wire.specs.Own.{own_events}
use Rattle.gp_cell.specs.declared.rules.PaxosRules.{PaxosRules}
use Rattle.gp_cell.specs.Cells.{CellState, cell_of}
use Rattle.gp_cell.specs.Refusals.{IsTooGreat, faults_of, limit_of}
use Rattle.gp_cell.specs.Working.{IsAt}
use Rattle.gp_driver.specs.Stages.{StageNode, StageState}

-- the configuration, the wire and its nodes, the cells, the place of the one whose pass holds all nodes, and how often a log was full
pub record HeldCells (D : Type 0) : Type 0 where
  pub config : Counts
  pub wire : TableId
  pub nodes : List Node
  pub cells : List (CellState D)
  pub holder : ℕ
  pub fulls : ℕ

-- the records that a cell has seen, and none if there is no cell
abbrev pub seen_by : {D : Type 0} → Option (CellState D) → List Record
seen_by None = []
seen_by (Some c) = records c.pass

-- the whole list of the wire
abbrev pub whole_list : {D : Type 0} → HeldCells D → List Record
whole_list h = seen_by (slice_get h.cells h.holder)

-- the cell with another pass
abbrev pub with_pass : {D : Type 0} → CellState D → PassState → CellState D
with_pass c p = cell_of c.config c.node c.core c.log p c.down

-- each cell is up
abbrev pub AreUp : {D : Type 0} → List (CellState D) → Type 0
AreUp {D} cells = (i : ℕ) (c : CellState D) → slice_get cells i ≡ Some c → c.down ≡ None

-- each cell belongs to this wire and is up
abbrev pub AreReady : {D : Type 0} → WireState PaxosRules → List (CellState D) → Type 0
AreReady {D} wire cells = (i : ℕ) (c : CellState D) → slice_get cells i ≡ Some c → IsAt c wire × (c.down ≡ None)

-- these are the nodes of the configuration
abbrev pub AreAllNodes : Counts → List Node → Type 0
AreAllNodes config nodes = (n : Node) → (is_present config n ≡ true → Has n nodes) × (Has n nodes → is_present config n ≡ true)

-- one of the cells is that of the node
abbrev pub HasCell : {D : Type 0} → Node → List (CellState D) → Type 0
HasCell {D} n cells = (i : ℕ) × (c : CellState D) × (slice_get cells i ≡ Some c) × (c.node ≡ n)

-- the cells are those of these nodes, one for each
pub record AreCellsOf {D : Type 0} (nodes : List Node) (cells : List (CellState D)) : Type 0 where
  pub have : (n : Node) → Has n nodes → HasCell n cells
  pub known : (i : ℕ) (c : CellState D) → slice_get cells i ≡ Some c → Has c.node nodes
  pub single : (i j : ℕ) (c d : CellState D) → slice_get cells i ≡ Some c → slice_get cells j ≡ Some d → c.node ≡ d.node → i ≡ j

-- how often the disks of the cells failed in total
abbrev pub disk_faults : {D : Type 0} → (D → ℕ) → List (CellState D) → ℕ
disk_faults faults [] = 0
disk_faults faults (c ∷ cs) = faults_of faults c.log + disk_faults faults cs

-- a cell as a node of the stage: how often its disk failed, the limit of its log, and its events in a list
abbrev pub stage_node : {D : Type 0} → (D → ℕ) → List Record → CellState D → StageNode
stage_node faults list c = record { node = c.node; faults = faults_of faults c.log; limit = limit_of c.log; events = own_events c.node list }

-- a count that ends at 2^64 - 1
abbrev pub capped : ℕ → ℕ
capped n = if nat_lt n (2 ^ 64 - 1) then n else 2 ^ 64 - 1

-- at one of the cells, with a pass that has seen the whole list, these numbers are too great for the event
pub record IsTooGreatIn {D : Type 0} (h : HeldCells D) (event : Event) (size need : ℕ) : Type 0 where
  pub place : ℕ
  pub cell : CellState D
  pub there : slice_get h.cells place ≡ Some cell
  pub pass : PassState
  pub whole : records pass ≡ whole_list h
  pub great : IsTooGreat (with_pass cell pass) event size need

-- the cells as a stage: its nodes are those of the cells, in their order; it is ready if all cells are up; it counts how often a disk failed or a log was full
abbrev pub stage_of : {D : Type 0} → (D → ℕ) → HeldCells D → StageState
stage_of faults h = record {
  config = h.config;
  run = newest_first (whole_list h);
  nodes = map (stage_node faults (whole_list h)) h.cells;
  faults = capped (disk_faults faults h.cells + h.fulls);
  is_ready = AreUp h.cells;
  is_too_great = λ event size need. IsTooGreatIn h event size need;
}
