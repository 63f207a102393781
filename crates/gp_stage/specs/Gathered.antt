-- The first of some cells meets the others, one after another.
use Rattle.std.specs.Prelude.{◌≡◌, ◌≢◌, ◌<◌, ◌≤◌, ℕ, List, map, slice_get, Option, Some}
use Rattle.gp_round.specs.Counts.{Counts}
use Rattle.gp_msg.specs.declared.node.Node.{Node}
use Rattle.gp_msg.specs.declared.record.Record.{Record}
use Rattle.gp_vlog.specs.Logs.{LogState}
use Rattle.gp_work.specs.declared.moves.Move.{Move}
use Rattle.gp_cell.specs.declared.roles.Core.{Core}
use Rattle.gp_wire.specs.Lists.{Has}
use Rattle.gp_wire.specs.Rule.{Begins}
use Rattle.gp_wire.specs.Known.{WireState, PassState, records, old_of}
use Rattle.gp_wire.specs.Passes.{met, spent}
use Rattle.gp_wire.specs.Own.{IsBehind}
use Rattle.gp_cell.specs.declared.rules.PaxosRules.{PaxosRules}
use Rattle.gp_cell.specs.Cells.{CellState, OwnLawful}
use Rattle.gp_stage.specs.Held.{with_pass}

-- the cell at one place has met the cell at another one
pub record HasMet {D : Type 0} (old new : List (CellState D)) (at other : ℕ) : Type 0 where
  pub one : CellState D
  pub one_is : slice_get old at ≡ Some one
  pub two : CellState D
  pub two_is : slice_get old other ≡ Some two
  pub here : slice_get new at ≡ Some (with_pass one (met one.pass two.pass))
  pub there : slice_get new other ≡ Some (with_pass two (spent two.pass))
  pub others : (i : ℕ) → i ≢ at → i ≢ other → slice_get new i ≡ slice_get old i
  pub first : Begins (met one.pass two.pass).seen (old_of one.pass)
  pub second : Begins (met one.pass two.pass).seen (old_of two.pass)

-- the cell belongs to this wire
pub record IsPlaced {D : Type 0} (wire : WireState PaxosRules) (c : CellState D) : Type 0 where
  pub own : c.pass.wire ≡ wire.id
  pub all : c.pass.all ≡ wire.nodes
  pub config : c.config ≡ wire.rules.config
  pub node : c.pass.node ≡ c.node

-- the pass of the first cell holds the node of this one; its list begins with what this one has seen, with no more records of the node; each record of the node was lawful
pub record IsGathered {D : Type 0} (config : Counts) (first c : CellState D) : Type 0 where
  pub holds : Has c.node first.pass.holds
  pub behind : IsBehind c.node (records c.pass) (records first.pass)
  pub lawful : OwnLawful config c.node (records first.pass)

-- everything in a cell except its pass
abbrev pub rest_of : {D : Type 0} → CellState D → Counts × Node × Core × Option (LogState D) × Option Move
rest_of c = (c.config, c.node, c.core, c.log, c.down)

-- nothing in the cells has changed except their passes
abbrev pub AreSameBut : {D : Type 0} → List (CellState D) → List (CellState D) → Type 0
AreSameBut old new = map rest_of new ≡ map rest_of old

-- the same pass, perhaps after more turns
abbrev pub HasLooked : PassState → PassState → Type 0
HasLooked p q = q ≡ record { node = p.node; wire = p.wire; all = p.all; holds = p.holds; seen = p.seen; turn = q.turn }

-- for each of the cells, the list begins with what the cell has seen, and what follows is not of the cell's node
abbrev pub AreBehind : {D : Type 0} → List (CellState D) → List Record → Type 0
AreBehind {D} cells list = (i : ℕ) (c : CellState D) → slice_get cells i ≡ Some c → IsBehind c.node (records c.pass) list

-- the first cell has met the cells before place k, and its list begins with what each of them had seen, with no more records of the cell's node
pub record AreGathered {D : Type 0} (wire : WireState PaxosRules) (old new : List (CellState D)) (k : ℕ) : Type 0 where
  pub first : CellState D
  pub first_is : slice_get new 0 ≡ Some first
  pub placed : (i : ℕ) (c : CellState D) → i < k → slice_get new i ≡ Some c → IsPlaced wire c
  pub met : (i : ℕ) (c : CellState D) → i < k → slice_get new i ≡ Some c → IsGathered wire.rules.config first c
  pub lists : (i : ℕ) (c : CellState D) → i < k → slice_get old i ≡ Some c → IsBehind c.node (records c.pass) (records first.pass)
  pub same : AreSameBut old new
  pub later : (i : ℕ) → k ≤ i → slice_get new i ≡ slice_get old i
