-- The cells of a run that is closed.
use Rattle.std.specs.Prelude.{◌≡◌, ◌≤◌, ℕ, List, [], ◌∷◌, ◌++◌, map, Option, Some, None, IfSome, slice_get}
use Rattle.std.specs.Option.{option_to_list}
use Rattle.std.specs.List.{All, AllZip}
use Rattle.gp_history.specs.History.{size}
use Rattle.gp_msg.specs.declared.node.Node.{Node}
use Rattle.gp_run.specs.Runs.{newest_first}
use Rattle.gp_vlog.specs.Logs.{LogState}
use Rattle.gp_wire.specs.Known.{WireState, records}
use Rattle.gp_cell.specs.declared.rules.PaxosRules.{PaxosRules}
use Rattle.gp_cell.specs.Cores.{opening, core_at, part_in, learned_in}
use Rattle.gp_cell.specs.Cells.{CellState, Keeps, log_of}
use Rattle.gp_cell.specs.Refusals.{faults_of, limit_of}
use Rattle.gp_cell.specs.Working.{IsAt}
use Rattle.gp_edge.specs.Faults.{Rose}

-- what is known of each cell: its pass is that of its node, its core is the state that the node's own records make, and if the node is up its log keeps the durable part of the core
pub record IsKnownCell {D : Type 0} (c : CellState D) : Type 0 where
  pub node : c.pass.node ≡ c.node
  pub core : c.core ≡ core_at c.config c.node (newest_first (records c.pass))
  pub kept : c.down ≡ None → Keeps (part_in (opening c.config c.node)) (part_in c.core) c.log

-- if its node is a learner, it holds at least n commands
abbrev pub HasLearned : {D : Type 0} → ℕ → CellState D → Type 0
HasLearned n c = IfSome (learned_in c.core) (λ h. n ≤ size h)

abbrev pub node_in : {D : Type 0} → CellState D → Node
node_in c = c.node

-- the logs that are there, in their order
abbrev pub present : {D : Type 0} → List (Option (LogState D)) → List (LogState D)
present [] = []
present (o ∷ os) = option_to_list o ++ present os

-- the logs of these cells, in their order
abbrev pub logs_of : {D : Type 0} → List (CellState D) → List (LogState D)
logs_of cells = present (map log_of cells)

-- the cells of all nodes of a wire, one for each node, in the order of the nodes
pub record AreCellsAt {D : Type 0} (wire : WireState PaxosRules) (cells : List (CellState D)) : Type 0 where
  pub own : All (λ c. IsAt c wire) cells
  pub known : All IsKnownCell cells
  pub nodes : map node_in cells ≡ wire.nodes

-- the same node later: its log has the same limit, and its disk failed at least as often
pub record CellGoes {D : Type 0} (faults : D → ℕ) (c d : CellState D) : Type 0 where
  pub node : d.node ≡ c.node
  pub config : d.config ≡ c.config
  pub limit : limit_of d.log ≡ limit_of c.log
  pub later : faults_of faults c.log ≤ faults_of faults d.log

-- the same nodes later, in the same order
abbrev pub CellsGo : {D : Type 0} → (D → ℕ) → List (CellState D) → List (CellState D) → Type 0
CellsGo faults = AllZip (CellGoes faults)

-- how often the disks of these nodes failed, in the order of the nodes
abbrev pub disk_counts : {D : Type 0} → (D → ℕ) → List (CellState D) → List ℕ
disk_counts {D} faults cells = map (λ (c : CellState D). faults_of faults c.log) cells

-- the disk of one of these nodes failed
pub record SomeCellRose {D : Type 0} (faults : D → ℕ) (old new : List (CellState D)) : Type 0 where
  pub place : ℕ
  pub was : CellState D
  pub is : CellState D
  pub before : slice_get old place ≡ Some was
  pub after : slice_get new place ≡ Some is
  pub rose : Rose (faults_of faults was.log) (faults_of faults is.log)

-- the same log later
pub record LogGoes {D : Type 0} (faults : D → ℕ) (a b : LogState D) : Type 0 where
  pub limit : b.limit ≡ a.limit
  pub later : faults a.disk ≤ faults b.disk
