-- A run of nodes that has ended: its jobs, the calls of its leader, and what is known of them.
use Rattle.std.specs.Prelude.{◌≡◌, ◌↔◌, ◌<◌, ℕ, Bool, true, false, List, [], ◌++◌, map, length, slice_get, slice_index_or, Option, Some, None}
use Rattle.std.specs.List.{All}
use Rattle.gp_round.specs.Counts.{Counts}
use Rattle.gp_msg.specs.declared.node.Node.{Node}
use Rattle.gp_msg.specs.declared.node.Node.TheVariants.{Proposer, Coordinator, Acceptor, Learner}
use Rattle.gp_msg.specs.declared.record.Record.{Record}
use Rattle.gp_edge.specs.Faults.{Rose}
use Rattle.gp_msg.specs.Nodes.{is_present}
use Rattle.gp_run.specs.Legal.{Legal}
use Rattle.gp_run.specs.Runs.{newest_first}
use Rattle.gp_wire.specs.Lists.{Each, IsDistinct, Has}
use Rattle.gp_wire.specs.Known.{WireState, records}
use Rattle.gp_wire.specs.Ends.{Closed}
use Rattle.gp_wire.specs.Own.{own_events, IsBehind}
use Rattle.gp_cell.specs.Lawful.{paxos_legal}
use Rattle.gp_cell.specs.declared.rules.PaxosRules.{PaxosRules}
use Rattle.gp_work.specs.declared.job.Job.{Job}
use Rattle.gp_work.specs.Moves.{is_offer, event_of}
use Rattle.gp_cell.specs.Cells.{CellState, pass_of}
use Rattle.gp_cell.specs.Working.{process_of, IsAt}
use Rattle.gp_phase.specs.declared.caller.Call.{Call}
use Rattle.gp_phase.specs.Phases.{Answers, rounds, only_at, total, IsToOpen, HasAnswered, Finished, Follows, Opens}
use Rattle.gp_node.specs.Phases.{IsWorkedJob}
use Rattle.gp_ending.specs.Begins.{leader}

-- ---- nodes

abbrev pub is_proposer : Node → Bool
is_proposer (Proposer p) = true
is_proposer (Coordinator c) = false
is_proposer (Acceptor a) = false
is_proposer (Learner l) = false

-- the nodes of a configuration, without duplicates: the proposers, and the others, which take messages
pub record AreNodesOf (config : Counts) (takers proposers : List Node) : Type 0 where
  pub distinct : IsDistinct (takers ++ proposers)
  pub take : (n : Node) → Has n takers ↔ ((is_present config n ≡ true) × (is_proposer n ≡ false))
  pub offer : (n : Node) → Has n proposers ↔ ((is_present config n ≡ true) × (is_proposer n ≡ true))

-- ---- jobs

module _ {D : Type 0} where
  abbrev pub cell_in : Job (CellState D) → CellState D
  cell_in j = j.cell

  abbrev pub cells_of : List (Job (CellState D)) → List (CellState D)
  cells_of js = map cell_in js

  abbrev pub node_in : Job (CellState D) → Node
  node_in j = j.cell.node

  abbrev pub nodes_of : List (Job (CellState D)) → List Node
  nodes_of js = map node_in js

-- a job of a node that has posted nothing and is to offer commands
pub record IsToOffer {D : Type 0} (j : Job (CellState D)) : Type 0 where
  pub nothing : own_events j.cell.node (records j.cell.pass) ≡ []
  pub risen : j.risen ≡ false
  pub offers : Each (λ m. is_offer m ≡ true) j.first

-- the count of faults of a disk did not rise between two times
abbrev pub IsSteady : {D : Type 0} → (D → ℕ) → Job (CellState D) → Job (CellState D) → Type 0
IsSteady faults j k = ¬ Rose (process_of faults j.cell).faults (process_of faults k.cell).faults

-- the jobs of the proposers before their work phase and after it, those of the other nodes before the first work phase and after the last, the place of the leader's among them, and the calls before the first work phase and at the end
pub record EndedRun (D : Type 0) : Type 0 where
  pub offering : List (Job (CellState D))
  pub offered : List (Job (CellState D))
  pub starting : List (Job (CellState D))
  pub ended : List (Job (CellState D))
  pub at : ℕ
  pub first : List Call
  pub calls : List Call

-- the events of each job that was to offer are exactly its offers, in their order
abbrev pub AreOffersMade : {D : Type 0} → EndedRun D → List Record → Type 0
AreOffersMade {D} run list = (i : ℕ) (d : Job (CellState D)) → i < length run.offering → let j = slice_index_or run.offering i d in own_events j.cell.node list ≡ map (λ m. event_of j.cell.node m) j.first

-- work phases that began with these jobs, the leader's at place `at`, and ended quietly with those, after the other nodes had posted `others` records. By their end a caller with these answers had called these rounds
pub record HaveWorked {D : Type 0} (answers : Answers) (faults : D → ℕ) (wire : WireState PaxosRules) (at others : ℕ) (calls : List Call) (jobs ended : List (Job (CellState D))) : Type 0 where
  pub size : length ended ≡ length jobs
  pub finished : (i : ℕ) (d : Job (CellState D)) → i < length jobs
      → Finished (process_of faults) (λ c w. IsAt c w) wire (only_at at i (rounds calls)) (total (process_of faults) others ended) (slice_index_or jobs i d) (slice_index_or ended i d)
  pub opens : (i : ℕ) (d : Job (CellState D)) → i < length jobs → Opens (process_of faults) (slice_index_or jobs i d) (slice_index_or ended i d)
  pub follows : (d : Job (CellState D)) → Follows (process_of faults) answers (slice_index_or ended at d) calls None
  pub last : (d : Job (CellState D)) → let j = slice_index_or ended at d in answers (process_of faults j.cell).config (process_of faults j.cell).node calls (process_of faults j.cell).list None

-- the same for jobs of nodes that had posted nothing; the rounds of `first` were called before the first work phase
pub record AreEnded {D : Type 0} (answers : Answers) (faults : D → ℕ) (wire : WireState PaxosRules) (at others : ℕ) (first calls : List Call) (starting ended : List (Job (CellState D))) : Type 0 where
  pub within : at < length starting
  pub leads : (d : Job (CellState D)) → (process_of faults (slice_index_or starting at d).cell).node ≡ leader
  pub opening : (i : ℕ) (d : Job (CellState D)) → i < length starting
      → IsToOpen (process_of faults) (λ c w. IsAt c w) wire (only_at at i (rounds first)) (slice_index_or starting i d)
  pub answered : (d : Job (CellState D)) → HasAnswered (process_of faults) answers first (slice_index_or starting at d)
  pub worked : HaveWorked answers faults wire at others calls starting ended

-- what the calls of a run leave if no job has a fault and the work phases end quietly
pub record EndsQuietly {D : Type 0} (answers : Answers) (content : D → Option (List ℕ)) (faults : D → ℕ) (wire : WireState PaxosRules) (run : EndedRun D) : Type 0 where
  pub nodes : AreNodesOf wire.rules.config (nodes_of run.starting) (nodes_of run.offering)
  pub some : 0 < wire.rules.config.acceptors
  -- one work phase of the proposers' jobs, each of which ended without a fault
  pub offers : (i : ℕ) (d : Job (CellState D)) → i < length run.offering → IsToOffer (slice_index_or run.offering i d)
  pub offered_size : length run.offered ≡ length run.offering
  pub offered : (i : ℕ) (d : Job (CellState D)) → i < length run.offering → IsWorkedJob content faults wire (slice_index_or run.offering i d) (slice_index_or run.offered i d)
  pub unbroken : All (λ j. j.fault ≡ None) run.offered
  -- the work phases of the other jobs
  pub phases : AreEnded answers faults wire run.at (total (process_of faults) 0 run.offered) run.first run.calls run.starting run.ended

-- no disk's count of faults rose
pub record StaysSteady {D : Type 0} (faults : D → ℕ) (run : EndedRun D) : Type 0 where
  pub offering : (i : ℕ) (d : Job (CellState D)) → i < length run.offering → IsSteady faults (slice_index_or run.offering i d) (slice_index_or run.offered i d)
  pub working : (i : ℕ) (d : Job (CellState D)) → i < length run.starting → IsSteady faults (slice_index_or run.starting i d) (slice_index_or run.ended i d)

-- ---- the list

-- the cells of a run at its end
abbrev pub cells_in : {D : Type 0} → EndedRun D → List (CellState D)
cells_in run = cells_of run.ended ++ cells_of run.offered

-- a legal list that begins with what each cell has seen, followed by no more records of its node
pub record IsListOf {D : Type 0} (wire : WireState PaxosRules) (run : EndedRun D) (list : List Record) : Type 0 where
  pub behind : (i : ℕ) (c : CellState D) → slice_get (cells_in run) i ≡ Some c → IsBehind c.node (records c.pass) list
  pub legal : Legal wire.rules.config (newest_first list)

-- the pass of a cell is that of its node
abbrev pub HasOwnPass : {D : Type 0} → CellState D → Type 0
HasOwnPass c = c.pass.node ≡ c.node

-- the list with which the wire was closed by these cells
pub record IsClosedList {D : Type 0} (wire : WireState PaxosRules) (run : EndedRun D) (list : List Record) : Type 0 where
  pub closed : Closed (paxos_legal wire.rules.config) wire.nodes (map pass_of (cells_in run)) list
  pub legal : Legal wire.rules.config (newest_first list)
  pub own : All HasOwnPass (cells_in run)
