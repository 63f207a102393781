-- What the work phases of a run leave.
use Rattle.std.specs.Prelude.{◌≡◌, ◌≤◌, ◌<◌, ℕ, Option, Some, None, List, map, length, slice_index_or, ◌⊎◌}
use Rattle.gp_round.specs.Counts.{Counts}
use Rattle.gp_msg.specs.declared.node.Node.{Node}
use Rattle.gp_msg.specs.declared.record.Record.{Record}
use Rattle.gp_wire.specs.Known.{WireState, records}
use Rattle.gp_cell.specs.declared.rules.PaxosRules.{PaxosRules}
use Rattle.gp_work.specs.declared.job.Job.{Job}
use Rattle.gp_cell.specs.Cells.{CellState}
use Rattle.gp_cell.specs.Refusals.{faults_of}
use Rattle.gp_cell.specs.Working.{process_of, causes_of, IsAt}
use Rattle.gp_node.specs.Phases.{IsWorkedJob}
use Rattle.gp_phase.specs.declared.caller.Call.{Call}
use Rattle.gp_phase.specs.Phases.{Answers, Carried}
use Rattle.gp_ending.specs.Begins.{leader}
use Rattle.gp_ending.specs.Ended.{IsToOffer, EndedRun, AreEnded, EndsQuietly}
use Rattle.gp_ending.specs.declared.ends.RunEnd.{RunEnd}
use Rattle.gp_ending.specs.declared.ends.RunEnd.TheVariants.{NoMemory}
use Rattle.gp_ending.specs.Ends.{deciding, fault_in}

-- a job that was j at first, however the work phases ended; `content` is what a disk holds, if it reveals it, and `faults` its count of faults
abbrev pub IsCarriedJob : {D : Type 0} → (D → Option (List ℕ)) → (D → ℕ) → WireState PaxosRules → Job (CellState D) → Job (CellState D) → Type 0
IsCarriedJob content faults wire j k = Carried (process_of faults) (λ c w. IsAt c w) (causes_of content) wire j k

-- jobs of nodes that had posted nothing and were to offer commands, and what their one work phase left, without a fault
pub record HaveOffered {D : Type 0} (content : D → Option (List ℕ)) (faults : D → ℕ) (wire : WireState PaxosRules) (offering offered : List (Job (CellState D))) : Type 0 where
  pub offers : (i : ℕ) (d : Job (CellState D)) → i < length offering → IsToOffer (slice_index_or offering i d)
  pub size : length offered ≡ length offering
  pub worked : (i : ℕ) (d : Job (CellState D)) → i < length offering → IsWorkedJob content faults wire (slice_index_or offering i d) (slice_index_or offered i d)
  pub unbroken : (i : ℕ) (d : Job (CellState D)) → i < length offered → (slice_index_or offered i d).fault ≡ None

-- work phases that began with these jobs ended quietly, and these rounds were called in them, after the other nodes had posted `others` records. Before the first work phase no count of faults had decreased
pub record RestsAfter {D : Type 0} (answers : Answers) (faults : D → ℕ) (wire : WireState PaxosRules) (at others : ℕ) (calls : List Call) (jobs ended : List (Job (CellState D))) : Type 0 where
  pub starting : List (Job (CellState D))
  pub first : List Call
  pub size : length starting ≡ length jobs
  pub node : (i : ℕ) (d : Job (CellState D)) → i < length jobs → (slice_index_or starting i d).cell.node ≡ (slice_index_or jobs i d).cell.node
  pub later : (i : ℕ) (d : Job (CellState D)) → i < length jobs → faults_of faults (slice_index_or jobs i d).cell.log ≤ faults_of faults (slice_index_or starting i d).cell.log
  pub phases : AreEnded answers faults wire at others first calls starting ended

-- the caller of the rounds of a configuration is that of the leader, whose job is at place `at`, and knows what the leader has seen
pub record IsCallerAt {D : Type 0} (us config : Counts) (node : Node) (knows : List Record → Type 0) (at : ℕ) (jobs : List (Job (CellState D))) : Type 0 where
  pub config_is : config ≡ us
  pub node_is : node ≡ leader
  pub job_config : (d : Job (CellState D)) → (slice_index_or jobs at d).cell.config ≡ us
  pub job_node : (d : Job (CellState D)) → (slice_index_or jobs at d).cell.node ≡ leader
  pub knows_all : (d : Job (CellState D)) → knows (records (slice_index_or jobs at d).cell.pass)

-- work phases that began with these jobs, and one work phase of the proposers, ended quietly
pub record EndsQuietlyFrom {D : Type 0} (answers : Answers) (content : D → Option (List ℕ)) (faults : D → ℕ) (wire : WireState PaxosRules) (offering offered jobs ended : List (Job (CellState D))) : Type 0 where
  pub run : EndedRun D
  pub offering_is : run.offering ≡ offering
  pub offered_is : run.offered ≡ offered
  pub ended_is : run.ended ≡ ended
  pub size : length run.starting ≡ length jobs
  pub later : (i : ℕ) (d : Job (CellState D)) → i < length jobs → faults_of faults (slice_index_or jobs i d).cell.log ≤ faults_of faults (slice_index_or run.starting i d).cell.log
  pub quiet : EndsQuietly answers content faults wire run

-- the end is the one that the faults of these jobs decide; if they decide none, memory ran out
abbrev pub IsDecided : {P : Type 0} → List (Job P) → RunEnd → Type 0
IsDecided jobs end = ((end ≡ NoMemory) × (deciding (map fault_in jobs) ≡ None)) ⊎ (deciding (map fault_in jobs) ≡ Some end)
