-- New jobs of nodes to which nothing has happened.
use Rattle.std.specs.Prelude.{◌≡◌, ℕ, Bool, true, false, cond, List, [], ◌∷◌, ◌++◌, map, drop, slice_get, Option, None}
use Rattle.std.specs.Option.{option_to_list}
use Rattle.gp_round.specs.Counts.{Counts}
use Rattle.gp_msg.specs.declared.node.Node.{Node}
use Rattle.gp_msg.specs.declared.node.Node.TheVariants as node
use Rattle.gp_msg.specs.Nodes.{is_present}
use Rattle.gp_vlog.specs.Logs.{LogState}
use Rattle.gp_wire.specs.Known.{WireState, PassState, new_pass}
use Rattle.gp_work.specs.declared.job.Job.{Job}
use Rattle.gp_cell.specs.declared.rules.PaxosRules.{PaxosRules}
use Rattle.gp_cell.specs.Cores.{opening, part_in}
use Rattle.gp_cell.specs.Cells.{CellState, cell_of, IsFreshLog, log_of}
use Rattle.gp_cell.specs.Working.{process_of, IsAt}
use Rattle.gp_phase.specs.Phases.{IsNew}

-- the log is ready and has no entries
abbrev pub IsBlank : {D : Type 0} → LogState D → Type 0
IsBlank log = (log.ready ≡ true) × (log.entries ≡ [])

-- whether the node keeps a log
abbrev pub has_log : Node → Bool
has_log (node.Proposer p) = false
has_log (node.Coordinator c) = true
has_log (node.Acceptor a) = true
has_log (node.Learner l) = false

-- the log of a node, if these are the logs of this node and of those after it
abbrev pub first_log : {D : Type 0} → Node → List (LogState D) → Option (LogState D)
first_log n logs = cond (has_log n) (slice_get logs 0) None

-- the logs of the nodes after it
abbrev pub later_logs : {D : Type 0} → Node → List (LogState D) → List (LogState D)
later_logs n logs = cond (has_log n) (drop 1 logs) logs

-- the node of a pass is of this configuration, and the pass has seen nothing
abbrev pub IsUnused : Counts → PassState → Type 0
IsUnused config p = (is_present config p.node ≡ true) × (p.seen ≡ [])

-- a job of the node of this pass, to which nothing has happened, and which has no move to make
abbrev pub seat : {D : Type 0} → Counts → PassState → Option (LogState D) → Job (CellState D)
seat config p log = record { cell = cell_of config p.node (opening config p.node) log p None; first = []; cursor = 0; turn = 0; risen = false; fault = None }

-- jobs of the nodes of these passes; those with a log take these logs, in their order
abbrev pub seats : {D : Type 0} → Counts → List PassState → List (LogState D) → List (Job (CellState D))
seats config [] logs = []
seats config (p ∷ ps) logs = seat config p (first_log p.node logs) ∷ seats config ps (later_logs p.node logs)

-- the passes are unused, and each node among them that keeps a log has its own, which is blank
abbrev pub CanSit : {D : Type 0} → Counts → List PassState → List (LogState D) → Type 0
CanSit config [] logs = logs ≡ []
CanSit config (p ∷ ps) logs = IsUnused config p × IsFreshLog (part_in (opening config p.node)) (first_log p.node logs) × CanSit config ps (later_logs p.node logs)

-- the logs of these jobs, in their order
abbrev pub logs_in : {D : Type 0} → List (Job (CellState D)) → List (LogState D)
logs_in [] = []
logs_in (j ∷ js) = option_to_list (log_of j.cell) ++ logs_in js

-- the passes of these nodes at a new wire
abbrev pub new_passes : WireState PaxosRules → List Node → List PassState
new_passes wire ns = map (λ n. new_pass n wire.id wire.nodes (n ∷ [])) ns

-- the job is one of a node that is up at this wire and has posted nothing; `faults` counts the faults of a disk
abbrev pub IsNewAt : {D : Type 0} → (D → ℕ) → WireState PaxosRules → Job (CellState D) → Type 0
IsNewAt faults wire job = IsNew (process_of faults) (λ c w. IsAt c w) wire job

-- this job is such a job, and its node is one of this configuration
abbrev pub IsNewJob : {D : Type 0} → (D → ℕ) → WireState PaxosRules → Counts → Job (CellState D) → Type 0
IsNewJob faults wire config job = IsNewAt faults wire job × (job.cell.config ≡ config)
