-- A run from the logs with which it begins to those with which it ends.
use Rattle.std.specs.Prelude.{◌≡◌, ◌<◌, ℕ, List, [], map, length, slice_index_or, Option, None, IfSome}
use Rattle.std.specs.Global.{Vec}
use Rattle.std.specs.List.{All, AllZip}
use Rattle.gp_command.specs.Views.{DraftView}
use Rattle.gp_round.specs.Counts.{Counts}
use Rattle.gp_msg.specs.declared.record.Record.{Record}
use Rattle.gp_msg.specs.Messages.{Entry}
use Rattle.gp_edge.specs.Disks.{IfRevealed}
use Rattle.gp_run.specs.Runs.{newest_first}
use Rattle.gp_vlog.specs.Logs.{LogState}
use Rattle.gp_wire.specs.Known.{WireState}
use Rattle.gp_cell.specs.declared.rules.PaxosRules.{PaxosRules}
use Rattle.gp_cell.specs.Cores.{opening, core_at, part_in}
use Rattle.gp_work.specs.declared.job.Job.{Job}
use Rattle.gp_cell.specs.Cells.{CellState}
use Rattle.gp_ending.specs.Ended.{cells_of}
use Rattle.gp_seats.specs.Nodes.{all_nodes, logged_nodes, working_nodes, proposer_nodes}
use Rattle.gp_seats.specs.Seats.{IsBlank, new_passes, seats}
use Rattle.gp_seats.specs.Offering.{IsKnown, HasOffered, given_to}
use Rattle.gp_ending.specs.Working.{IsCarriedJob, IsDecided, EndsQuietlyFrom}
use Rattle.gp_shelf.specs.Lists.{disk_in, HasRoomFor}
use Rattle.gp_shelf.specs.Making.{SomeRose}
use Rattle.gp_shelf.specs.declared.making.LendFault.{LendFault}
use Rattle.gp_shelf.specs.declared.making.LendFault.TheVariants as fault
use Rattle.gp_shelf.specs.Places.{logged}
use Rattle.gp_ending.specs.declared.ends.RunEnd.{RunEnd}
use Rattle.gp_ending.specs.declared.ends.RunEnd.TheVariants.{Learned, NoMemory, Disk}
use Rattle.gp_cluster.specs.Cells.{LogGoes, logs_of}
use Rattle.gp_cluster.specs.declared.policy.RoundPolicy.{RoundPolicy}
use Rattle.gp_cluster.specs.Policies.{answers_of}
use Rattle.gp_cluster.specs.Runs.{EndsWith, IsRunOf, HasLearnedAll, IsQuietOrSettled, EndCause}

-- nothing has happened to the nodes of a wire: these are the jobs of all nodes of a configuration, with these logs, which have no entries
pub record IsSeated {D : Type 0} (config : Counts) (wire : WireState PaxosRules) (jobs proposers : List (Job (CellState D))) (logs : List (LogState D)) : Type 0 where
  pub rules : wire.rules.config ≡ config
  pub nodes : wire.nodes ≡ all_nodes config
  pub jobs_are : jobs ≡ seats config (new_passes wire (working_nodes config)) logs
  pub proposers_are : proposers ≡ seats config (new_passes wire proposer_nodes) []
  pub count : length logs ≡ logged config
  pub blank : All IsBlank logs

-- the logs of these jobs
abbrev pub logs_in : {D : Type 0} → List (Job (CellState D)) → List (LogState D)
logs_in jobs = logs_of (cells_of jobs)

-- all logs have this limit
abbrev pub HaveLimit : {D : Type 0} → ℕ → List (LogState D) → Type 0
HaveLimit limit logs = All (λ log. log.limit ≡ limit) logs

-- the log of each node, in the order of these nodes, ends with the durable part of the node after the run, if its disk reveals what it holds
abbrev pub HoldLogs : {D : Type 0} → (D → Option (List ℕ)) → Counts → ℕ → List Entry → List (LogState D) → Type 0
HoldLogs content config limit run logs = AllZip (λ n log. IfRevealed (content log.disk) (EndsWith limit (part_in (opening config n)) (part_in (core_at config n run)))) (logged_nodes config) logs

-- the nodes of a run have worked: the jobs of those that work were carried this far, and those of the proposers have made these offers. If the run did not end early, its work phases ended quietly, and otherwise faults or memory say why
pub record IsCarriedRun {D : Type 0} (content : D → Option (List ℕ)) (faults : D → ℕ) (policy : RoundPolicy) (config : Counts) (wire : WireState PaxosRules) (offers : List (ℕ × DraftView)) (jobs proposing worked offered : List (Job (CellState D))) (end : Option RunEnd) : Type 0 where
  pub seated : IsSeated config wire jobs proposing (logs_in jobs)
  pub size : length worked ≡ length jobs
  pub carried : (i : ℕ) (d : Job (CellState D)) → i < length jobs → IsCarriedJob content faults wire (slice_index_or jobs i d) (slice_index_or worked i d)
  pub as_many : length offered ≡ length proposing
  pub has : (i : ℕ) (d : Job (CellState D)) → i < length proposing → HasOffered faults wire offers (slice_index_or proposing i d) (slice_index_or offered i d)
  pub known : All IsKnown offers
  pub decided : IfSome end (IsDecided worked)
  pub quiet : end ≡ None → EndsQuietlyFrom (answers_of policy) content faults wire (map (given_to offers) proposing) offered jobs worked

-- the wire of such a run can be closed, with room for the logs
pub record CanClose {D : Type 0} (content : D → Option (List ℕ)) (faults : D → ℕ) (config : Counts) (wire : WireState PaxosRules) (worked offered : List (Job (CellState D))) (end : Option RunEnd) (commands : ℕ) (room : Vec (LogState D)) : Type 0 where
  pub policy : RoundPolicy
  pub offers : List (ℕ × DraftView)
  pub jobs : List (Job (CellState D))
  pub proposing : List (Job (CellState D))
  pub run : IsCarriedRun content faults policy config wire offers jobs proposing worked offered end
  pub many : commands ≡ length offers
  pub fits : HasRoomFor (length (logs_in jobs)) room

-- the result of a run that begins with the first logs and ends with the last ones
pub record RunsFrom {D : Type 0} (policy : RoundPolicy) (faults : D → ℕ) (content : D → Option (List ℕ)) (config : Counts) (offers : List (ℕ × DraftView)) (first last : List (LogState D)) (posted : Option (List Record)) (end : RunEnd) : Type 0 where
  pub going : AllZip (LogGoes faults) first last
  pub run : IfSome posted (IsRunOf policy config offers)
  pub none : posted ≡ None → end ≡ NoMemory
  pub learned : end ≡ Learned → IfSome posted (HasLearnedAll config offers)
  pub quiet : end ≡ Learned → ¬ SomeRose faults (map disk_in first) (map disk_in last) → IfSome posted (IsQuietOrSettled policy config offers)
  pub cause : (limit : ℕ) → HaveLimit limit first → EndCause content faults config limit (map disk_in first) (map disk_in last) posted end
  pub parts : (limit : ℕ) → HaveLimit limit first → end ≡ Learned → IfSome posted (λ list. HoldLogs content config limit (newest_first list) last)

-- how a run ends if its logs cannot be made
abbrev pub lent_end : LendFault → RunEnd
lent_end fault.Disk = Disk
lent_end fault.NoMemory = NoMemory
