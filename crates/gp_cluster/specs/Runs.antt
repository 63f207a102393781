-- The result of a run of nodes in threads.
use Rattle.std.specs.Prelude.{true, ◌≡◌, ◌≢◌, ◌⊎◌, ◌<◌, ℕ, ◌+◌, List, Option, Some, None, IfSome, slice_get}
use Rattle.gp_command.specs.Views.{DraftView}
use Rattle.gp_round.specs.Counts.{Counts}
use Rattle.gp_msg.specs.declared.node.Node.{Node}
use Rattle.gp_msg.specs.declared.event.Event.{Event}
use Rattle.gp_msg.specs.declared.record.Record.{Record}
use Rattle.gp_msg.specs.Messages.{EpochPart, Entry}
use Rattle.gp_edge.specs.Disks.{IfRevealed}
use Rattle.gp_edge.specs.Faults.{Rose}
use Rattle.gp_run.specs.Messages.{messages}
use Rattle.gp_msg.specs.Nodes.{node_of}
use Rattle.gp_run.specs.Legal.{Legal, fits}
use Rattle.gp_run.specs.Runs.{newest_first}
use Rattle.gp_vlog.specs.Bodies.{LogEntry, need}
use Rattle.gp_vlog.specs.Logs.{HoldsEntries}
use Rattle.gp_cell.specs.Cores.{opening, acts, core_at, part_in}
use Rattle.gp_cell.specs.Crashes.{last_part}
use Rattle.gp_driver.specs.Settling.{settle}
use Rattle.gp_driver.specs.Settled.{AllLearned}
use Rattle.gp_seats.specs.Nodes.{logged_nodes}
use Rattle.gp_cluster.specs.Offers.{AreOffered}
use Rattle.gp_shelf.specs.Places.{place_at}
use Rattle.gp_shelf.specs.Making.{SomeRose}
use Rattle.gp_ending.specs.declared.ends.RunEnd.{RunEnd}
use Rattle.gp_ending.specs.declared.ends.RunEnd.TheVariants.{Learned, NoMemory, Disk, Full, NotLog, Changed}
use Rattle.gp_cluster.specs.declared.policy.RoundPolicy.{RoundPolicy}
use Rattle.gp_cluster.specs.Policies.{IsQuietBy, MayBeOffered}

-- what the nodes posted is a legal run of the configuration, in which each proposer made its own offers, in their order, and did nothing else; if rounds adapt, no offer may have been made yet
pub record IsRunOf (policy : RoundPolicy) (config : Counts) (offers : List (ℕ × DraftView)) (list : List Record) : Type 0 where
  pub legal : Legal config (newest_first list)
  pub offered : MayBeOffered policy offers list

-- all was learned: each proposer made its own offers, and each learner holds every command that was offered
pub record HasLearnedAll (config : Counts) (offers : List (ℕ × DraftView)) (list : List Record) : Type 0 where
  pub offered : AreOffered offers list
  pub learned : AllLearned config (newest_first list)

-- the run ended when nothing was left to do, and it was settled if and only if a learner lacked an offered command then
pub record IsQuietOrSettled (policy : RoundPolicy) (config : Counts) (offers : List (ℕ × DraftView)) (list : List Record) : Type 0 where
  pub before : List Record
  pub quiet : IsQuietBy policy config before
  pub offered : AreOffered offers before
  pub settled : ((list ≡ before) × AllLearned config (newest_first before)) ⊎ ((¬ AllLearned config (newest_first before)) × (newest_first list ≡ settle config (newest_first before)))

-- an event may come next at a node with a log and changes its durable part to one that needs this many bytes, which is more than the limit leaves beside a log without entries, of this size
pub record IsOverLimit (config : Counts) (limit : ℕ) (run : List Entry) (size needed : ℕ) : Type 0 where
  pub event : Event
  pub may_come : fits config run event ≡ true
  pub part : EpochPart
  pub changed : part_in (acts (node_of event) (core_at config (node_of event) run) (messages run) event).0 ≡ Some part
  pub other : part_in (core_at config (node_of event) run) ≢ Some part
  pub smallest : size ≡ 17
  pub its_need : needed ≡ need None part
  pub great : limit < size + needed

-- the count of faults of some disk rose, and the disk does not reveal what it holds
pub record SomeLost {D : Type 0} (content : D → Option (List ℕ)) (faults : D → ℕ) (old new : List D) : Type 0 where
  pub place : ℕ
  pub was : D
  pub is : D
  pub before : slice_get old place ≡ Some was
  pub after : slice_get new place ≡ Some is
  pub rose : Rose (faults was) (faults is)
  pub hidden : content is ≡ None

-- why a run ended in this way: a disk failed only if the count of faults of some disk rose; its bytes were no log after a failure, or another log, only if that disk does not reveal what it holds; and a log was full only if a part was too great for it
abbrev pub EndCause : {D : Type 0} → (D → Option (List ℕ)) → (D → ℕ) → Counts → ℕ → List D → List D → Option (List Record) → RunEnd → Type 0
EndCause content faults config limit old new posted Learned = Unit {0}
EndCause content faults config limit old new posted NoMemory = Unit {0}
EndCause content faults config limit old new posted Disk = SomeRose faults old new
EndCause content faults config limit old new posted (Full size needed) = IfSome posted (λ list. IsOverLimit config limit (newest_first list) size needed)
EndCause content faults config limit old new posted (NotLog at) = SomeLost content faults old new
EndCause content faults config limit old new posted Changed = SomeLost content faults old new

-- these bytes are a log of this limit whose last entry has this part; a log without entries counts as one with the first part
abbrev pub EndsWith : ℕ → Option EpochPart → Option EpochPart → List ℕ → Type 0
EndsWith limit first part s = (es : List LogEntry) × HoldsEntries limit es s × (last_part first es ≡ part)

-- the disk of each node with a log, if it reveals what it holds, holds a log that ends with the durable part of the node after the run
abbrev pub HoldParts : {D : Type 0} → (D → Option (List ℕ)) → Counts → ℕ → List Entry → List D → Type 0
HoldParts {D} content config limit run disks = (k : ℕ) (n : Node) (disk : D) → slice_get (logged_nodes config) k ≡ Some n → slice_get disks (place_at config k) ≡ Some disk
    → IfRevealed (content disk) (EndsWith limit (part_in (opening config n)) (part_in (core_at config n run)))
