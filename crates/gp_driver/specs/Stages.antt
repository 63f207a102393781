-- What a stage is, and what a driver does to it.
use Rattle.std.specs.Prelude.{◌≡◌, ◌≢◌, ◌≤◌, ◌<◌, ◌+◌, ◌-◌, ◌^◌, ◌⊎◌, ℕ, min, Bool, true, false, List, ◌++◌, length, map, slice_get, Option, Some, Result, Ok, Err, OnOk}
use Rattle.std.specs.List.{AllZip}
use Rattle.gp_round.specs.Counts.{Counts}
use Rattle.gp_msg.specs.declared.node.Node.{Node}
use Rattle.gp_msg.specs.declared.node.Node.TheVariants.{Proposer}
use Rattle.gp_msg.specs.declared.event.Event.{Event}
use Rattle.gp_msg.specs.declared.event.Event.TheVariants.{Offer, Begin, Take, Fall}
use Rattle.gp_msg.specs.Messages.{Entry}
use Rattle.gp_run.specs.Legal.{fits}
use Rattle.gp_driver.specs.declared.stage.StageFault.{StageFault}
use Rattle.gp_driver.specs.declared.stage.StageFault.TheVariants.{NoMemory, Disk, Full}

-- one node of a stage: which node it is, how often its disk failed, the limit of its log if it keeps one, and its events in the run, the oldest first
pub record StageNode : Type 0 where
  pub node : Node
  pub faults : ℕ
  pub limit : Option ℕ
  pub events : List Event

-- what contracts see of a stage: its configuration, the run of its nodes with the newest entry first, the nodes that it lists, how often a disk failed or a log was full, whether a step can be made, and which two numbers, the size of a log and the bytes that an entry needs, are too great for an event
pub record StageState : Type 1 where
  pub config : Counts
  pub run : List Entry
  pub nodes : List StageNode
  pub faults : ℕ
  pub is_ready : Type 0
  pub is_too_great : Event → ℕ → ℕ → Type 0

-- ---- nodes

-- every node
abbrev pub Anyone : Node → Type 0
Anyone n = Unit {0}

-- no node
abbrev pub Nobody : Node → Type 0
Nobody n = ⊥

-- every node but this one
abbrev pub AllBut : Node → Node → Type 0
AllBut node n = n ≢ node

-- the node is a proposer
abbrev pub IsProposer : Node → Type 0
IsProposer n = (p : ℕ) × (n ≡ Proposer p)

-- the same node later: its disk failed at least as often, its log has the same limit, and if it is idle it has the same events
pub record NodeGoes (idle : Node → Type 0) (old new : StageNode) : Type 0 where
  pub same_node : new.node ≡ old.node
  pub later : old.faults ≤ new.faults
  pub same_limit : new.limit ≡ old.limit
  pub rests : idle old.node → new.events ≡ old.events

-- the same nodes later, in the same order
pub record NodesGo (idle : Node → Type 0) (old new : List StageNode) : Type 0 where
  pub each : AllZip (NodeGoes idle) old new

-- how often the disks of these nodes failed, in the order of the nodes
abbrev pub fault_counts : List StageNode → List ℕ
fault_counts nodes = map (λ (n : StageNode). n.faults) nodes

-- ---- the run

-- the newer run is the older one with more entries
abbrev pub Extends : List Entry → List Entry → Type 0
Extends old new = (more : List Entry) × (new ≡ more ++ old)

-- a stage later: the same nodes, and a run that extends the run before
pub record StageGoes (idle : Node → Type 0) (old new : StageState) : Type 0 where
  pub nodes : NodesGo idle old.nodes new.nodes
  pub grows : Extends old.run new.run

-- ---- faults

-- the event is a crash of a node
abbrev pub is_fall : Event → Bool
is_fall (Offer p d) = false
is_fall (Begin c r) = false
is_fall (Take node k) = false
is_fall (Fall node what) = true

-- a count has risen, or is at its greatest value
abbrev pub Rose : ℕ → ℕ → Type 0
Rose before now = (before < now) ⊎ (now ≡ 2 ^ 64 - 1)

-- a count has risen by one, or has stayed at its greatest value
abbrev pub RoseByOne : ℕ → ℕ → Type 0
RoseByOne before now = now ≡ min (before + 1) (2 ^ 64 - 1)

-- the numbers are too great for an event, not a crash, that could come next
pub record IsTooGreatForOne (config : Counts) (es : List Entry) (is_too_great : Event → ℕ → ℕ → Type 0) (size need : ℕ) : Type 0 where
  pub event : Event
  pub event_fits : fits config es event ≡ true
  pub no_fall : is_fall event ≡ false
  pub great : is_too_great event size need

-- the count of a disk has risen, or is at its greatest value
abbrev pub HasRisen : ℕ → ℕ → Type 0
HasRisen before now = (before < now) ⊎ (2 ^ 64 - 1 ≤ now)

-- the disk of one of these nodes failed
pub record SomeNodeRose (old new : List StageNode) : Type 0 where
  pub place : ℕ
  pub was : StageNode
  pub is : StageNode
  pub before : slice_get old place ≡ Some was
  pub after : slice_get new place ≡ Some is
  pub rose : HasRisen was.faults is.faults

-- if the result is the fault of a disk, P holds
abbrev pub IfDiskFailed : Result ℕ StageFault → Type 0 → Type 0
IfDiskFailed (Ok n) P = Unit {0}
IfDiskFailed (Err NoMemory) P = Unit {0}
IfDiskFailed (Err Disk) P = P
IfDiskFailed (Err (Full size need)) P = Unit {0}

-- unless the result is the fault of a disk, P holds
abbrev pub UnlessDiskFailed : Result ℕ StageFault → Type 0 → Type 0
UnlessDiskFailed (Ok n) P = P
UnlessDiskFailed (Err NoMemory) P = P
UnlessDiskFailed (Err Disk) P = Unit {0}
UnlessDiskFailed (Err (Full size need)) P = P

-- if the result is the fault of a disk, the disk of one of these nodes failed; otherwise none of them failed
pub record FailsByNode (old new : List StageNode) (result : Result ℕ StageFault) : Type 0 where
  pub by_node : IfDiskFailed result (SomeNodeRose old new)
  pub steady : UnlessDiskFailed result (fault_counts new ≡ fault_counts old)

-- a fault has a cause: Disk comes only if the count of faults rose; Full comes only if it rose by one, with numbers that are too great; after NoMemory it is unchanged
abbrev pub HasCause : ℕ → ℕ → (ℕ → ℕ → Type 0) → StageFault → Type 0
HasCause before now is_too_great NoMemory = now ≡ before
HasCause before now is_too_great Disk = Rose before now
HasCause before now is_too_great (Full size need) = RoseByOne before now × is_too_great size need

-- ---- what a driver did

-- the run is the target, the number is how many entries were added, and the next step can be made; or the fault has a cause
abbrev pub Outcome : List Entry → List Entry → List Entry → Type 0 → (StageFault → Type 0) → Result ℕ StageFault → Type 0
Outcome es zs target ready cause (Ok n) = (zs ≡ target) × (length zs ≡ length es + n) × ready
Outcome es zs target ready cause (Err fault) = cause fault

-- a driver brought a stage to the target run, the result is how many events this took, and the count of faults is unchanged; or a fault ended it
pub record HasDriven (old new : StageState) (target : List Entry) (result : Result ℕ StageFault) : Type 0 where
  pub same_config : new.config ≡ old.config
  pub later : old.faults ≤ new.faults
  pub steady : OnOk result (new.faults ≡ old.faults)
  pub outcome : Outcome old.run new.run target new.is_ready (HasCause old.faults new.faults (IsTooGreatForOne old.config new.run new.is_too_great)) result
