-- Why a step or a recovery of a cell was refused.
use Rattle.std.specs.Prelude.{◌≡◌, ◌≢◌, ◌⊎◌, ℕ, ◌+◌, ◌<◌, ◌≤◌, [], ◌∷◌, ◌++◌, length, Option, Some, None, Result, Ok, Err, false}
use Rattle.std.specs.Option.{option_map}
use Rattle.gp_msg.specs.declared.durable.Durable.{Durable}
use Rattle.gp_msg.specs.declared.event.Event.{Event}
use Rattle.gp_msg.specs.declared.record.Record.{Record}
use Rattle.gp_msg.specs.Messages.{EpochPart, part_of, entry_of}
use Rattle.gp_edge.specs.Faults.{Rose}
use Rattle.gp_run.specs.Messages.{messages}
use Rattle.gp_run.specs.Runs.{newest_first}
use Rattle.gp_vlog.specs.Bodies.{need}
use Rattle.gp_vlog.specs.Logs.{LogState, last}
use Rattle.gp_msg.specs.Records.{messages_in}
use Rattle.gp_wire.specs.Known.{records}
use Rattle.gp_work.specs.declared.moves.Move.{Move}
use Rattle.gp_work.specs.Moves.{event_of, IsBeyond}
use Rattle.gp_work.specs.declared.faults.StepFault.{StepFault}
use Rattle.gp_work.specs.declared.faults.StepFault.TheVariants.{Waiting, NoMemory, Disk, Full}
use Rattle.gp_work.specs.declared.faults.RiseFault.{RiseFault}
use Rattle.gp_work.specs.declared.faults.RiseFault.TheVariants as rise
use Rattle.gp_cell.specs.declared.roles.Core.{Core}
use Rattle.gp_cell.specs.Cores.{acts, part_in}
use Rattle.gp_cell.specs.Lawful.{IsLawful}
use Rattle.gp_cell.specs.Cells.{CellState}

-- how often the disk of a log failed, and 0 if there is no log
abbrev pub faults_of : {D : Type 0} → (D → ℕ) → Option (LogState D) → ℕ
faults_of faults None = 0
faults_of faults (Some log) = faults log.disk

-- the limit of a log, if there is one
abbrev pub limit_of : {D : Type 0} → Option (LogState D) → Option ℕ
limit_of log = option_map (λ l. l.limit) log

-- the disk failed
abbrev pub IsDisk : StepFault → Type 0
IsDisk Waiting = ⊥
IsDisk NoMemory = ⊥
IsDisk Disk = Unit {0}
IsDisk (Full size need) = ⊥

abbrev pub FailsByDisk : {T : Type 0} → Result T StepFault → Type 0
FailsByDisk (Ok x) = ⊥
FailsByDisk (Err e) = IsDisk e

-- the count of faults does not decrease; it has increased if the disk failed, and is unchanged otherwise
pub record CountsFaults {T : Type 0} (before now : ℕ) (result : Result T StepFault) : Type 0 where
  pub never_falls : before ≤ now
  pub failed : FailsByDisk result → Rose before now
  pub steady : ¬ FailsByDisk result → now ≡ before

-- the disk failed in a recovery
abbrev pub IsRiseDisk : RiseFault → Type 0
IsRiseDisk rise.NoMemory = ⊥
IsRiseDisk rise.Disk = Unit {0}
IsRiseDisk (rise.NotLog at) = ⊥
IsRiseDisk (rise.Changed found) = ⊥

abbrev pub RiseFailsByDisk : {T : Type 0} → Result T RiseFault → Type 0
RiseFailsByDisk (Ok x) = ⊥
RiseFailsByDisk (Err e) = IsRiseDisk e

pub record CountsRiseFaults {T : Type 0} (before now : ℕ) (result : Result T RiseFault) : Type 0 where
  pub never_falls : before ≤ now
  pub failed : RiseFailsByDisk result → Rose before now
  pub steady : ¬ RiseFailsByDisk result → now ≡ before

-- the log has room for the part, as one more entry or as its only one
abbrev pub HasRoomFor : {D : Type 0} → LogState D → EpochPart → Type 0
HasRoomFor log part = (log.size + need (option_map part_of (last log.entries)) part ≤ log.limit) ⊎ (17 + need None part ≤ log.limit)

-- the log has no room for the part, neither as one more entry nor as its only one, which needs `needed` bytes
pub record HasNoRoom {D : Type 0} (log : LogState D) (part : EpochPart) (needed : ℕ) : Type 0 where
  pub no_more : log.limit < log.size + need (option_map part_of (last log.entries)) part
  pub not_alone : log.limit < 17 + need None part
  pub needed_is : needed ≡ need None part

-- at a cell, an event of its node is legal next and changes the durable part, and the log has no room for the new part; the two numbers are the size of a log without entries, and the bytes that the part needs
pub record IsTooGreat {D : Type 0} (c : CellState D) (event : Event) (size needed : ℕ) : Type 0 where
  pub item : Record
  pub event_is : item.event ≡ event
  pub own : item.node ≡ c.node
  pub lawful : IsLawful c.config (newest_first (records c.pass)) (entry_of item)
  pub log : LogState D
  pub log_is : c.log ≡ Some log
  pub part : EpochPart
  pub after : part_in (acts c.node c.core (messages (newest_first (records c.pass))) event).0 ≡ Some part
  pub changes : part_in c.core ≢ Some part
  pub size_is : size ≡ 17
  pub no_room : HasNoRoom log part needed

-- `Ok` and `Disk` come only if the log had room for the part, and `Full` only if it had none; after `Full` the log is unchanged
abbrev pub IsFullWhere : {D T : Type 0} → LogState D → LogState D → EpochPart → Result T StepFault → Type 0
IsFullWhere old new part (Ok x) = HasRoomFor old part
IsFullWhere old new part (Err Waiting) = ⊥
IsFullWhere old new part (Err NoMemory) = Unit {0}
IsFullWhere old new part (Err Disk) = HasRoomFor old part
IsFullWhere old new part (Err (Full size needed)) = (new ≡ old) × (size ≡ 17) × HasNoRoom old part needed

-- the log has the part after its entries, or alone if there was no room for one more
abbrev pub AddsPart : {D : Type 0} → LogState D → LogState D → Durable → Type 0
AddsPart old new d =
    ((old.size + need (option_map part_of (last old.entries)) (part_of d) ≤ old.limit) × (new.entries ≡ old.entries ++ d ∷ []))
    ⊎ ((old.limit < old.size + need (option_map part_of (last old.entries)) (part_of d)) × (new.entries ≡ d ∷ []))

-- the same for the log of a node
abbrev pub IsFullLogWhere : {D T : Type 0} → Option (LogState D) → Option (LogState D) → EpochPart → Result T StepFault → Type 0
IsFullLogWhere (Some old) (Some new) part result = IsFullWhere old new part result
IsFullLogWhere _ _ part result = ⊥

-- a log had no room for the durable part of the next core, which has changed, and is unchanged
pub record IsOverFull {D : Type 0} (old new : Option (LogState D)) (core next : Core) (needed : ℕ) : Type 0 where
  pub log : LogState D
  pub log_is : old ≡ Some log
  pub same : new ≡ old
  pub part : EpochPart
  pub after : part_in next ≡ Some part
  pub changes : part_in core ≢ Some part
  pub no_room : HasNoRoom log part needed

-- a log had room for the durable part of the next core, which has changed
pub record IsTried {D : Type 0} (old : Option (LogState D)) (before after : Option EpochPart) : Type 0 where
  pub log : LogState D
  pub log_is : old ≡ Some log
  pub part : EpochPart
  pub part_is : after ≡ Some part
  pub changes : before ≢ Some part
  pub room : HasRoomFor log part

-- the durable part after a move, given what the pass has seen after it
abbrev pub part_after : {D : Type 0} → CellState D → CellState D → Move → Option EpochPart
part_after old new mv = part_in (acts old.node old.core (messages (newest_first (records new.pass))) (event_of old.node mv)).0

-- the log is not ready
abbrev pub IsUnready : {D : Type 0} → Option (LogState D) → Type 0
IsUnready None = ⊥
IsUnready (Some log) = log.ready ≡ false

-- the log has one more part after its entries, or alone
abbrev pub HasAdded : {D : Type 0} → Option (LogState D) → Option (LogState D) → Type 0
HasAdded (Some old) (Some new) = (d : Durable) × AddsPart old new d
HasAdded _ _ = ⊥

-- the append to the log had begun: memory ran out in it, and the log is not ready; or it is done
abbrev pub HasBegun : {D : Type 0} → Option (LogState D) → Option (LogState D) → Type 0
HasBegun old new = IsUnready new ⊎ HasAdded old new

-- the node is up, with its log as before; or it went down in this move, and the append to its log had begun
abbrev pub IsUpOrBegun : {D : Type 0} → CellState D → CellState D → Move → Type 0
IsUpOrBegun old new mv = ((new.down ≡ None) × (new.log ≡ old.log)) ⊎ ((new.down ≡ Some mv) × HasBegun old.log new.log)

-- if memory ran out, the log is not ready
abbrev pub IsBegunBy : {D T : Type 0} → Option (LogState D) → Result T StepFault → Type 0
IsBegunBy log (Ok x) = Unit {0}
IsBegunBy log (Err Waiting) = Unit {0}
IsBegunBy log (Err NoMemory) = IsUnready log
IsBegunBy log (Err Disk) = Unit {0}
IsBegunBy log (Err (Full size needed)) = Unit {0}

-- why the durable part of the next core was not written in this move
abbrev pub WriteCause : {D : Type 0} → CellState D → CellState D → Core → Move → StepFault → Type 0
WriteCause old new next mv Waiting = ⊥
WriteCause old new next mv NoMemory = IsUpOrBegun old new mv
WriteCause old new next mv Disk = (new.down ≡ Some mv) × IsTried old.log (part_in old.core) (part_in next)
WriteCause old new next mv (Full size needed) = (new.down ≡ Some mv) × (size ≡ 17) × IsOverFull old.log new.log old.core next needed

-- why a step was refused: the message that it takes was not sent; memory ran out, and the node is down exactly if the append to its log had begun; or it is down because its disk failed or its log had no room
abbrev pub StepCause : {D : Type 0} → CellState D → CellState D → Move → StepFault → Type 0
StepCause old new mv Waiting = IsBeyond (length (messages_in (records new.pass))) mv × (new.down ≡ None) × (new.log ≡ old.log)
StepCause old new mv NoMemory = IsUpOrBegun old new mv
StepCause old new mv Disk = (new.down ≡ Some mv) × IsTried old.log (part_in old.core) (part_after old new mv)
StepCause old new mv (Full size needed) = (new.down ≡ Some mv) × IsTooGreat new (event_of new.node mv) size needed

-- the message was not sent, or memory ran out
abbrev pub IsReadFault : StepFault → Type 0
IsReadFault Waiting = Unit {0}
IsReadFault NoMemory = Unit {0}
IsReadFault Disk = ⊥
IsReadFault (Full size need) = ⊥
