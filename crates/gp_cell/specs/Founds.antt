-- What was found in a log.
use Rattle.std.specs.Prelude.{◌≡◌, ◌⊎◌, ℕ, true, false, cond, nat_eq, List, Option, Some, None}
use Rattle.gp_msg.specs.declared.durable.Durable.{Durable}
use Rattle.gp_vlog.specs.declared.fault.OpenFault.TheVariants as opening
use Rattle.gp_vlog.specs.Logs.{LogState}
use Rattle.gp_vlog.specs.Reading.{BreaksAt}
use Rattle.gp_work.specs.declared.faults.RiseFault.{RiseFault}
use Rattle.gp_work.specs.declared.faults.RiseFault.TheVariants.{NoMemory, Disk, NotLog, Changed}
use Rattle.gp_msg.specs.Messages.{EpochPart, part_of}
use Rattle.gp_run.specs.Messages.{messages}
use Rattle.gp_run.specs.Runs.{newest_first}
use Rattle.gp_wire.specs.Known.{records}
use Rattle.gp_work.specs.declared.moves.Move.{Move}
use Rattle.gp_work.specs.Moves.{event_of}
use Rattle.gp_cell.specs.declared.found.Found.{Found}
use Rattle.gp_cell.specs.Cores.{opening, acts, part_in}
use Rattle.gp_cell.specs.Cells.{CellState, Keeps, last_or, last_entry}
use Rattle.gp_cell.specs.Falls.{FitsNone}

-- the last entry, if there is one
abbrev pub found_entry : Found → Option Durable
found_entry f = cond f.has_entry (Some f.part) None

-- the bytes of the disk, if it reveals them, break the format of a log at the place that a refusal names, and at no smaller one
abbrev pub BreaksWhere : ℕ → Option (List ℕ) → RiseFault → Type 0
BreaksWhere limit content NoMemory = Unit {0}
BreaksWhere limit content Disk = Unit {0}
BreaksWhere limit content (NotLog at) = BreaksAt (nat_eq limit) content (opening.NotLog at)
BreaksWhere limit content (Changed found) = Unit {0}

-- the same for the log of a node
abbrev pub LogBreaksWhere : {D : Type 0} → (D → Option (List ℕ)) → Option (LogState D) → RiseFault → Type 0
LogBreaksWhere content None fault = Unit {0}
LogBreaksWhere content (Some log) fault = BreaksWhere log.limit (content log.disk) fault

abbrev pub IsChanged : RiseFault → Type 0
IsChanged NoMemory = ⊥
IsChanged Disk = ⊥
IsChanged (NotLog at) = ⊥
IsChanged (Changed found) = Unit {0}

-- an entry of the log is of version 1
abbrev pub IsOldLog : {D : Type 0} → Option (LogState D) → Type 0
IsOldLog None = ⊥
IsOldLog (Some log) = log.is_old ≡ true

-- the last entry of the log, or the first part if there is none, is this part
abbrev pub EndsWith : {D : Type 0} → Option EpochPart → Option (LogState D) → EpochPart → Type 0
EndsWith (Some first) (Some log) part = last_or first log.entries ≡ part
EndsWith _ _ part = ⊥

-- what was found in a log
pub record IsFound {D : Type 0} (first : Option EpochPart) (log : Option (LogState D)) (f : Found) : Type 0 where
  pub ends : EndsWith first log (part_of f.part)
  pub kept : f.is_old ≡ false → Keeps first (Some (part_of f.part)) log
  pub old : f.is_old ≡ true → IsOldLog log
  pub entry : found_entry f ≡ last_entry log

-- the log of a node that went down in a move is of version 1, or ends with neither the part before the move nor that after it
abbrev pub HasOtherLog : {D : Type 0} → CellState D → Move → Type 0
HasOtherLog c mv =
    IsOldLog c.log
    ⊎ ((part : EpochPart) × EndsWith (part_in (opening c.config c.node)) c.log part × FitsNone c.core (acts c.node c.core (messages (newest_first (records c.pass))) (event_of c.node mv)).0 part)

-- why no record of a crash was made
abbrev pub FallCause : {D : Type 0} → CellState D → Move → RiseFault → Type 0
FallCause c mv NoMemory = Unit {0}
FallCause c mv Disk = ⊥
FallCause c mv (NotLog at) = ⊥
FallCause c mv (Changed found) = (found ≡ last_entry c.log) × HasOtherLog c mv

-- why a node did not recover: its disk failed; the bytes of the disk break the format at this place; its log has changed to what was found; or memory ran out
abbrev pub RiseCause : {D : Type 0} → (D → Option (List ℕ)) → CellState D → CellState D → Move → RiseFault → Type 0
RiseCause content old new mv NoMemory = Unit {0}
RiseCause content old new mv Disk = Unit {0}
RiseCause content old new mv (NotLog at) = LogBreaksWhere content old.log (NotLog at)
RiseCause content old new mv (Changed found) = (found ≡ last_entry new.log) × HasOtherLog new mv

-- the same for a node that is down
abbrev pub IsNotRisen : {D : Type 0} → (D → Option (List ℕ)) → CellState D → CellState D → RiseFault → Type 0
IsNotRisen content old new fault = (mv : Move) × (old.down ≡ Some mv) × RiseCause content old new mv fault
