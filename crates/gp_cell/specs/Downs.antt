-- What is on the disk of a cell that is down.
use Rattle.std.specs.Prelude.{◌≡◌, ◌⊎◌, ℕ, false, List, ◌++◌, Option, Some, None}
use Rattle.gp_round.specs.Counts.{Counts}
use Rattle.gp_msg.specs.declared.node.Node.{Node}
use Rattle.gp_msg.specs.Messages.{Stamped, EpochPart}
use Rattle.gp_run.specs.Messages.{messages}
use Rattle.gp_run.specs.Runs.{newest_first}
use Rattle.gp_wire.specs.Known.{records}
use Rattle.gp_edge.specs.Disks.{IfRevealed, RevealsAlike, LeavesOnly}
use Rattle.gp_vlog.specs.Bodies.{LogEntry}
use Rattle.gp_vlog.specs.Logs.{LogState, HoldsEntries, IsReady, log_entries, has_old}
use Rattle.gp_work.specs.declared.moves.Move.{Move}
use Rattle.gp_work.specs.Moves.{event_of}
use Rattle.gp_work.specs.declared.faults.RiseFault.{RiseFault}
use Rattle.gp_work.specs.declared.faults.RiseFault.TheVariants.{NoMemory, Disk, NotLog, Changed}
use Rattle.gp_cell.specs.declared.roles.Core.{Core}
use Rattle.gp_cell.specs.Cores.{opening, acts, part_in}
use Rattle.gp_cell.specs.Cells.{CellState}
use Rattle.gp_cell.specs.Crashes.{last_part}

-- these bytes hold a log of this limit, with no entry of version 1, whose last entry has one of two parts; without entries it counts as one with the first part
pub record HoldsOneOf (limit : ℕ) (first before after : Option EpochPart) (s : List ℕ) : Type 0 where
  pub entries : List LogEntry
  pub holds : HoldsEntries limit entries s
  pub current : has_old entries ≡ false
  pub ends : (before ≡ last_part first entries) ⊎ (after ≡ last_part first entries)

-- if the disk reveals its content, a crash now leaves such a log
abbrev pub MayHold : {D : Type 0} → (D → Option (List ℕ)) → (D → List ℕ → Type 0) → Option EpochPart → Option EpochPart → Option EpochPart → Option (LogState D) → Type 0
MayHold content image first before after None = Unit {0}
MayHold content image first before after (Some log) = IfRevealed (content log.disk) (λ s. (c : List ℕ) → image log.disk c → HoldsOneOf log.limit first before after c)

-- a cell went down in this move, after these messages were sent: the part after the move is the same however many messages were sent since, and a crash now leaves a log that ends with the part before the move or the one after it
pub record HoldsEither {D : Type 0} (content : D → Option (List ℕ)) (image : D → List ℕ → Type 0) (config : Counts) (node : Node) (core : Core) (log : Option (LogState D)) (ms : List Stamped) (mv : Move) : Type 0 where
  pub after : Option EpochPart
  pub after_is : (more : List Stamped) → part_in (acts node core (ms ++ more) (event_of node mv)).0 ≡ after
  pub holds : MayHold content image (part_in (opening config node)) (part_in core) after log

-- the same, if the cell is down
abbrev pub StaysEither : {D : Type 0} → (D → Option (List ℕ)) → (D → List ℕ → Type 0) → Counts → Node → Core → Option (LogState D) → List Stamped → Option Move → Type 0
StaysEither content image config node core log ms down = (mv : Move) → down ≡ Some mv → HoldsEither content image config node core log ms mv

-- a cell went down in this move, after the messages of its pass or the first of them, and its log is so
abbrev pub LeavesEither : {D : Type 0} → (D → Option (List ℕ)) → (D → List ℕ → Type 0) → CellState D → Move → Type 0
LeavesEither content image c mv = HoldsEither content image c.config c.node c.core c.log (messages (newest_first (records c.pass))) mv

-- both disks reveal their content, or neither
abbrev pub AlikeLogs : {D : Type 0} → (D → Option (List ℕ)) → Option (LogState D) → Option (LogState D) → Type 0
AlikeLogs content (Some old) (Some new) = RevealsAlike (content old.disk) (content new.disk)
AlikeLogs content _ _ = ⊥

-- a crash since then leaves what it left then
abbrev pub LeavesSame : {D : Type 0} → (D → List ℕ → Type 0) → (D → ℕ) → (D → ℕ → List ℕ → Type 0) → Option (LogState D) → Option (LogState D) → Type 0
LeavesSame image moment since (Some old) (Some new) = LeavesOnly moment since old.disk new.disk (image old.disk)
LeavesSame image moment since _ _ = ⊥

-- the log is ready, and is of version 1 exactly if an entry of it is
abbrev pub IsOpened : {D : Type 0} → (D → Option (List ℕ)) → (D → List ℕ → Type 0) → LogState D → Type 0
IsOpened content image log = IsReady content image log × (log.is_old ≡ has_old (log_entries log.is_old log.entries))

abbrev pub IsOpenedLog : {D : Type 0} → (D → Option (List ℕ)) → (D → List ℕ → Type 0) → Option (LogState D) → Type 0
IsOpenedLog content image None = ⊥
IsOpenedLog content image (Some log) = IsOpened content image log

-- the fault speaks of what is on the disk
abbrev pub IsOfLog : RiseFault → Type 0
IsOfLog NoMemory = ⊥
IsOfLog Disk = ⊥
IsOfLog (NotLog at) = Unit {0}
IsOfLog (Changed found) = Unit {0}

-- the disk of the log does not reveal its content
abbrev pub HidesLog : {D : Type 0} → (D → Option (List ℕ)) → Option (LogState D) → Type 0
HidesLog content None = ⊥
HidesLog content (Some log) = content log.disk ≡ None
