-- Why a run of the program ends as it does, by what is seen of the outside before and now.
use Rattle.std.specs.Prelude.{◌≡◌, ◌⊎◌, ℕ, ◌+◌, ◌<◌, ◌≤◌, Bool, true, false, List, [], ◌∷◌, map, slice_get, Option, Some, None, unwrap_or, Ok, Err}
use Rattle.gp_round.specs.Counts.{Counts}
use Rattle.gp_round.specs.Configs.{counts}
use Rattle.gp_edge.specs.Disks.{IfRevealed}
use Rattle.gp_edge.specs.Faults.{Rose}
use Rattle.gp_edge.specs.Reads.{ReadsUpTo, LosesUpTo}
use Rattle.gp_text.specs.Reading.{Reading, Whole, Refused}
use Rattle.gp_msg.specs.Messages.{EpochPart}
use Rattle.gp_vlog.specs.Bodies.{LogEntry, need}
use Rattle.gp_vlog.specs.Files.{Contents, is_limit, read_log}
use Rattle.gp_vlog.specs.Logs.{has_old}
use Rattle.gp_cli.specs.declared.subcommand.Operations.{Operations}
use Rattle.gp_cli.specs.declared.subcommand.Subcommand.{Subcommand}
use Rattle.gp_cli.specs.declared.subcommand.Subcommand.TheVariants.{Play, Run, Sim, Drive, Log, Upgrade, Audit}
use Rattle.gp_cli.specs.declared.runs.TheConstants.{MOST_READ}
use Rattle.gp_cli.specs.Subcommands.{named}
use Rattle.gp_cli.specs.Machines.{reading_of}
use Rattle.gp_cli.specs.Outside.{DeviceState, device, Outside}
use Rattle.gp_cli.specs.Run.{IsNodesCause}
use Rattle.gp_cli.specs.Audits.{IsAuditCause}
use Rattle.gp_cli.specs.Endings.{Shown, Ending, Misused, Unread, Refuses, Plays, Drives, Simulates, Shows, DiskFails, Overflows, Breaks, Starved}

-- ---- a script

-- the bytes read, up to one more than a script may have, have this reading by the machine's operations, and no fault was counted
pub record HasRead (operations : Operations) (before now : DeviceState) (read : Reading) : Type 0 where
  pub bytes : List ℕ
  pub taken : ReadsUpTo MOST_READ before.bytes now.bytes bytes
  pub steady : now.faults ≡ before.faults
  pub says : reading_of operations bytes ≡ read

-- why a run that reads a script of the machine ends in this way, by the source before and now
abbrev pub IsReadCause : Operations → DeviceState → DeviceState → Ending → Type 0
IsReadCause operations before now Unread = Rose before.faults now.faults × LosesUpTo MOST_READ before.bytes now.bytes
IsReadCause operations before now (Refuses line reason said) = HasRead operations before now (Refused line reason said)
IsReadCause operations before now (Plays own config said) = (own ≡ operations) × HasRead operations before now (Whole config said)
IsReadCause operations before now Starved = (now.faults ≡ before.faults) × LosesUpTo MOST_READ before.bytes now.bytes
IsReadCause operations before now ending = ⊥

-- why a run with a script of the machine at hand ends in this way, by the script's reading
abbrev pub IsScriptCause : Operations → Reading → Ending → Type 0
IsScriptCause operations read (Refuses line reason before) = read ≡ Refused line reason before
IsScriptCause operations read (Plays own config said) = (own ≡ operations) × (read ≡ Whole config said)
IsScriptCause operations read Starved = Unit {0}
IsScriptCause operations read ending = ⊥

-- ---- a run that needs no input

-- why such a run ends in this way: it is the ending that is meant, or memory ran out
abbrev pub IsRunCause : Ending → Ending → Type 0
IsRunCause meant ending = (ending ≡ meant) ⊎ (ending ≡ Starved)

-- ---- a log

-- what a log shows
abbrev pub shown : Contents → Shown
shown log = record { parts = map (λ e. e.part) log.entries; size = 17 + log.closed }

-- if the bytes are revealed, they are a log, and this holds of it
abbrev pub IfLog : Option (List ℕ) → (Contents → Type 0) → Type 0
IfLog bytes P = IfRevealed bytes (λ s. (log : Contents) × (read_log is_limit s ≡ Ok log) × P log)

-- why a run that shows the log of a disk ends in this way, by the disk before and now; the disk keeps what it holds
abbrev pub IsLogCause : ℕ → DeviceState → DeviceState → Ending → Type 0
IsLogCause disk before now (Shows k log) = (k ≡ disk) × (now ≡ before) × IfLog before.bytes (λ found. log ≡ shown found)
IsLogCause disk before now DiskFails = Rose before.faults now.faults × (now.bytes ≡ before.bytes)
IsLogCause disk before now (Breaks place) = (now ≡ before) × IfRevealed before.bytes (λ s. read_log is_limit s ≡ Err place)
IsLogCause disk before now Starved = now ≡ before
IsLogCause disk before now ending = ⊥

-- the last of some entries, in version 2 and alone
abbrev pub last_alone : List LogEntry → List LogEntry
last_alone [] = []
last_alone (e ∷ []) = (record { old = false; part = e.part }) ∷ []
last_alone (e ∷ f ∷ es) = last_alone (f ∷ es)

-- what a log holds after an upgrade: if one of its entries is of version 1, the last one alone, in version 2; and otherwise what it held
pub record IsTakenOn (before now : Contents) : Type 0 where
  pub limit : now.limit ≡ before.limit
  pub renewed : has_old before.entries ≡ true → now.entries ≡ last_alone before.entries
  pub same : has_old before.entries ≡ false → now ≡ before

-- there is room for the last of these entries, whole and alone
abbrev pub FitsAlone : ℕ → List LogEntry → Type 0
FitsAlone limit entries = (last : EpochPart) → last_alone entries ≡ (record { old = false; part = last }) ∷ [] → 17 + need None last ≤ limit

-- a log has room for its last entry, whole, if one of its entries is of version 1
abbrev pub HasRoomForLast : Contents → Type 0
HasRoomForLast log = has_old log.entries ≡ true → FitsAlone log.limit log.entries

-- a log with entries of version 1 has no room for its last one, whole
pub record HasNoRoom (size need_of_last limit : ℕ) (entries : List LogEntry) : Type 0 where
  pub old : has_old entries ≡ true
  pub smallest : size ≡ 17
  pub last : EpochPart
  pub is_last : last_alone entries ≡ (record { old = false; part = last }) ∷ []
  pub its_need : need_of_last ≡ need None last
  pub great : limit < size + need_of_last

-- why a run that renews and shows the log of a disk ends in this way
abbrev pub IsUpgradeCause : ℕ → DeviceState → DeviceState → Ending → Type 0
IsUpgradeCause disk before now (Shows k log) =
    (k ≡ disk) × (now.faults ≡ before.faults) × IfLog before.bytes (λ was. HasRoomForLast was × IfLog now.bytes (λ found. IsTakenOn was found × (log ≡ shown found)))
IsUpgradeCause disk before now DiskFails = Rose before.faults now.faults
IsUpgradeCause disk before now (Overflows size need) = (now ≡ before) × IfLog before.bytes (λ log. HasNoRoom size need log.limit log.entries)
IsUpgradeCause disk before now (Breaks place) = (now ≡ before) × IfRevealed before.bytes (λ s. read_log is_limit s ≡ Err place)
IsUpgradeCause disk before now Starved = now.faults ≡ before.faults
IsUpgradeCause disk before now ending = ⊥

-- why a run that shows the log of a disk, and renews it first if it upgrades, ends in this way
abbrev pub log_cause : Bool → ℕ → DeviceState → DeviceState → Ending → Type 0
log_cause false = IsLogCause
log_cause true = IsUpgradeCause

-- what is seen of a disk, by its number, and nothing if there is none
abbrev pub device_at : ℕ → List DeviceState → DeviceState
device_at k disks = unwrap_or (slice_get disks k) (device None 0)

-- ---- by the words

-- three coordinators; in a driven run the last one takes no part
abbrev pub driven_config : ℕ → ℕ → Counts
driven_config acceptors learners = counts acceptors 3 learners

-- why a run whose words name no subcommand ends in this way
abbrev pub IsMisuse : Ending → Type 0
IsMisuse ending = ending ≡ Misused

-- why a run ends in this way, by the subcommand, if there is one
abbrev pub IsCauseFor : Option Subcommand → Outside → Outside → Ending → Type 0
IsCauseFor None before now ending = IsMisuse ending
IsCauseFor (Some (Play operations)) before now ending = IsReadCause operations before.source now.source ending
IsCauseFor (Some (Run policy limit viewed)) before now ending = IsNodesCause policy limit viewed before.source now.source before.disks now.disks ending
IsCauseFor (Some (Sim seed commands)) before now ending = IsRunCause (Simulates seed commands) ending
IsCauseFor (Some (Drive acceptors learners commands)) before now ending = IsRunCause (Drives (driven_config acceptors learners) commands) ending
IsCauseFor (Some (Log k)) before now ending = IsLogCause k (device_at k before.disks) (device_at k now.disks) ending
IsCauseFor (Some (Upgrade k)) before now ending = IsUpgradeCause k (device_at k before.disks) (device_at k now.disks) ending
IsCauseFor (Some Audit) before now ending = IsAuditCause before.source now.source ending

-- the same, by the words
abbrev pub IsCause : List (List ℕ) → Outside → Outside → Ending → Type 0
IsCause words before now ending = IsCauseFor (named words) before now ending

-- the subcommand reads the source
abbrev pub IsReader : Option Subcommand → Type 0
IsReader None = ⊥
IsReader (Some (Play operations)) = Unit {0}
IsReader (Some (Run policy limit viewed)) = Unit {0}
IsReader (Some (Sim seed commands)) = ⊥
IsReader (Some (Drive acceptors learners commands)) = ⊥
IsReader (Some (Log k)) = ⊥
IsReader (Some (Upgrade k)) = ⊥
IsReader (Some Audit) = Unit {0}

-- nodes run in threads
abbrev pub RunsNodes : Option Subcommand → Type 0
RunsNodes None = ⊥
RunsNodes (Some (Play operations)) = ⊥
RunsNodes (Some (Run policy limit viewed)) = Unit {0}
RunsNodes (Some (Sim seed commands)) = ⊥
RunsNodes (Some (Drive acceptors learners commands)) = ⊥
RunsNodes (Some (Log k)) = ⊥
RunsNodes (Some (Upgrade k)) = ⊥
RunsNodes (Some Audit) = ⊥

-- the disk whose log the subcommand shows, if it shows one
abbrev pub disk_used : Option Subcommand → Option ℕ
disk_used None = None
disk_used (Some (Play operations)) = None
disk_used (Some (Run policy limit viewed)) = None
disk_used (Some (Sim seed commands)) = None
disk_used (Some (Drive acceptors learners commands)) = None
disk_used (Some (Log k)) = Some k
disk_used (Some (Upgrade k)) = Some k
disk_used (Some Audit) = None
