-- What contracts see of a log, and what its disk holds.
use Rattle.std.specs.Prelude.{◌≡◌, ◌≤◌, ◌<◌, ◌⊎◌, ℕ, ◌+◌, Bool, true, false, List, [], ◌∷◌, ◌++◌, map, length, ◌-◌, slice_get, Option, Result, Ok, Err}
use Rattle.std.specs.List.{All, list_any}
use Rattle.gp_command.specs.Spelling.{IsNumbered}
use Rattle.gp_edge.specs.Disks.{IfRevealed, Only}
use Rattle.gp_round.specs.Rounds.{earlier}
use Rattle.gp_msg.specs.declared.durable.Durable.{Durable}
use Rattle.gp_msg.specs.declared.durable.Durable.TheVariants.{Acceptor, Coordinator}
use Rattle.gp_msg.specs.Messages.{part_of}
use Rattle.gp_vlog.specs.declared.header.TheConstants.{LEAST_LIMIT, MOST_LIMIT}
use Rattle.gp_vlog.specs.declared.fault.AppendFault.{AppendFault}
use Rattle.gp_vlog.specs.declared.fault.AppendFault.TheVariants.{Full, Disk, NoMemory}
use Rattle.gp_vlog.specs.Bodies.{LogEntry, entry_with, is_round}
use Rattle.gp_vlog.specs.Files.{Contents, is_limit, read_log}

-- its disk, its limit, its entries, whether they are of version 1, its size, and whether it is ready
pub record LogState (D : Type 0) : Type 0 where
  pub disk : D
  pub limit : ℕ
  pub entries : List Durable
  pub is_old : Bool
  pub size : ℕ
  pub ready : Bool

abbrev pub entry_for : Bool → Durable → LogEntry
entry_for old d = entry_with old (part_of d)

abbrev pub log_entries : Bool → List Durable → List LogEntry
log_entries old ds = map (entry_for old) ds

-- the last durable part
abbrev pub last : List Durable → Option Durable
last ds = slice_get ds (length ds - 1)

-- these bytes are a log of this limit, with these entries and of this size
pub record Shows (limit : ℕ) (es : List LogEntry) (size : ℕ) (s : List ℕ) : Type 0 where
  pub contents : Contents
  pub reads : read_log is_limit s ≡ Ok contents
  pub limit_is : contents.limit ≡ limit
  pub entries_are : contents.entries ≡ es
  pub size_is : 17 + contents.closed ≡ size

abbrev pub HoldsEntries : ℕ → List LogEntry → List ℕ → Type 0
HoldsEntries limit es s = (size : ℕ) × Shows limit es size s

-- if the disk reveals its content, reads return this log, and a crash leaves nothing else
abbrev pub IsReady : {D : Type 0} → (D → Option (List ℕ)) → (D → List ℕ → Type 0) → LogState D → Type 0
IsReady content image log = IfRevealed (content log.disk) (λ s. Shows log.limit (log_entries log.is_old log.entries) log.size s × Only s (image log.disk))

-- the invariant of a log and its disk
pub record IsOnDisk {D : Type 0} (content : D → Option (List ℕ)) (image : D → List ℕ → Type 0) (disk : D) (limit : ℕ) (second old : Bool) (entries : List LogEntry) (closed : ℕ) (ready : Bool) : Type 0 where
  pub low : LEAST_LIMIT ≤ limit
  pub high : limit ≤ MOST_LIMIT
  pub room : 17 + closed ≤ limit
  pub some : old ≡ true → 0 < length entries
  pub revealed : ready ≡ true → IfRevealed (content disk) (λ s. (read_log is_limit s ≡ Ok (record { limit = limit; second = second; entries = entries; closed = closed })) × Only s (image disk))

-- the rules that an entry keeps
abbrev pub KeepsRules : Durable → Type 0
KeepsRules (Acceptor epoch round voted vote) = (is_round round ≡ true) × (is_round voted ≡ true) × (earlier round voted ≡ false) × All (λ c. IsNumbered c.id) vote
KeepsRules (Coordinator epoch round) = is_round round ≡ true

-- after an append: the entries before, or these and the new one
abbrev pub OldOrAdded : ℕ → List LogEntry → LogEntry → List ℕ → Type 0
OldOrAdded limit es e s = HoldsEntries limit es s ⊎ HoldsEntries limit (es ++ e ∷ []) s

-- after a renewal: the entries before, or the new one alone
abbrev pub OldOrRenewed : ℕ → List LogEntry → LogEntry → List ℕ → Type 0
OldOrRenewed limit es e s = HoldsEntries limit es s ⊎ HoldsEntries limit (e ∷ []) s

-- it shows what it showed, and is not ready
abbrev pub StaysUnready : {D : Type 0} → LogState D → LogState D → Type 0
StaysUnready old new = new ≡ record { disk = new.disk; limit = old.limit; entries = old.entries; is_old = old.is_old; size = old.size; ready = false }

-- after `Full` the log is unchanged; after `Disk` and `NoMemory` it shows what it showed, and is not ready
abbrev pub StaysWhole : {D T : Type 0} → LogState D → LogState D → Result T AppendFault → Type 0
StaysWhole old new (Ok x) = new.ready ≡ true
StaysWhole old new (Err (Full size need)) = new ≡ old
StaysWhole old new (Err Disk) = StaysUnready old new
StaysWhole old new (Err NoMemory) = StaysUnready old new

-- an entry is of version 1
abbrev pub has_old : List LogEntry → Bool
has_old es = list_any (λ e. e.old) es
