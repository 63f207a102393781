-- How the results of the code agree with the definitions.
use Rattle.std.specs.Prelude.{◌≡◌, ◌≤◌, ℕ, Bool, List, Option, Some, None, Result, Ok, Err, nat_eq}
use Rattle.gp_edge.specs.Disks.{IfRevealed}
use Rattle.gp_vlog.specs.declared.reading.Unread.{Unread}
use Rattle.gp_vlog.specs.declared.reading.Unread.TheVariants as unread
use Rattle.gp_vlog.specs.declared.fault.OpenFault.{OpenFault}
use Rattle.gp_vlog.specs.declared.fault.OpenFault.TheVariants.{NotLog, Disk, NoMemory}
use Rattle.gp_vlog.specs.Files.{is_limit, read_log}

-- `Wrong` comes only if the definition reads nothing; `NoMemory` may come in any case
abbrev pub IsUnread : {Y : Type 0} → Unread → Option Y → Type 0
IsUnread unread.Wrong read = read ≡ None
IsUnread unread.NoMemory read = Unit {0}

-- what was read, seen by view, is what the definition says
abbrev pub Gives : {X Y : Type 0} → (X → Y) → Result X Unread → Option Y → Type 0
Gives view (Ok x) read = read ≡ Some (view x)
Gives view (Err e) read = IsUnread e read

-- the place that is returned is the one where the format breaks; memory may run out in any case, and there is no other cause
abbrev pub IsBroken : {Y : Type 0} → OpenFault → Result Y ℕ → Type 0
IsBroken (NotLog at) read = read ≡ Err at
IsBroken Disk read = ⊥
IsBroken NoMemory read = Unit {0}

abbrev pub Says : {X Y : Type 0} → (X → Y) → Result X OpenFault → Result Y ℕ → Type 0
Says view (Ok x) read = read ≡ Ok (view x)
Says view (Err e) read = IsBroken e read

-- the limits that are in range: all, or a log's own alone
abbrev pub allowed : Option ℕ → ℕ → Bool
allowed None = is_limit
allowed (Some own) = nat_eq own

-- a place that breaks the format is not past the end
abbrev pub IsInside : ℕ → OpenFault → Type 0
IsInside len (NotLog at) = at ≤ len
IsInside len Disk = Unit {0}
IsInside len NoMemory = Unit {0}

-- if the content is revealed, its bytes break the format at the place that is returned
abbrev pub BreaksAt : (ℕ → Bool) → Option (List ℕ) → OpenFault → Type 0
BreaksAt in_range content (NotLog at) = IfRevealed content (λ s. read_log in_range s ≡ Err at)
BreaksAt in_range content Disk = Unit {0}
BreaksAt in_range content NoMemory = Unit {0}
