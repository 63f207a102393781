-- What a step writes to a log, and what a crash inside the step may leave.
use Rattle.std.specs.Prelude.{◌≡◌, ◌≢◌, ◌⊎◌, ℕ, false, List, [], ◌∷◌, ◌++◌, Option, Some, None}
use Rattle.gp_msg.specs.declared.durable.Durable.{Durable}
use Rattle.gp_msg.specs.Messages.{EpochPart, part_of}
use Rattle.gp_edge.specs.Disks.{IfRevealed, LeavesOnly}
use Rattle.gp_vlog.specs.Bodies.{LogEntry, entry_with}
use Rattle.gp_vlog.specs.Logs.{LogState, HoldsEntries, IsReady, log_entries}
use Rattle.gp_cell.specs.Refusals.{AddsPart, HasRoomFor}

-- ---- what is written

-- the log of a node has the part after its entries, or alone if there was no room for one more
abbrev pub AddsToLog : {D : Type 0} → Option (LogState D) → Option (LogState D) → Durable → Type 0
AddsToLog (Some old) (Some new) d = AddsPart old new d × HasRoomFor old (part_of d)
AddsToLog _ _ d = ⊥

-- the log of a node is unchanged if the durable part is the same, and has the new part otherwise
abbrev pub Writes : {D : Type 0} → Option (LogState D) → Option (LogState D) → Option EpochPart → Option EpochPart → Type 0
Writes old new before after = ((after ≡ before) × (new ≡ old)) ⊎ ((d : Durable) × (after ≡ Some (part_of d)) × (before ≢ Some (part_of d)) × AddsToLog old new d)

-- ---- what a crash leaves

-- the entries before, or these and the new one, or the new one alone
abbrev pub OldOrWritten : ℕ → List LogEntry → LogEntry → List ℕ → Type 0
OldOrWritten limit es e s = HoldsEntries limit es s ⊎ (HoldsEntries limit (es ++ e ∷ []) s ⊎ HoldsEntries limit (e ∷ []) s)

-- if the disk reveals its content, a crash since then leaves the entries that the log had then, or these and the part, or the part alone
abbrev pub LeavesWritten : {D : Type 0} → (D → Option (List ℕ)) → (D → ℕ) → (D → ℕ → List ℕ → Type 0) → Option (LogState D) → Option (LogState D) → EpochPart → Type 0
LeavesWritten content moment since (Some old) (Some new) part =
    IfRevealed (content old.disk) (λ s. LeavesOnly moment since old.disk new.disk (OldOrWritten old.limit (log_entries false old.entries) (entry_with false part)))
LeavesWritten content moment since _ _ part = ⊥

-- the part of the last entry, or another if there is none
abbrev pub last_part : Option EpochPart → List LogEntry → Option EpochPart
last_part first [] = first
last_part first (e ∷ es) = last_part (Some e.part) es

-- these bytes hold a log of this limit, whose last entry has one of two parts; without entries it counts as one with the first part
abbrev pub EndsAs : ℕ → Option EpochPart → Option EpochPart → Option EpochPart → List ℕ → Type 0
EndsAs limit first before after s = (es : List LogEntry) × HoldsEntries limit es s × ((before ≡ last_part first es) ⊎ (after ≡ last_part first es))

-- if the disk reveals its content, a crash since then leaves a log that ends with one of two parts; a node without a log has nothing to lose
abbrev pub LeavesOneOf : {D : Type 0} → (D → Option (List ℕ)) → (D → ℕ) → (D → ℕ → List ℕ → Type 0) → Option EpochPart → Option EpochPart → Option EpochPart → Option (LogState D) → Option (LogState D) → Type 0
LeavesOneOf content moment since first before after (Some old) (Some new) = IfRevealed (content old.disk) (λ s. LeavesOnly moment since old.disk new.disk (EndsAs old.limit first before after))
LeavesOneOf content moment since first before after None None = Unit {0}
LeavesOneOf content moment since first before after _ _ = ⊥

-- the disk of the log of a node has the same content
abbrev pub HoldsSame : {D : Type 0} → (D → Option (List ℕ)) → Option (LogState D) → Option (LogState D) → Type 0
HoldsSame content (Some old) (Some new) = content new.disk ≡ content old.disk
HoldsSame content None None = Unit {0}
HoldsSame content _ _ = ⊥

-- if the disk reveals its content, a crash now leaves the entries that the log shows
abbrev pub IsReadyLog : {D : Type 0} → (D → Option (List ℕ)) → (D → List ℕ → Type 0) → Option (LogState D) → Type 0
IsReadyLog content image None = Unit {0}
IsReadyLog content image (Some log) = IsReady content image log
