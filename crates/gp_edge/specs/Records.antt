-- What the calls of a disk in memory leave. The newest call is first.
use Rattle.std.specs.Prelude.{◌≡◌, ℕ, ◌+◌, ◌≤◌, cond, List, [], ◌∷◌, length, take, drop}
use Rattle.gp_edge.specs.declared.call.Call.{Call}
use Rattle.gp_edge.specs.declared.call.Call.TheVariants as call
use Rattle.gp_edge.specs.Disks.{put, Torn, Shortened, Elapses}
use Rattle.gp_edge.specs.declared.refusal.Refused.{Refused}
use Rattle.gp_edge.specs.declared.refusal.Refused.TheVariants as refused
use Rattle.gp_edge.specs.Calls.{Calls, scheduled, is_to_fail, called}

-- its bytes when it was made, all of them synced, and the calls that were made
pub record DiskRecord : Type 0 where
  pub opening : List ℕ
  pub calls : List Call

-- what reads return
abbrev pub content_after : List ℕ → List Call → List ℕ
content_after start [] = start
content_after start (call.Write at bytes ∷ before) = put at bytes (content_after start before)
content_after start (call.Cut n ∷ before) = take n (content_after start before)
content_after start (call.Sync ∷ before) = content_after start before

-- what a crash may leave: between two syncs each call may have been cut short
abbrev pub IsImage : List ℕ → List Call → List ℕ → Type 0
IsImage start [] c = c ≡ start
IsImage start (call.Write at bytes ∷ before) c = (d : List ℕ) × IsImage start before d × Torn at (length bytes) d c
IsImage start (call.Cut n ∷ before) c = (d : List ℕ) × IsImage start before d × Shortened n d c
IsImage start (call.Sync ∷ before) c = c ≡ content_after start before

-- what a crash might have left since there were t calls
abbrev pub LeftSince : List ℕ → List Call → ℕ → List ℕ → Type 0
LeftSince start calls t c = (k : ℕ) × (k + t ≤ length calls) × IsImage start (drop k calls) c

abbrev pub content_of : DiskRecord → List ℕ
content_of d = content_after d.opening d.calls

-- after one more call
abbrev pub noted : Call → DiskRecord → DiskRecord
noted call d = record { opening = d.opening; calls = call ∷ d.calls }

-- what a crash now may leave
abbrev pub Images : DiskRecord → List ℕ → Type 0
Images d c = IsImage d.opening d.calls c

-- time goes on from one record to another
abbrev pub GoesOn : DiskRecord → DiskRecord → Type 0
GoesOn old new = Elapses (length old.calls) (length new.calls) (LeftSince old.opening old.calls) (LeftSince new.opening new.calls) (Images new)

-- a disk in memory with chosen calls that fail
pub record MemDiskState : Type 0 where
  pub disk : DiskRecord
  pub calls : Calls

abbrev pub disk_with : List ℕ → DiskRecord
disk_with bytes = record { opening = bytes; calls = [] }

abbrev pub mem_disk_of : List ℕ → List ℕ → MemDiskState
mem_disk_of bytes failing = record { disk = disk_with bytes; calls = scheduled failing }

-- after one call that changed no byte and is not in the record
abbrev pub asked : MemDiskState → MemDiskState
asked d = record { disk = d.disk; calls = called d.calls }

-- after one call that is in the record
abbrev pub asked_with : Call → MemDiskState → MemDiskState
asked_with call d = record { disk = noted call d.disk; calls = called d.calls }

-- why the next call is refused, if it is
abbrev pub disk_refusal : MemDiskState → Refused
disk_refusal d = cond (is_to_fail d.calls) refused.Failed refused.NoMemory
