-- What is seen of the outside: of the source the bytes that are left, of the sink those that were written, of a disk those that a read gives.
use Rattle.std.specs.Prelude.{◌≡◌, ◌≢◌, ℕ, List, length, map, slice_get, Option, Some}
use Rattle.gp_edge.specs.Faults.{Rose}
use Rattle.gp_edge.specs.Writes.{AppendsWhole, AppendsPart}

-- the bytes of a source, a sink or a disk, if it reveals them, and its number of faults
pub record DeviceState : Type 0 where
  pub bytes : Option (List ℕ)
  pub faults : ℕ

abbrev pub device : Option (List ℕ) → ℕ → DeviceState
device bytes faults = record { bytes = bytes; faults = faults }

abbrev pub device_bytes : DeviceState → Option (List ℕ)
device_bytes s = s.bytes

abbrev pub device_faults : DeviceState → ℕ
device_faults s = s.faults

-- the source, the sink and the disks
pub record Outside : Type 0 where
  pub source : DeviceState
  pub sink : DeviceState
  pub disks : List DeviceState

-- what is seen of disks of any kind
abbrev pub disk_states : {D : Type 0} → (D → Option (List ℕ)) → (D → ℕ) → List D → List DeviceState
disk_states content faults disks = map (λ d. device (content d) (faults d)) disks

-- the outside, by what is seen of any source, of any sink and of disks of any kind
abbrev pub outside : {S K D : Type 0} → (S → Option (List ℕ)) → (S → ℕ) → (K → Option (List ℕ)) → (K → ℕ) → (D → Option (List ℕ)) → (D → ℕ) → S → K → List D → Outside
outside rest read_faults written write_faults content disk_faults source sink disks = record {
  source = device (rest source) (read_faults source);
  sink = device (written sink) (write_faults sink);
  disks = disk_states content disk_faults disks;
}

-- how much of a text was written, and with which status: all of it; or a part, because the sink failed; or a part, because memory ran out. A fault was counted only if the sink failed.
pub data Told (before now : DeviceState) (text : List ℕ) (whole at_fault status : ℕ) : Type 0 where
  Wholly : status ≡ whole → now.faults ≡ before.faults → AppendsWhole before.bytes now.bytes text → Told before now text whole at_fault status
  AtFault : status ≡ at_fault → Rose before.faults now.faults → AppendsPart before.bytes now.bytes text → Told before now text whole at_fault status
  ForMemory : status ≡ 1 → now.faults ≡ before.faults → AppendsPart before.bytes now.bytes text → Told before now text whole at_fault status

-- all disks are as before, except one if it is named
pub record AllBut {D : Type 0} (named : Option ℕ) (old new : List D) : Type 0 where
  pub count : length new ≡ length old
  pub others : (i : ℕ) → named ≢ Some i → slice_get new i ≡ slice_get old i
