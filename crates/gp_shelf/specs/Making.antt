-- What happens to disks on which new logs are made.
use Rattle.std.specs.Prelude.{◌≡◌, ◌≤◌, ℕ, true, false, List, [], ◌∷◌, ◌++◌, slice_get, Option, Some}
use Rattle.std.specs.List.{AllZip}
use Rattle.gp_edge.specs.Faults.{Rose}
use Rattle.gp_vlog.specs.declared.fault.OpenFault.{OpenFault}
use Rattle.gp_vlog.specs.declared.fault.OpenFault.TheVariants as opening
use Rattle.gp_vlog.specs.Logs.{LogState, IsReady}
use Rattle.gp_shelf.specs.declared.making.LendFault.{LendFault}
use Rattle.gp_shelf.specs.declared.making.LendFault.TheVariants.{Disk, NoMemory}

-- a new log of this limit, without entries, was made on this disk, which did not fail
pub record IsMade {D : Type 0} (content : D → Option (List ℕ)) (image : D → List ℕ → Type 0) (faults : D → ℕ) (limit : ℕ) (disk : D) (log : LogState D) : Type 0 where
  pub entries_are : log.entries ≡ []
  pub limit_is : log.limit ≡ limit
  pub size_is : log.size ≡ 17
  pub new : log.is_old ≡ false
  pub ready : log.ready ≡ true
  pub shown : IsReady content image log
  pub steady : faults log.disk ≡ faults disk

-- the first disk became a log, which follows the others
pub record MakesFirst {D : Type 0} (Made : D → LogState D → Type 0) (old new : List D) (before after : List (LogState D)) : Type 0 where
  pub disk : D
  pub log : LogState D
  pub taken : old ≡ disk ∷ new
  pub added : after ≡ before ++ log ∷ []
  pub made : Made disk log

-- why no log was made: it is never refused for the bytes of the disk
abbrev pub lend_fault_of : OpenFault → LendFault
lend_fault_of (opening.NotLog at) = Disk
lend_fault_of opening.Disk = Disk
lend_fault_of opening.NoMemory = NoMemory

-- a count of faults has increased if the disk failed, and is unchanged if memory ran out
abbrev pub Counted : ℕ → ℕ → LendFault → Type 0
Counted before now Disk = Rose before now
Counted before now NoMemory = now ≡ before

-- the first disk comes back as the first, and the others stay
pub record StaysFirst {D : Type 0} (faults : D → ℕ) (old new : List D) (why : LendFault) : Type 0 where
  pub was : D
  pub is : D
  pub rest : List D
  pub before : old ≡ was ∷ rest
  pub after : new ≡ is ∷ rest
  pub never_falls : faults was ≤ faults is
  pub counted : Counted (faults was) (faults is) why

-- the count of some disk has increased
pub record SomeRose {D : Type 0} (faults : D → ℕ) (old new : List D) : Type 0 where
  pub place : ℕ
  pub was : D
  pub is : D
  pub before : slice_get old place ≡ Some was
  pub after : slice_get new place ≡ Some is
  pub rose : Rose (faults was) (faults is)

-- the disks are as many as before, and no count has decreased
abbrev pub NoneFell : {D : Type 0} → (D → ℕ) → List D → List D → Type 0
NoneFell faults = AllZip (λ was is. faults was ≤ faults is)

-- `Disk` comes only if the count of some disk has increased, and after `NoMemory` all counts are unchanged
abbrev pub HasCause : {D : Type 0} → (D → ℕ) → List D → List D → LendFault → Type 0
HasCause faults old new Disk = SomeRose faults old new
HasCause faults old new NoMemory = AllZip (λ was is. faults is ≡ faults was) old new

-- disks come back in order
abbrev pub ComesBack : {D : Type 0} → (D → ℕ) → List D → List D → LendFault → Type 0
ComesBack faults old new why = NoneFell faults old new × HasCause faults old new why
