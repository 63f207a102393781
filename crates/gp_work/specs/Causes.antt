-- Why a step or a recovery is refused.
use Rattle.std.specs.Prelude.{◌≡◌, ℕ, true, false, [], ◌∷◌, Option}
use Rattle.gp_msg.specs.declared.event.Event.{Event}
use Rattle.gp_msg.specs.declared.event.Event.TheVariants.{Fall}
use Rattle.gp_msg.specs.declared.event.Kept.{Kept}
use Rattle.gp_work.specs.declared.moves.Move.{Move}
use Rattle.gp_work.specs.declared.faults.StepFault.{StepFault}
use Rattle.gp_work.specs.declared.faults.StepFault.TheVariants.{Waiting, NoMemory, Disk, Full}
use Rattle.gp_work.specs.declared.faults.RiseFault.{RiseFault}
use Rattle.gp_work.specs.declared.faults.RiseFault.TheVariants as rise
use Rattle.gp_edge.specs.Faults.{Rose}
use Rattle.gp_work.specs.Doing.{ProcessState, have, Posted}
use Rattle.gp_work.specs.Moves.{IsBeyond}

-- what faults mean at a node as it is now: which numbers, the size of a log and the need of an entry, are too great for an event, and why it did not recover
pub record FaultCauses : Type 1 where
  pub too_great : Event → ℕ → ℕ → Type 0
  pub not_risen : RiseFault → Type 0

abbrev pub StepCause : Move → ProcessState → ProcessState → (ℕ → ℕ → Type 0) → StepFault → Type 0
StepCause mv p q too_great Waiting = (q.up ≡ true) × IsBeyond (have q) mv
StepCause mv p q too_great NoMemory = Unit {0}
StepCause mv p q too_great Disk = (q.up ≡ false) × Rose p.faults q.faults
StepCause mv p q too_great (Full size need) = too_great size need

abbrev pub RiseCause : ProcessState → ProcessState → (RiseFault → Type 0) → RiseFault → Type 0
RiseCause p q not_risen rise.NoMemory = Unit {0}
RiseCause p q not_risen rise.Disk = Rose p.faults q.faults
RiseCause p q not_risen (rise.NotLog at) = not_risen (rise.NotLog at)
RiseCause p q not_risen (rise.Changed found) = not_risen (rise.Changed found)

-- it posted a crash
abbrev pub Falls : ProcessState → ProcessState → Type 0
Falls p q = (kept : Option Kept) × Posted p q (Fall p.node kept ∷ [])
