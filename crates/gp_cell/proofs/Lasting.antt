-- The last entry of a log.
use Rattle.std.proofs.Common.{◌≡◌, ◌-◌, List, [], ◌∷◌, ◌++◌, length, refl, ap, ◌∙◌, arith, Some, None, Result, Ok, Err, inl, inr}
use Rattle.std.specs.Prelude.{slice_get, OnOk}
use Rattle.gp_msg.specs.declared.durable.Durable.{Durable}
use Rattle.gp_msg.specs.Messages.{EpochPart, part_of}
use Rattle.gp_vlog.specs.Logs.{LogState, last}
use Rattle.gp_work.specs.declared.faults.StepFault.{StepFault}
use Rattle.gp_cell.specs.Cells.{last_or, IsFit, Keeps}
use Rattle.gp_cell.specs.Refusals.{AddsPart}

pub last_push : (first : EpochPart) (ds : List Durable) (d : Durable) → last_or first (ds ++ d ∷ []) ≡ part_of d
last_push first [] d = refl
last_push first (x ∷ ds) d = last_push (part_of x) ds d

get_last : (ds : List Durable) (x : Durable) → slice_get (x ∷ ds) (length ds) ≡ slice_get (x ∷ ds) (length (x ∷ ds) - 1)
get_last ds x = ap (slice_get (x ∷ ds)) (omega arith)

last_is_last : (first : EpochPart) (x : Durable) (ds : List Durable) (d : Durable) → slice_get (x ∷ ds) (length ds) ≡ Some d → last_or first (x ∷ ds) ≡ part_of d
last_is_last first x [] d e = let same : x ≡ d = cc in ap part_of same
last_is_last first x (y ∷ ds) d e = last_is_last (part_of x) y ds d e

-- the entry that stands last
pub last_there : (first : EpochPart) (ds : List Durable) (d : Durable) → last ds ≡ Some d → last_or first ds ≡ part_of d
last_there first [] d e = absurd (let wrong : None ≡ Some d = e in cc)
last_there first (x ∷ ds) d e = last_is_last first x ds d (get_last ds x ∙ e)

-- what was written to a log is what it keeps
pub added_keeps : {D : Type 0} (old new : LogState D) (d : Durable) (r : Result (Unit {0}) StepFault) → OnOk r (IsFit new) → OnOk r (AddsPart old new d) → OnOk r ((first : EpochPart) → Keeps (Some first) (Some (part_of d)) (Some new))
added_keeps old new d (Err e) f a = tt
added_keeps old new d (Ok x) f (inl a) = λ first. (f, ap (last_or first) a.1 ∙ last_push first old.entries d)
added_keeps old new d (Ok x) f (inr a) = λ first. (f, ap (last_or first) a.1)
