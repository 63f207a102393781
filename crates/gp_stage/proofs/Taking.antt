-- The cell that takes over all nodes already holds them.
use Rattle.std.proofs.Common.{◌≡◌, ℕ, List, length, refl, sym, ap, ◌∙◌, subst}
use Rattle.std.proofs.lemmas.List.{length-map}
use Rattle.gp_stage.specs.Gathered.{AreSameBut, rest_of}
use Rattle.gp_wire.specs.Known.{WireState}
use Rattle.gp_cell.specs.declared.rules.PaxosRules.{PaxosRules}
use Rattle.gp_cell.specs.Cells.{CellState}
use Rattle.gp_stage.specs.Kept.{AreHeld}
use Rattle.gp_stage.specs.Played.{HasTakenOver}
use Rattle.gp_stage.proofs.Keeping.{list_of_lead}

itself : {D : Type 0} (wire : WireState PaxosRules) (cells : List (CellState D)) (holder : ℕ) → AreHeld wire wire.rules.config cells holder → HasTakenOver wire cells cells holder holder
itself wire cells holder h = record { held = h; list_is = sym (list_of_lead wire wire.rules.config cells holder h); same = refl }

pub same_holder : {D : Type 0} (wire : WireState PaxosRules) (cells : List (CellState D)) (holder at : ℕ) → AreHeld wire wire.rules.config cells holder → holder ≡ at → HasTakenOver wire cells cells holder at
same_holder wire cells holder at h e = subst (HasTakenOver wire cells cells holder) e (itself wire cells holder h)

-- so many cells as before
pub same_length : {D : Type 0} (old new : List (CellState D)) → AreSameBut old new → length new ≡ length old
same_length old new e = sym (length-map new rest_of) ∙ ap length e ∙ length-map old rest_of
