-- What marks and equalities of parts tell of commands.
use Rattle.std.proofs.Common.{◌≡◌, ℕ, ◌+◌, ◌*◌, ◌%◌, Bool, true, false, not, ◌&&◌, ◌||◌, List, [], ◌∷◌, ◌++◌, refl, ap, ◌∙◌}
use Rattle.std.specs.Prelude.{◌≢◌}
use Rattle.std.specs.List.{list_any}
use Rattle.std.specs.declared.cmp.Ordering.{Ordering}
use Rattle.std.specs.declared.cmp.Ordering.TheVariants.{Less, Equal, Greater}
use Rattle.std.specs.Ordering.{is_eq, ordering_then, eq_by_cmp}
use Rattle.std.proofs.lemmas.Map.Views.{tells_apart}
use Rattle.gp_command.specs.declared.touch.Touch.{Touch}
use Rattle.gp_command.specs.Conflict.{touches_clash, conflict, same, is_clash}
use Rattle.gp_command.specs.Key.{key_cmp}
use Rattle.gp_command.specs.Mark.{mark_from, foot_mark}
use Rattle.gp_command.specs.Views.{CommandView, DraftView}
use Rattle.gp_command.proofs.Ties.{tied_key}

-- ---- the loop over the bytes of a key

pub mark_more : (h : ℕ) (xs : List ℕ) (b : ℕ) → mark_from h (xs ++ b ∷ []) ≡ (mark_from h xs * 31 + b) % 1000003
mark_more h [] b = refl
mark_more h (x ∷ xs) b = mark_more ((h * 31 + x) % 1000003) xs b

-- ---- different marks

other_keys : (t u : Touch) → mark_from 0 t.key + 1 ≢ mark_from 0 u.key + 1 → touches_clash t u ≡ false
other_keys t u d = by (eq_by_cmp key_cmp t.key u.key) refl where
  by : (b : Bool) → eq_by_cmp key_cmp t.key u.key ≡ b → (b && is_clash t.access u.access) ≡ false
  by true e = absurd (d (ap (λ k. mark_from 0 k + 1) (tells_apart tied_key t.key u.key e)))
  by false e = refl

pub no_clash : (f g : List Touch) → foot_mark f ≢ 0 → foot_mark g ≢ 0 → foot_mark f ≢ foot_mark g → list_any (λ t. list_any (touches_clash t) g) f ≡ false
no_clash [] g a b d = absurd (a refl)
no_clash (t ∷ s ∷ f) g a b d = absurd (a refl)
no_clash (t ∷ []) [] a b d = refl
no_clash (t ∷ []) (u ∷ v ∷ g) a b d = absurd (b refl)
no_clash (t ∷ []) (u ∷ []) a b d = ap (λ c. (c || false) || false) (other_keys t u d)

pub marked_is_plain : (d : DraftView) → (d.checkpoint ≡ true → d.foot ≡ []) → foot_mark d.foot ≢ 0 → d.checkpoint ≡ false
marked_is_plain d bare marked = by d.checkpoint bare where
  by : (b : Bool) → (b ≡ true → d.foot ≡ []) → b ≡ false
  by true h = absurd (marked (ap foot_mark (h refl)))
  by false h = refl

pub marks_apart : (c d : CommandView) → c.draft.checkpoint ≡ false → d.draft.checkpoint ≡ false → foot_mark c.draft.foot ≢ 0 → foot_mark d.draft.foot ≢ 0 → foot_mark c.draft.foot ≢ foot_mark d.draft.foot → conflict c d ≡ false
unfolding conflict
marks_apart c d p q a b e = (λ i. not (same c d) && (p i || (q i || no_clash c.draft.foot d.draft.foot a b e i))) ∙ none (not (same c d)) where
  none : (b : Bool) → (b && false) ≡ false
  none true = refl
  none false = refl

-- ---- equal parts

pub equal_then : (o p : Ordering) → is_eq (ordering_then o p) ≡ (is_eq o && is_eq p)
equal_then Less p = refl
equal_then Equal p = refl
equal_then Greater p = refl
