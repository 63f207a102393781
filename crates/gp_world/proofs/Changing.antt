-- The element at a place of a list, changed and asked what it sends.
use Rattle.std.proofs.Common.{◌≡◌, ℕ, zero, suc, ◌<◌, List, [], ◌∷◌, length, ap, ◌∙◌, arith}
use Rattle.std.specs.Prelude.{slice_set, slice_index_or, Option}
use Rattle.gp_msg.specs.Messages.{Stamped}
use Rattle.gp_world.specs.Acting.{changed, sent_of}

-- f of the element at a place, put in its place
pub changed_at : {X : Type 0} (xs : List X) (i : ℕ) (x y : X) (f : X → X) → i < length xs → x ≡ slice_index_or xs i x → y ≡ f x → slice_set xs i y ≡ changed xs i f
changed_at [] i x y f l e h = absurd (none l) where
  none : i < 0 → ⊥
  none l = omega (arith, l)
changed_at (z ∷ xs) zero x y f l e h = ap (λ w. w ∷ xs) (h ∙ ap f e)
changed_at (z ∷ xs) (suc i) x y f l e h = ap (λ ws. z ∷ ws) (changed_at xs i x y f (omega (arith, l)) e h)

-- the element at a place sends what f says
pub sent_from : {X : Type 0} (xs : List X) (i : ℕ) (x : X) (f : X → X × Option Stamped) → i < length xs → x ≡ slice_index_or xs i x → (f x).1 ≡ sent_of xs i f
sent_from [] i x f l e = absurd (none l) where
  none : i < 0 → ⊥
  none l = omega (arith, l)
sent_from (z ∷ xs) zero x f l e = ap (λ w. (f w).1) e
sent_from (z ∷ xs) (suc i) x f l e = sent_from xs i x f (omega (arith, l)) e
