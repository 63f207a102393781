-- The states of the first numbers.
use Rattle.std.proofs.Common.{◌≡◌, ℕ, zero, suc, ◌+◌, ◌<◌, List, [], ◌∷◌, ◌++◌, length, cond, refl, sym, ap, ◌∙◌, arith, Some, add-one, length-append, inl, inr}
use Rattle.std.specs.Prelude.{slice_get, nat_eq, Option}
use Rattle.std.specs.Option.{option_and_then}
use Rattle.std.proofs.Math.Dec.{eqb-suc-zero, eqb-zero-suc, eqb-suc-suc}
use Rattle.std.proofs.lemmas.Bool.Decides.{eqb_tells}
use Rattle.gp_msg.specs.Messages.{Stamped}
use Rattle.gp_run.proofs.Others.{front}
use Rattle.gp_world.specs.Nodes.{states_below}
use Rattle.gp_world.specs.Acting.{changed, sent_of}

-- one number more
pub states_more : {S : Type 0} (n : ℕ) (f : ℕ → S) → states_below (n + 1) f ≡ states_below n f ++ f n ∷ []
states_more n f = ap (λ m. states_below m f) (add-one n)

pub length-states_below : {S : Type 0} (n : ℕ) (f : ℕ → S) → length (states_below n f) ≡ n
length-states_below zero f = refl
length-states_below (suc n) f = omega (arith, length-append (states_below n f) (f n ∷ []), length-states_below n f)

last_of : {S : Type 0} (xs : List S) (x : S) → slice_get (xs ++ x ∷ []) (length xs) ≡ Some x
last_of [] x = refl
last_of (y ∷ xs) x = last_of xs x

pub slice_get-states_below : {S : Type 0} (n : ℕ) (f : ℕ → S) (i : ℕ) → i < n → slice_get (states_below n f) i ≡ Some (f i)
slice_get-states_below zero f i l = absurd (none l) where
  none : i < 0 → ⊥
  none l = omega (arith, l)
slice_get-states_below (suc n) f i l =
    let many = length-states_below n f in
    elim (eqb_tells i n) [
      | inl e ↦ ap (slice_get (states_below n f ++ f n ∷ [])) (e.1 ∙ sym many) ∙ last_of (states_below n f) (f n) ∙ ap (λ j. Some (f j)) (sym e.1)
      | inr e ↦ front (states_below n f) (f n ∷ []) i (omega (arith, many, l, e.1)) ∙ slice_get-states_below n f i (omega (arith, l, e.1))
    ]

-- what a state sends
pub sent_of-states_below : {S : Type 0} (n : ℕ) (f : ℕ → S) (i : ℕ) (h : S → S × Option Stamped) → i < n → sent_of (states_below n f) i h ≡ (h (f i)).1
sent_of-states_below n f i h l = ap (option_and_then (λ x. (h x).1)) (slice_get-states_below n f i l)

-- a change after a list with one more
changed-push : {S : Type 0} (xs : List S) (x : S) (i : ℕ) (h : S → S) → changed (xs ++ x ∷ []) i h ≡ changed xs i h ++ cond (nat_eq (length xs) i) (h x) x ∷ []
changed-push [] x zero h = refl
changed-push [] x (suc i) h = ap (λ b. cond b (h x) x ∷ []) (sym (eqb-zero-suc i))
changed-push (y ∷ xs) x zero h = ap (λ b. h y ∷ xs ++ cond b (h x) x ∷ []) (sym (eqb-suc-zero (length xs)))
changed-push (y ∷ xs) x (suc i) h = ap (λ zs. y ∷ zs) (changed-push xs x i h) ∙ ap (λ b. y ∷ (changed xs i h ++ cond b (h x) x ∷ [])) (sym (eqb-suc-suc (length xs) i))

-- one of the states changed
pub changed-states_below : {S : Type 0} (n : ℕ) (f g : ℕ → S) (i : ℕ) (h : S → S) → ((j : ℕ) → cond (nat_eq j i) (h (f j)) (f j) ≡ g j) → changed (states_below n f) i h ≡ states_below n g
changed-states_below zero f g i h e = refl
changed-states_below (suc n) f g i h e =
    changed-push (states_below n f) (f n) i h
    ∙ ap (λ m. changed (states_below n f) i h ++ cond (nat_eq m i) (h (f n)) (f n) ∷ []) (length-states_below n f)
    ∙ (λ k. changed-states_below n f g i h e k ++ e n k ∷ [])
