-- The meet of those that a mask names, one after another.
use Rattle.std.proofs.Common.{◌≡◌, ℕ, suc, ◌+◌, ◌/◌, ◌%◌, ◌<◌, true, false, cond, List, ◌∷◌, length, drop, drop-cons, get_or, Some, None, refl, sym, ap, ◌∙◌, add-zero, add-one, arith}
use Rattle.std.specs.Prelude.{Option, nat_eq}
use Rattle.std.specs.Int.{bit_at}
use Rattle.std.proofs.lemmas.Bool.{eqb-true, eq-eqb}
use Rattle.std.proofs.lemmas.Nat.Bits.{bit_at_lowest, bit_at-suc}
use Rattle.gp_history.specs.History.{History}
use Rattle.gp_history.specs.Bounds.{chosen_from}
use Rattle.gp_history.proofs.Tests.{not_true}
use Rattle.gp_bounds.specs.Agree.{and_meet, met_with}

-- from place i on, the bits of the rest are those of the mask
abbrev pub HasBitsFrom : ℕ → ℕ → ℕ → Type 0
HasBitsFrom rest mask i = (k : ℕ) → bit_at rest k ≡ bit_at mask (i + k)

pub bits_next : (rest mask i : ℕ) → HasBitsFrom rest mask i → HasBitsFrom (rest / 2) mask (i + 1)
bits_next rest mask i h k =
    let there : i + suc k ≡ (i + 1) + k = omega arith in
    sym (bit_at-suc rest k) ∙ h (suc k) ∙ ap (bit_at mask) there

lowest : (rest mask i : ℕ) → HasBitsFrom rest mask i → bit_at mask i ≡ rest % 2
lowest rest mask i h = ap (bit_at mask) (sym (add-zero i)) ∙ sym (h 0) ∙ bit_at_lowest rest

pub met_one : (so : Option History) (rest mask i : ℕ) (h : History) (hs : List History) → HasBitsFrom rest mask i → rest % 2 ≡ 1 → met_with (Some (and_meet so h)) (chosen_from mask (i + 1) hs) ≡ met_with so (chosen_from mask i (h ∷ hs))
met_one so rest mask i h hs bits e =
    let set : nat_eq (bit_at mask i) 1 ≡ true = eq-eqb (bit_at mask i) 1 (lowest rest mask i bits ∙ e) in
    ap (λ (n : ℕ). met_with (Some (and_meet so h)) (chosen_from mask n hs)) (add-one i)
    ∙ taken so (chosen_from mask (suc i) hs)
    ∙ sym (ap (λ b. met_with so (cond b (h ∷ chosen_from mask (suc i) hs) (chosen_from mask (suc i) hs))) set) where
      taken : (so : Option History) (ks : List History) → met_with (Some (and_meet so h)) ks ≡ met_with so (h ∷ ks)
      taken None ks = refl
      taken (Some u) ks = refl

pub met_none : (so : Option History) (rest mask i : ℕ) (h : History) (hs : List History) → HasBitsFrom rest mask i → (rest % 2 ≡ 1 → ⊥) → met_with so (chosen_from mask (i + 1) hs) ≡ met_with so (chosen_from mask i (h ∷ hs))
met_none so rest mask i h hs bits e =
    let unset : nat_eq (bit_at mask i) 1 ≡ false = not_true (nat_eq (bit_at mask i) 1) (λ t. e (sym (lowest rest mask i bits) ∙ eqb-true (bit_at mask i) 1 t)) in
    ap (λ (n : ℕ). met_with so (chosen_from mask n hs)) (add-one i)
    ∙ sym (ap (λ b. met_with so (cond b (h ∷ chosen_from mask (suc i) hs) (chosen_from mask (suc i) hs))) unset)

-- one element further
pub drop_item : {X : Type 0} (xs : List X) (i : ℕ) (x : X) → i < length xs → x ≡ get_or xs i x → drop i xs ≡ x ∷ drop (i + 1) xs
drop_item xs i x lt is = drop-cons xs i x lt ∙ ap (λ z. z ∷ drop (suc i) xs) (sym is) ∙ ap (λ (n : ℕ). x ∷ drop n xs) (sym (add-one i))
