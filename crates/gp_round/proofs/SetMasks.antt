-- Sets of numbers, smaller sets within them, and their masks.
use Rattle.std.proofs.Common.{◌≡◌, inl, inr, ℕ, zero, suc, ◌+◌, ◌*◌, ◌/◌, ◌%◌, ◌^◌, ◌<◌, ◌≤◌, Bool, true, false, cond, ◌&&◌, nat_eq, nat_lt, min, refl, sym, ap, ◌∙◌, arith}
use Rattle.std.specs.List.{Contains}
use Rattle.std.proofs.lemmas.Bool.{cases_Bool, ltb-true, ltb-false, eq-eqb, ne_eqb}
use Rattle.std.proofs.Math.Nat.{div-div-eq-div-mul, div-one, pow-succ'}
use Rattle.gp_round.specs.Sets.{members, bit, masks}
use Rattle.gp_round.proofs.Masks.{subset_is}
use Rattle.gp_round.proofs.Counting.{left_true}

-- ---- a smaller set within a set

-- the first k members of p
abbrev first_members : (ℕ → Bool) → ℕ → ℕ → Bool
first_members p k i = p i && nat_lt (members p i) k

first_members_count : (p : ℕ → Bool) (k n : ℕ) → members (first_members p k) n ≡ min k (members p n)
first_members_count p k zero = omega arith
first_members_count p k (suc n) =
    let r = first_members_count p k n in
    elim (cases_Bool (p n)) [
      | inl a ↦ elim (cases_Bool (nat_lt (members p n) k)) [
        | inl b ↦ rw (a, b, r) (omega (arith, ltb-true (members p n) k b))
        | inr b ↦ rw (a, b, r) (omega (arith, ltb-false (members p n) k b))
      ]
      | inr a ↦ rw (a, r) (omega arith)
    ]

pub record Within (p : ℕ → Bool) (n size : ℕ) : Type 0 where
  pub set : ℕ → Bool
  pub count : members set n ≡ size
  pub inside : (i : ℕ) → set i ≡ true → p i ≡ true

-- a set has a subset of each smaller size
pub a_smaller_set_is_within : (p : ℕ → Bool) (n size : ℕ) → size ≤ members p n → Within p n size
a_smaller_set_is_within p n size h = record {
  set = first_members p size;
  count = let r = first_members_count p size n in omega (arith, h, r);
  inside = λ i e. left_true (p i) (nat_lt (members p i) size) e;
}

-- ---- the mask of a set

abbrev mask_of : (ℕ → Bool) → ℕ → ℕ
mask_of p zero = 0
mask_of p (suc n) = cond (p 0) 1 0 + 2 * mask_of (λ i. p (suc i)) n

mask_small : (p : ℕ → Bool) (n : ℕ) → mask_of p n < 2 ^ n
mask_small p zero = omega arith
mask_small p (suc n) =
    let r = mask_small (λ i. p (suc i)) n in
    elim (cases_Bool (p 0)) [ inl e ↦ rw e (omega (arith, r, pow-succ' 2 n)) | inr e ↦ rw e (omega (arith, r, pow-succ' 2 n)) ]

half_of : (b : Bool) (m : ℕ) → (cond b 1 0 + 2 * m) / 2 ≡ m
half_of true m = omega arith
half_of false m = omega arith

odd_of : (b : Bool) (m : ℕ) → nat_eq ((cond b 1 0 + 2 * m) % 2) 1 ≡ b
odd_of true m = eq-eqb ((1 + 2 * m) % 2) 1 (omega arith)
odd_of false m = ne_eqb ((0 + 2 * m) % 2) 1 (λ e. omega arith)

bit-zero : (m : ℕ) → bit m 0 ≡ nat_eq (m % 2) 1
bit-zero m = ap (λ k. nat_eq (k % 2) 1) (div-one m)

bit-suc : (m i : ℕ) → bit m (suc i) ≡ bit (m / 2) i
bit-suc m i = ap (λ k. nat_eq (m / k % 2) 1) (pow-succ' 2 i) ∙ ap (λ k. nat_eq (k % 2) 1) (sym (div-div-eq-div-mul m 2 (2 ^ i)))

bit_is : (p : ℕ → Bool) (n i : ℕ) → i < n → bit (mask_of p n) i ≡ p i
bit_is p zero i h = absurd (omega (arith, h))
bit_is p (suc n) zero h = bit-zero (mask_of p (suc n)) ∙ odd_of (p 0) (mask_of (λ i. p (suc i)) n)
bit_is p (suc n) (suc i) h =
    bit-suc (mask_of p (suc n)) i
    ∙ ap (λ m. bit m i) (half_of (p 0) (mask_of (λ j. p (suc j)) n))
    ∙ bit_is (λ j. p (suc j)) n i (omega (arith, h))

members_same : (p q : ℕ → Bool) (n : ℕ) → ((i : ℕ) → i < n → p i ≡ q i) → members p n ≡ members q n
members_same p q zero h = refl
members_same p q (suc n) h = (λ j. cond (h n (omega arith) j) 1 0 + members_same p q n (λ i l. h i (omega (arith, l))) j)

pub record MaskOf (p : ℕ → Bool) (n size : ℕ) : Type 0 where
  pub mask : ℕ
  pub listed : Contains (masks n size) mask
  pub bits : (i : ℕ) → i < n → bit mask i ≡ p i

-- each set of a size is one of the masks of that size
pub a_set_is_a_mask : (p : ℕ → Bool) (n size : ℕ) → members p n ≡ size → MaskOf p n size
a_set_is_a_mask p n size h = record {
  mask = mask_of p n;
  listed = (subset_is n size (mask_of p n)).1 (mask_small p n, members_same (bit (mask_of p n)) p n (bit_is p n) ∙ h);
  bits = bit_is p n;
}
