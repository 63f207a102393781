-- The count of faults of a stage.
use Rattle.std.proofs.Common.{◌≡◌, ◌≢◌, ◌⊎◌, ℕ, zero, suc, ◌+◌, ◌-◌, ◌<◌, ◌≤◌, ◌^◌, min, Bool, true, false, List, [], ◌∷◌, map, slice_get, refl, ap, inl, inr, ⊎_elim, arith, Some}
use Rattle.std.specs.Prelude.{nat_lt, if◌then◌else◌}
use Rattle.std.proofs.lemmas.Bool.{ltb-true, ltb-false}
use Rattle.gp_cell.specs.Cells.{CellState}
use Rattle.gp_cell.specs.Refusals.{faults_of}
use Rattle.gp_driver.specs.Stages.{Rose, RoseByOne}
use Rattle.gp_stage.specs.Held.{capped, disk_faults}
use Rattle.gp_stage.specs.Gathered.{rest_of}
use Rattle.gp_stage.proofs.Places.{same_value}

by_size : (P : ℕ → Type 0) (n : ℕ) → (n < 2 ^ 64 - 1 → P n) → (2 ^ 64 - 1 ≤ n → P (2 ^ 64 - 1)) → P (capped n)
by_size P n small great = by_test (nat_lt n (2 ^ 64 - 1)) refl
  where
    by_test : (b : Bool) → nat_lt n (2 ^ 64 - 1) ≡ b → P (if b then n else 2 ^ 64 - 1)
    by_test true e = small (ltb-true n (2 ^ 64 - 1) e)
    by_test false e = great (ltb-false n (2 ^ 64 - 1) e)

pub capped_grows : (m n : ℕ) → (m ≤ n) ⊎ (2 ^ 64 - 1 ≤ n) → capped m ≤ capped n
capped_grows m n h = by_size (λ x. x ≤ capped n) m
    (λ a. by_size (λ y. m ≤ y) n (λ b. ⊎_elim (λ (l : m ≤ n). l) (λ (g : 2 ^ 64 - 1 ≤ n). omega (arith, a, g)) h) (λ b. omega (arith, a)))
    (λ a. by_size (λ y. 2 ^ 64 - 1 ≤ y) n (λ b. ⊎_elim (λ (l : m ≤ n). omega (arith, a, l)) (λ (g : 2 ^ 64 - 1 ≤ n). g) h) (λ b. omega arith))

pub capped_rose : (m n : ℕ) → (m < n) ⊎ (2 ^ 64 - 1 ≤ n) → Rose (capped m) (capped n)
capped_rose m n h = by_size (λ y. (capped m < y) ⊎ (y ≡ 2 ^ 64 - 1)) n
    (λ small. inl (by_size (λ x. x < n) m (λ a. less small) (λ a. omega (arith, a, less small, small))))
    (λ great. inr refl)
  where
    less : n < 2 ^ 64 - 1 → m < n
    less small = ⊎_elim (λ (l : m < n). l) (λ (g : 2 ^ 64 - 1 ≤ n). omega (arith, g, small)) h

-- one more, or the last value
pub counted : (a b : ℕ) → b ≡ min (a + 1) (2 ^ 64 - 1) → (a ≤ b) ⊎ (2 ^ 64 - 1 ≤ b)
counted a b e = by_test (nat_lt a (2 ^ 64 - 1)) refl
  where
    by_test : (t : Bool) → nat_lt a (2 ^ 64 - 1) ≡ t → (a ≤ b) ⊎ (2 ^ 64 - 1 ≤ b)
    by_test true t = let l = ltb-true a (2 ^ 64 - 1) t in inl (omega (arith, e, l))
    by_test false t = let l = ltb-false a (2 ^ 64 - 1) t in inr (omega (arith, e, l))

-- one part of a sum was counted once more
pub sum_by_one : (d a b : ℕ) → b ≡ min (a + 1) (2 ^ 64 - 1) → RoseByOne (capped (d + a)) (capped (d + b))
sum_by_one d a b e = by_size (λ y. y ≡ min (capped (d + a) + 1) (2 ^ 64 - 1)) (d + b)
    (λ low. by_size (λ x. d + b ≡ min (x + 1) (2 ^ 64 - 1)) (d + a) (λ l. omega (arith, e, low, l)) (λ l. absurd (omega (arith, e, low, l))))
    (λ high. by_size (λ x. 2 ^ 64 - 1 ≡ min (x + 1) (2 ^ 64 - 1)) (d + a) (λ l. omega (arith, e, high, l)) (λ l. omega arith))

-- two counts together
pub both_at_most : (a b x y : ℕ) → x ≤ y → (a ≤ b) ⊎ (2 ^ 64 - 1 ≤ b) → (x + a ≤ y + b) ⊎ (2 ^ 64 - 1 ≤ y + b)
both_at_most a b x y k h = ⊎_elim (λ (l : a ≤ b). inl (omega (arith, k, l))) (λ (g : 2 ^ 64 - 1 ≤ b). inr (omega (arith, g))) h

pub first_rises : (a b x y : ℕ) → (x < y) ⊎ (2 ^ 64 - 1 ≤ y) → (a ≤ b) ⊎ (2 ^ 64 - 1 ≤ b) → (x + a < y + b) ⊎ (2 ^ 64 - 1 ≤ y + b)
first_rises a b x y k h =
    ⊎_elim (λ (l : x < y). ⊎_elim (λ (m : a ≤ b). inl (omega (arith, l, m))) (λ (g : 2 ^ 64 - 1 ≤ b). inr (omega (arith, g))) h) (λ (g : 2 ^ 64 - 1 ≤ y). inr (omega (arith, g))) k

-- ---- the faults of disks

module _ {D : Type 0} (faults : D → ℕ) where
  head_same : (x y : CellState D) → rest_of x ≡ rest_of y → faults_of faults x.log ≡ faults_of faults y.log
  head_same x y e = ap (λ (r : _). faults_of faults r.3) e

  pub all_same : (old new : List (CellState D)) → ((i : ℕ) → slice_get (map rest_of new) i ≡ slice_get (map rest_of old) i) → disk_faults faults new ≡ disk_faults faults old
  all_same [] [] h = refl
  all_same [] (y ∷ new) h = let e = h 0 in cc
  all_same (x ∷ old) [] h = let e = h 0 in cc
  all_same (x ∷ old) (y ∷ new) h =
      let a = head_same y x (same_value (rest_of y) (rest_of x) (h 0)) in let b = all_same old new (λ i. h (suc i)) in omega (arith, a, b)

  -- if the log of one cell alone has changed
  pub one_changes : (old new : List (CellState D)) (at : ℕ) (b a : CellState D) → slice_get old at ≡ Some b → slice_get new at ≡ Some a
      → ((i : ℕ) → i ≢ at → slice_get (map rest_of new) i ≡ slice_get (map rest_of old) i) → disk_faults faults new + faults_of faults b.log ≡ disk_faults faults old + faults_of faults a.log
  one_changes [] new at b a p q h = cc
  one_changes (x ∷ old) [] at b a p q h = cc
  one_changes (x ∷ old) (y ∷ new) zero b a p q h =
      let s = ap (λ (c : CellState D). faults_of faults c.log) (same_value x b p) in let t = ap (λ (c : CellState D). faults_of faults c.log) (same_value y a q) in
      let r = all_same old new (λ i. h (suc i) (λ e. cc)) in omega (arith, s, t, r)
  one_changes (x ∷ old) (y ∷ new) (suc at) b a p q h =
      let s = head_same y x (same_value (rest_of y) (rest_of x) (h 0 (λ e. cc))) in
      let r = one_changes old new at b a p q (λ i n. h (suc i) (λ e. n (suc_back i at e))) in omega (arith, s, r)
    where
      suc_back : (i j : ℕ) → suc i ≡ suc j → i ≡ j
      suc_back i j e = omega (arith, e)

  -- the faults of one cell are among those of all
  pub one_of_all : (cells : List (CellState D)) (i : ℕ) (c : CellState D) → slice_get cells i ≡ Some c → faults_of faults c.log ≤ disk_faults faults cells
  one_of_all [] i c e = cc
  one_of_all (x ∷ cells) zero c e = let s = ap (λ (y : CellState D). faults_of faults y.log) (same_value x c e) in omega (arith, s)
  one_of_all (x ∷ cells) (suc i) c e = let h = one_of_all cells i c e in omega (arith, h)
