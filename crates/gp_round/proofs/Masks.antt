-- The walk over masks.
use Rattle.std.proofs.Common.{◌≡◌, ℕ, zero, suc, ◌+◌, ◌-◌, ◌^◌, ◌<◌, ◌≤◌, ◌↔◌, Bool, true, false, cond, nat_eq, List, [], ◌∷◌, length, get_or, sym, ◌∙◌, ap, subst, arith, refl}
use Rattle.std.specs.List.{Contains}
use Rattle.std.specs.List.Sorted.{IsStrictlyIncreasing}
use Rattle.std.proofs.lemmas.Bool.{eqb-true, eqb-false}
use Rattle.gp_round.specs.Sets.{members, bit, masks, masks_among}

step : (n size limit first : ℕ) → first < limit → masks_among n size (limit - first) first ≡ masks_among n size (suc (limit - (first + 1))) first
step n size limit first h =
    let e : limit - first ≡ suc (limit - (first + 1)) = omega arith in
    ap (λ k. masks_among n size k first) e

pub mask_taken : (n size limit first : ℕ) (xs : List ℕ) → first < limit → masks_among n size (limit - first) first ≡ xs → nat_eq (members (bit first) n) size ≡ true
    → xs ≡ first ∷ masks_among n size (limit - (first + 1)) (first + 1)
mask_taken n size limit first xs h e t =
    sym e ∙ step n size limit first h ∙ ap (λ b. cond b (first ∷ masks_among n size (limit - (first + 1)) (first + 1)) (masks_among n size (limit - (first + 1)) (first + 1))) t

pub mask_passed : (n size limit first : ℕ) (xs : List ℕ) → first < limit → masks_among n size (limit - first) first ≡ xs → nat_eq (members (bit first) n) size ≡ false
    → masks_among n size (limit - (first + 1)) (first + 1) ≡ xs
mask_passed n size limit first xs h e t =
    sym (sym e ∙ step n size limit first h ∙ ap (λ b. cond b (first ∷ masks_among n size (limit - (first + 1)) (first + 1)) (masks_among n size (limit - (first + 1)) (first + 1))) t)

-- ---- which masks there are, and in which order

get_or-same : (xs : List ℕ) (k d e : ℕ) → k < length xs → get_or xs k e ≡ get_or xs k d
get_or-same [] k d e lt = absurd (omega (arith, lt))
get_or-same (x ∷ xs) zero d e lt = refl
get_or-same (x ∷ xs) (suc k) d e lt = get_or-same xs k d e (omega (arith, lt))

first_of : (x : ℕ) (xs : List ℕ) → Contains (x ∷ xs) x
first_of x xs = (0, omega arith, refl)

later_of : (x y : ℕ) (xs : List ℕ) → Contains xs y → Contains (x ∷ xs) y
later_of x y xs c = (suc c.0, omega (arith, c.1), c.2)

pub record Among (n size many first mask : ℕ) : Type 0 where
  pub from : first ≤ mask
  pub below : mask < first + many
  pub count : members (bit mask) n ≡ size

further : (n size many first mask : ℕ) → Among n size many (first + 1) mask → Among n size (suc many) first mask
further n size many first mask a = record { from = omega (arith, a.from); below = omega (arith, a.below); count = a.count }

-- the first of the masks, or a later one
among_cases : (n size many first mask : ℕ) → members (bit first) n ≡ size → (Contains (masks_among n size many (first + 1)) mask → Among n size many (first + 1) mask) → (i : ℕ) → i < length (first ∷ masks_among n size many (first + 1)) → get_or (first ∷ masks_among n size many (first + 1)) i mask ≡ mask → Among n size (suc many) first mask
among_cases n size many first mask e rest zero lt is = let same : first ≡ mask = is in subst (λ (m : ℕ). Among n size (suc many) first m) same record { from = omega arith; below = omega arith; count = e }
among_cases n size many first mask e rest (suc i) lt is = further n size many first mask (rest (i, omega (arith, lt), is))

among_by : (n size many first mask : ℕ) (b : Bool) → nat_eq (members (bit first) n) size ≡ b → (Contains (masks_among n size many (first + 1)) mask → Among n size many (first + 1) mask) → Contains (masks_among n size (suc many) first) mask → Among n size (suc many) first mask
among_by n size many first mask true e rest c = let k = rw e at c in among_cases n size many first mask (eqb-true (members (bit first) n) size e) rest k.0 k.1 k.2
among_by n size many first mask false e rest c = further n size many first mask (rest (rw e at c))

pub among : (n size many first mask : ℕ) → Contains (masks_among n size many first) mask → Among n size many first mask
among n size zero first mask c = absurd (omega (arith, c.1))
among n size (suc many) first mask c = among_by n size many first mask (nat_eq (members (bit first) n) size) refl (among n size many (first + 1) mask) c

behind : (n size many first mask : ℕ) → Among n size (suc many) first mask → (first ≡ mask → ⊥) → Among n size many (first + 1) mask
behind n size many first mask a apart = record { from = omega (arith, a.from, apart); below = omega (arith, a.below); count = a.count }

is_first : (n size many first mask : ℕ) (b : Bool) → nat_eq first mask ≡ b → ((first ≡ mask → ⊥) → Contains (masks_among n size many (first + 1)) mask) → Contains (first ∷ masks_among n size many (first + 1)) mask
is_first n size many first mask true is rest = subst (λ (m : ℕ). Contains (first ∷ masks_among n size many (first + 1)) m) (eqb-true first mask is) (first_of first (masks_among n size many (first + 1)))
is_first n size many first mask false is rest = later_of first mask (masks_among n size many (first + 1)) (rest (eqb-false first mask is))

is_among_by : (n size many first mask : ℕ) (b : Bool) → nat_eq (members (bit first) n) size ≡ b → Among n size (suc many) first mask → ((first ≡ mask → ⊥) → Contains (masks_among n size many (first + 1)) mask) → Contains (masks_among n size (suc many) first) mask
is_among_by n size many first mask true e a rest = rw e (is_first n size many first mask (nat_eq first mask) refl rest)
is_among_by n size many first mask false e a rest = rw e (rest (λ same. eqb-false (members (bit first) n) size e (ap (λ (m : ℕ). members (bit m) n) same ∙ a.count)))

pub is_among : (n size many first mask : ℕ) → Among n size many first mask → Contains (masks_among n size many first) mask
is_among n size zero first mask a = absurd (omega (arith, a.from, a.below))
is_among n size (suc many) first mask a = is_among_by n size many first mask (nat_eq (members (bit first) n) size) refl a (λ apart. is_among n size many (first + 1) mask (behind n size many first mask a apart))

above : (n size many first k : ℕ) → k < length (masks_among n size many (first + 1)) → first < get_or (masks_among n size many (first + 1)) k 0
above n size many first k lt =
    let mask = get_or (masks_among n size many (first + 1)) k 0 in
    let a = among n size many (first + 1) mask (k, lt, get_or-same (masks_among n size many (first + 1)) k 0 mask lt) in
    omega (arith, a.from)

in_front : (n size many first : ℕ) → IsStrictlyIncreasing (masks_among n size many (first + 1)) → IsStrictlyIncreasing (first ∷ masks_among n size many (first + 1))
in_front n size many first rest zero lt = above n size many first 0 (omega (arith, lt))
in_front n size many first rest (suc k) lt =
    let next : suc k + 1 ≡ suc (k + 1) = omega arith in
    subst (λ (m : ℕ). get_or (masks_among n size many (first + 1)) k 0 < get_or (first ∷ masks_among n size many (first + 1)) m 0) (sym next) (rest k (omega (arith, lt)))

ascend_by : (n size many first : ℕ) (b : Bool) → nat_eq (members (bit first) n) size ≡ b → IsStrictlyIncreasing (masks_among n size many (first + 1)) → IsStrictlyIncreasing (masks_among n size (suc many) first)
ascend_by n size many first true e rest = rw e (in_front n size many first rest)
ascend_by n size many first false e rest = rw e rest

pub ascend : (n size many first : ℕ) → IsStrictlyIncreasing (masks_among n size many first)
ascend n size zero first = λ k lt. absurd (omega (arith, lt))
ascend n size (suc many) first = ascend_by n size many first (nat_eq (members (bit first) n) size) refl (ascend n size many (first + 1))

pub subset_is : (n size mask : ℕ) → Contains (masks n size) mask ↔ ((mask < 2 ^ n) × (members (bit mask) n ≡ size))
subset_is n size mask = (
  (λ c. let a = among n size (2 ^ n) 0 mask c in (omega (arith, a.below), a.count)),
  (λ p. is_among n size (2 ^ n) 0 mask record { from = omega arith; below = omega (arith, p.0); count = p.1 }),
)
