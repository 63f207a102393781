-- Elements of lists, truth values and places.
use Rattle.std.proofs.Common.{◌≡◌, ◌⊎◌, inl, inr, ◌<◌, ◌≤◌, ◌+◌, ℕ, zero, suc, Bool, true, false, cond, ◌&&◌, nat_eq, List, [], ◌∷◌, ◌++◌, length, slice_get, get_or, refl, sym, subst, ap, arith, Option, Some, None}
use Rattle.std.specs.List.{Contains}
use Rattle.std.proofs.lemmas.Bool.{eqb-true, eq-eqb}
use Rattle.std.proofs.lemmas.Option.{slice_get_within}
use Rattle.gp_cstructs.specs.CStructs.{Among}
use Rattle.gp_cstructs.specs.Tables.{set_at, is_missing}

-- ---- truth values

pub bool_cases : (b : Bool) → (b ≡ true) ⊎ (b ≡ false)
bool_cases true = inl refl
bool_cases false = inr refl

-- what holds of both branches
pub cond_cases : {X : Type 0} (P : X → Type 0) (b : Bool) (x y : X) → (b ≡ true → P x) → (b ≡ false → P y) → P (cond b x y)
cond_cases P true x y p q = p refl
cond_cases P false x y p q = q refl

pub and_split : (a b : Bool) → (a && b) ≡ true → (a ≡ true) × (b ≡ true)
and_split true b h = (refl, h)
and_split false b h = (h, absurd (cc))

pub and_both : (a b : Bool) → a ≡ true → b ≡ true → (a && b) ≡ true
and_both a b p q = rw (p, q) refl

-- ---- options

pub none_is : {X : Type 0} (o : Option X) → is_missing o ≡ true → o ≡ None
none_is None h = refl
none_is (Some x) h = absurd (cc)

-- ---- elements of lists

pub among_append : {X : Type 0} (xs ys : List X) (x : X) → Among (xs ++ ys) x → Among xs x ⊎ Among ys x
among_append [] ys x m = inr m
among_append (z ∷ xs) ys x m = elim m [
  | inl e ↦ inl (inl e)
  | inr n ↦ elim (among_append xs ys x n) [ inl a ↦ inl (inr a) | inr b ↦ inr b ]
]

pub among_left : {X : Type 0} (xs ys : List X) (x : X) → Among xs x → Among (xs ++ ys) x
among_left [] ys x m = elim m [ ]
among_left (z ∷ xs) ys x m = elim m [ inl e ↦ inl e | inr n ↦ inr (among_left xs ys x n) ]

pub among_right : {X : Type 0} (xs ys : List X) (x : X) → Among ys x → Among (xs ++ ys) x
among_right [] ys x m = m
among_right (z ∷ xs) ys x m = inr (among_right xs ys x m)

-- element k stands in the list
pub stands_there : {X : Type 0} (xs : List X) (k : ℕ) → k < length xs → (x : X) × (slice_get xs k ≡ Some x) × Among xs x
stands_there [] k h = absurd (omega arith)
stands_there (x ∷ xs) zero h = (x, refl, inl refl)
stands_there (x ∷ xs) (suc k) h = let r = stands_there xs k (omega arith) in (r.0, r.1, inr r.2)

pub get_among : {X : Type 0} (xs : List X) (k : ℕ) (x : X) → slice_get xs k ≡ Some x → Among xs x
get_among [] k x e = absurd (cc)
get_among (y ∷ xs) zero x e = inl (cc)
get_among (y ∷ xs) (suc k) x e = inr (get_among xs k x e)

-- an element of two lists is one of the first, or of the second at a place that is so far behind
pub get_append : {X : Type 0} (xs ys : List X) (k : ℕ) (x : X) → slice_get (xs ++ ys) k ≡ Some x
    → (slice_get xs k ≡ Some x) ⊎ ((length xs ≤ k) × (k < length xs + length ys) × Among ys x)
get_append [] ys k x e = inr (omega arith, omega (arith, slice_get_within ys k x e), get_among ys k x e)
get_append (y ∷ xs) ys zero x e = inl e
get_append (y ∷ xs) ys (suc k) x e = elim (get_append xs ys k x e) [
  | inl a ↦ inl a
  | inr b ↦ inr (omega (arith, b.0), omega (arith, b.1), b.2)
]

pub among_contains : {X : Type 0} (xs : List X) (x : X) → Among xs x → Contains xs x
among_contains [] x m = elim m [ ]
among_contains (y ∷ xs) x m = elim m [
  | inl e ↦ (0, omega arith, e)
  | inr n ↦ let c = among_contains xs x n in (suc c.0, omega (arith, c.1), c.2)
]

pub contains_among : {X : Type 0} (xs : List X) (x : X) → Contains xs x → Among xs x
contains_among {X} xs x c = by_place xs c.0 c.1 c.2 where
  by_place : (ys : List X) (i : ℕ) → i < length ys → get_or ys i x ≡ x → Among ys x
  by_place [] i h e = absurd (omega (arith, h))
  by_place (y ∷ ys) zero h e = inl e
  by_place (y ∷ ys) (suc i) h e = inr (by_place ys i (omega (arith, h)) e)

-- ---- places

pub nat_cases : (a b : ℕ) → (a ≡ b) ⊎ (a ≡ b → ⊥)
nat_cases a b = elim (bool_cases (nat_eq a b)) [
  | inl e ↦ inl (eqb-true a b e)
  | inr e ↦ inr (λ s. let t = eq-eqb a b s in cc)
]

pub set_same : {X : Type 0} (f : ℕ → X) (a : ℕ) (x : X) → set_at f a x a ≡ x
set_same f a x = ap (λ b. cond b x (f a)) (eq-eqb a a refl)

pub set_other : {X : Type 0} (f : ℕ → X) (a : ℕ) (x : X) (b : ℕ) → (a ≡ b → ⊥) → set_at f a x b ≡ f b
set_other f a x b n = elim (bool_cases (nat_eq b a)) [
  | inl e ↦ absurd (n (sym (eqb-true b a e)))
  | inr e ↦ ap (λ t. cond t x (f b)) e
]

-- what holds of x at its place, and of all else where it was
pub set_cases : {X : Type 0} (P : ℕ → X → Type 0) (f : ℕ → X) (a : ℕ) (x : X) → P a x → ((b : ℕ) → (a ≡ b → ⊥) → P b (f b)) → (b : ℕ) → P b (set_at f a x b)
set_cases {X} P f a x p q b = elim (nat_cases a b) [
  | inl e ↦ subst (λ (c : ℕ). P c (set_at f a x c)) e (subst (λ (y : X). P a y) (sym (set_same f a x)) p)
  | inr n ↦ subst (λ (y : X). P b y) (sym (set_other f a x b n)) (q b n)
]
