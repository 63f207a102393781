-- Messages at places of a list.
use Rattle.std.proofs.Common.{◌≡◌, ℕ, zero, suc, ◌+◌, ◌<◌, Bool, true, false, cond, List, [], ◌∷◌, ◌++◌, length, Some, refl, sym, ap, ◌∙◌, subst, arith, append_assoc, inl, inr}
use Rattle.std.specs.Prelude.{slice_get, filter}
use Rattle.std.proofs.lemmas.Bool.{cases_eq}
use Rattle.std.proofs.Math.Seq.{drop-append_seam}
use Rattle.gp_msg.specs.Messages.{Stamped}
use Rattle.gp_msg.specs.declared.message.MsgKind.{MsgKind}
use Rattle.gp_driver.specs.Sweeps.{is_of, places_from, places}

-- ---- these messages stand at these places

abbrev pub Picked : List Stamped → List ℕ → List Stamped → Type 0
Picked ms [] [] = Unit {0}
Picked ms [] (x ∷ xs) = ⊥
Picked ms (k ∷ ks) [] = ⊥
Picked ms (k ∷ ks) (x ∷ xs) = (slice_get ms k ≡ Some x) × Picked ms ks xs

pub get-append : {X : Type 0} (xs ys : List X) (k : ℕ) (x : X) → slice_get xs k ≡ Some x → slice_get (xs ++ ys) k ≡ Some x
get-append [] ys k x e = cc
get-append (y ∷ xs) ys zero x e = e
get-append (y ∷ xs) ys (suc k) x e = get-append xs ys k x e

pub picked-append : (ms more : List Stamped) (ks : List ℕ) (xs : List Stamped) → Picked ms ks xs → Picked (ms ++ more) ks xs
picked-append ms more [] [] p = tt
picked-append ms more [] (x ∷ xs) p = p
picked-append ms more (k ∷ ks) [] p = p
picked-append ms more (k ∷ ks) (x ∷ xs) p = (get-append ms more k x p.0, picked-append ms more ks xs p.1)

pub length-picked : (ms : List Stamped) (ks : List ℕ) (xs : List Stamped) → Picked ms ks xs → length ks ≡ length xs
length-picked ms [] [] p = refl
length-picked ms [] (x ∷ xs) p = absurd p
length-picked ms (k ∷ ks) [] p = absurd p
length-picked ms (k ∷ ks) (x ∷ xs) p = ap suc (length-picked ms ks xs p.1)

-- ---- from a place on

-- these messages stand from place n on
abbrev pub StandFrom : List Stamped → ℕ → List Stamped → Type 0
StandFrom ms n [] = Unit {0}
StandFrom ms n (x ∷ xs) = (slice_get ms n ≡ Some x) × StandFrom ms (suc n) xs

get_behind : {X : Type 0} (xs : List X) (y : X) (ys : List X) → slice_get (xs ++ y ∷ ys) (length xs) ≡ Some y
get_behind [] y ys = refl
get_behind (x ∷ xs) y ys = get_behind xs y ys

length-snoc : {X : Type 0} (xs : List X) (y : X) → length (xs ++ y ∷ []) ≡ suc (length xs)
length-snoc [] y = refl
length-snoc (x ∷ xs) y = ap suc (length-snoc xs y)

pub stand_behind : (xs ys : List Stamped) → StandFrom (xs ++ ys) (length xs) ys
stand_behind xs [] = tt
stand_behind xs (y ∷ ys) = (get_behind xs y ys, subst (λ (p : List Stamped × ℕ). StandFrom p.0 p.1 ys) (λ i. (append_assoc xs (y ∷ []) ys i, length-snoc xs y i)) (stand_behind (xs ++ y ∷ []) ys))

pub picks : (ms : List Stamped) (kind : MsgKind) (n : ℕ) (xs : List Stamped) → StandFrom ms n xs → Picked ms (places_from kind n xs) (filter (is_of kind) xs)
picks ms kind n [] s = tt
picks ms kind n (x ∷ xs) s = by (is_of kind x) (picks ms kind (suc n) xs s.1) where
  by : (b : Bool) → Picked ms (places_from kind (suc n) xs) (filter (is_of kind) xs) → Picked ms (cond b (n ∷ places_from kind (suc n) xs) (places_from kind (suc n) xs)) (cond b (x ∷ filter (is_of kind) xs) (filter (is_of kind) xs))
  by true r = (s.0, r)
  by false r = r

-- the messages of a kind among those that stand behind others
pub picks_behind : (kind : MsgKind) (xs ys : List Stamped) → Picked (xs ++ ys) (places kind (length xs) (xs ++ ys)) (filter (is_of kind) ys)
picks_behind kind xs ys =
    subst (λ zs. Picked (xs ++ ys) (places_from kind (length xs) zs) (filter (is_of kind) ys)) (sym (drop-append_seam xs ys)) (picks (xs ++ ys) kind (length xs) ys (stand_behind xs ys))

pub filter-append : {X : Type 0} (p : X → Bool) (xs ys : List X) → filter p (xs ++ ys) ≡ filter p xs ++ filter p ys
filter-append p [] ys = refl
filter-append p (x ∷ xs) ys = by (p x) (filter-append p xs ys) where
  by : (b : Bool) → filter p (xs ++ ys) ≡ filter p xs ++ filter p ys → cond b (x ∷ filter p (xs ++ ys)) (filter p (xs ++ ys)) ≡ cond b (x ∷ filter p xs) (filter p xs) ++ filter p ys
  by true r = ap (λ zs. x ∷ zs) r
  by false r = r

-- ---- one message of each of n nodes

abbrev pub outs : (ℕ → Stamped) → ℕ → List Stamped
outs x zero = []
outs x (suc n) = outs x n ++ x n ∷ []

pub length-outs : (x : ℕ → Stamped) (n : ℕ) → length (outs x n) ≡ n
length-outs x zero = refl
length-outs x (suc n) = length-snoc (outs x n) (x n) ∙ ap suc (length-outs x n)

pub all_outs : (p : Stamped → Bool) (x : ℕ → Stamped) (n : ℕ) → ((i : ℕ) → i < n → p (x i) ≡ true) → filter p (outs x n) ≡ outs x n
all_outs p x zero h = refl
all_outs p x (suc n) h =
    filter-append p (outs x n) (x n ∷ [])
    ∙ (λ k. all_outs p x n (λ i l. h i (omega (arith, l))) k ++ cond (h n (omega arith) k) (x n ∷ []) [])

pub no_outs : (p : Stamped → Bool) (x : ℕ → Stamped) (n : ℕ) → ((i : ℕ) → i < n → p (x i) ≡ false) → filter p (outs x n) ≡ []
no_outs p x zero h = refl
no_outs p x (suc n) h =
    filter-append p (outs x n) (x n ∷ [])
    ∙ (λ k. no_outs p x n (λ i l. h i (omega (arith, l))) k ++ cond (h n (omega arith) k) (x n ∷ []) [])

-- where nothing is picked there is no place, and where something is there is a first
pub picked_none : (ms : List Stamped) (ks : List ℕ) → Picked ms ks [] → ks ≡ []
picked_none ms [] p = refl
picked_none ms (k ∷ ks) p = absurd p

pub record FirstPicked (ms : List Stamped) (ks : List ℕ) (x : Stamped) : Type 0 where
  pub first : ℕ
  pub rest : List ℕ
  pub is : ks ≡ first ∷ rest
  pub there : slice_get ms first ≡ Some x

pub picked_first : (ms : List Stamped) (ks : List ℕ) (x : Stamped) (xs : List Stamped) → Picked ms ks (x ∷ xs) → FirstPicked ms ks x
picked_first ms [] x xs p = absurd p
picked_first ms (k ∷ ks) x xs p = record { first = k; rest = ks; is = refl; there = p.0 }

pub outs_first : (x : ℕ → Stamped) (n : ℕ) → 0 < n → (rest : List Stamped) × (outs x n ≡ x 0 ∷ rest)
outs_first x zero l = absurd (omega (arith, l))
outs_first x (suc zero) l = ([], refl)
outs_first x (suc (suc n)) l = let r = outs_first x (suc n) (omega arith) in (r.0 ++ x (suc n) ∷ [], ap (λ ys. ys ++ x (suc n) ∷ []) r.1)

pub get-behind : {X : Type 0} (xs ys : List X) (j : ℕ) (y : X) → slice_get ys j ≡ Some y → slice_get (xs ++ ys) (length xs + j) ≡ Some y
get-behind [] ys j y e = ap (slice_get ys) (let z : 0 + j ≡ j = omega arith in z) ∙ e
get-behind (x ∷ xs) ys j y e = ap (slice_get (x ∷ (xs ++ ys))) (let z : suc (length xs) + j ≡ suc (length xs + j) = omega arith in z) ∙ get-behind xs ys j y e

pub outs_there : (x : ℕ → Stamped) (n i : ℕ) → i < n → slice_get (outs x n) i ≡ Some (x i)
outs_there x zero i l = absurd (omega (arith, l))
outs_there x (suc n) i l = elim (cases_eq i n) [
  | inl e ↦ subst (λ j. slice_get (outs x n ++ x n ∷ []) j ≡ Some (x j)) (sym e) (ap (slice_get (outs x n ++ x n ∷ [])) (sym (length-outs x n)) ∙ get_behind (outs x n) (x n) [])
  | inr e ↦ get-append (outs x n) (x n ∷ []) i (x i) (outs_there x n i (omega (arith, l, e)))
]
