-- The places of a list.
use Rattle.std.proofs.Common.{◌≡◌, ◌≢◌, ℕ, zero, suc, ◌+◌, ◌<◌, List, [], ◌∷◌, ◌++◌, length, map, slice_get, slice_set, refl, sym, ap, ◌∙◌, arith, Option, Some, None}

module _ {A : Type 0} where
  pub value_of : (d : A) → Option A → A
  value_of d None = d
  value_of d (Some x) = x

  pub same_value : (x y : A) → Some x ≡ Some y → x ≡ y
  unfolding value_of
  same_value x y e = ap (value_of x) e

  pub same_at : (xs : List A) (i : ℕ) (x y : A) → slice_get xs i ≡ Some x → slice_get xs i ≡ Some y → x ≡ y
  same_at xs i x y a b = same_value x y (sym a ∙ b)

  pub within : (xs : List A) (i : ℕ) (x : A) → slice_get xs i ≡ Some x → i < length xs
  within [] i x e = cc
  within (y ∷ ys) zero x e = omega arith
  within (y ∷ ys) (suc i) x e = let h = within ys i x e in omega arith

  pub there : (xs : List A) (i : ℕ) → i < length xs → (x : A) × (slice_get xs i ≡ Some x)
  there [] i l = absurd (omega (arith, l))
  there (y ∷ ys) zero l = (y, refl)
  there (y ∷ ys) (suc i) l = there ys i (omega arith)

  pub set_here : (xs : List A) (i : ℕ) (x : A) → i < length xs → slice_get (slice_set xs i x) i ≡ Some x
  set_here [] i x l = absurd (omega (arith, l))
  set_here (y ∷ ys) zero x l = refl
  set_here (y ∷ ys) (suc i) x l = set_here ys i x (omega arith)

  pub set_other : (xs : List A) (i j : ℕ) (x : A) → j ≢ i → slice_get (slice_set xs i x) j ≡ slice_get xs j
  set_other [] i j x n = refl
  set_other (y ∷ ys) zero zero x n = absurd (n refl)
  set_other (y ∷ ys) zero (suc j) x n = refl
  set_other (y ∷ ys) (suc i) zero x n = refl
  set_other (y ∷ ys) (suc i) (suc j) x n = set_other ys i j x (λ e. n (ap suc e))

  pub set_length : (xs : List A) (i : ℕ) (x : A) → length (slice_set xs i x) ≡ length xs
  set_length [] i x = refl
  set_length (y ∷ ys) zero x = refl
  set_length (y ∷ ys) (suc i) x = ap suc (set_length ys i x)

  pub front_at : (xs ys : List A) (i : ℕ) → i < length xs → slice_get (xs ++ ys) i ≡ slice_get xs i
  front_at [] ys i l = absurd (omega (arith, l))
  front_at (x ∷ xs) ys zero l = refl
  front_at (x ∷ xs) ys (suc i) l = front_at xs ys i (omega arith)

  pub back_at : (xs ys : List A) (i k : ℕ) → i ≡ length xs + k → slice_get (xs ++ ys) i ≡ slice_get ys k
  back_at [] ys i k e = ap (slice_get ys) (omega (arith, e))
  back_at (x ∷ xs) ys zero k e = absurd (omega (arith, e))
  back_at (x ∷ xs) ys (suc i) k e = back_at xs ys i k (omega (arith, e))

  -- two lists with the same elements at all places
  pub same_list : (xs ys : List A) → ((i : ℕ) → slice_get xs i ≡ slice_get ys i) → xs ≡ ys
  same_list [] [] h = refl
  same_list [] (y ∷ ys) h = let e = h 0 in cc
  same_list (x ∷ xs) [] h = let e = h 0 in cc
  same_list (x ∷ xs) (y ∷ ys) h = let e = same_value x y (h 0) in let t = same_list xs ys (λ i. h (suc i)) in (λ i. e i ∷ t i)

module _ {A B : Type 0} (f : A → B) where
  pub map_at : (xs : List A) (i : ℕ) (x : A) → slice_get xs i ≡ Some x → slice_get (map f xs) i ≡ Some (f x)
  map_at [] i x e = cc
  map_at (y ∷ ys) zero x e = ap Some (ap f (same_value y x e))
  map_at (y ∷ ys) (suc i) x e = map_at ys i x e

  pub mapped_at : (xs : List A) (i : ℕ) (y : B) → slice_get (map f xs) i ≡ Some y → (x : A) × (slice_get xs i ≡ Some x) × (f x ≡ y)
  mapped_at [] i y e = absurd cc
  mapped_at (x ∷ xs) zero y e = (x, refl, same_value (f x) y e)
  mapped_at (x ∷ xs) (suc i) y e = mapped_at xs i y e

  -- what another list with the same images has at a place
  pub image_at : (xs ys : List A) (i : ℕ) (x : A) → map f xs ≡ map f ys → slice_get xs i ≡ Some x → (y : A) × (slice_get ys i ≡ Some y) × (f y ≡ f x)
  image_at xs ys i x e at = mapped_at ys i (f x) (ap (λ l. slice_get l i) (sym e) ∙ map_at xs i x at)
