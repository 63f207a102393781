-- Jobs that are given their moves, one after another.
use Rattle.std.proofs.Common.{◌≡◌, ℕ, zero, suc, ◌<◌, ◌≤◌, List, [], ◌∷◌, ◌++◌, map, length, take, drop, get_or, set, refl, ap, arith}

module _ {A : Type 0} (f : A → A) where
  -- the first i of them were given theirs
  abbrev pub given_first : List A → ℕ → List A
  given_first xs i = map f (take i xs) ++ drop i xs

  pub given_long : (xs : List A) (i : ℕ) → i ≤ length xs → length (given_first xs i) ≡ length xs
  given_long [] zero l = refl
  given_long [] (suc i) l = absurd (omega (arith, l))
  given_long (x ∷ xs) zero l = refl
  given_long (x ∷ xs) (suc i) l = ap suc (given_long xs i (omega (arith, l)))

  pub given_next : (xs : List A) (i : ℕ) (d : A) → i < length xs → set (given_first xs i) i (f (get_or (given_first xs i) i d)) ≡ given_first xs (suc i)
  given_next [] i d l = absurd (omega (arith, l))
  given_next (x ∷ xs) zero d l = refl
  given_next (x ∷ xs) (suc i) d l = ap (λ ys. f x ∷ ys) (given_next xs i d (omega (arith, l)))

  pub given_whole : (xs : List A) (i : ℕ) → length xs ≤ i → given_first xs i ≡ map f xs
  given_whole [] zero l = refl
  given_whole [] (suc i) l = refl
  given_whole (x ∷ xs) zero l = absurd (omega (arith, l))
  given_whole (x ∷ xs) (suc i) l = ap (λ ys. f x ∷ ys) (given_whole xs i (omega (arith, l)))
