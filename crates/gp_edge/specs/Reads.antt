-- What a source returns.
use Rattle.std.specs.Prelude.{◌≡◌, ℕ, ◌<◌, ◌≤◌, List, [], ◌++◌, length, take, drop, Option, Some, None, Result, Ok, Err}

-- the first n remaining bytes are at the front of the piece, which has `room` bytes, and no longer remain
pub record Gives (rest : List ℕ) (left : Option (List ℕ)) (room : ℕ) (piece : List ℕ) (n : ℕ) : Type 0 where
  pub inside : n ≤ length rest
  pub front : take n piece ≡ take n rest
  pub behind : left ≡ Some (drop n rest)
  pub end : n ≡ 0 → 0 < room → rest ≡ []

-- what a read puts into the piece, which has `room` bytes, and which bytes remain then
abbrev pub GivesNext : {E : Type 0} → Option (List ℕ) → Option (List ℕ) → ℕ → List ℕ → Result ℕ E → Type 0
GivesNext None left room piece result = left ≡ None
GivesNext (Some rest) left room piece (Ok n) = Gives rest left room piece n
GivesNext (Some rest) left room piece (Err e) = left ≡ Some rest

-- the piece with these bytes at its front
abbrev pub overlaid : List ℕ → List ℕ → List ℕ
overlaid bytes piece = bytes ++ drop (length bytes) piece

-- these bytes are the remaining ones up to a limit, and no longer remain
abbrev pub ReadsUpTo : ℕ → Option (List ℕ) → Option (List ℕ) → List ℕ → Type 0
ReadsUpTo limit None left bytes = left ≡ None
ReadsUpTo limit (Some rest) left bytes = (bytes ≡ take limit rest) × (left ≡ Some (drop limit rest))

-- some of the first remaining bytes, at most as many as the limit, no longer remain
abbrev pub LosesUpTo : ℕ → Option (List ℕ) → Option (List ℕ) → Type 0
LosesUpTo limit None left = left ≡ None
LosesUpTo limit (Some rest) left = (n : ℕ) × (n ≤ limit) × (left ≡ Some (drop n rest))
