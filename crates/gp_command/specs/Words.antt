-- Bytes as numbers of eight bytes each.
use Rattle.std.specs.Prelude.{ℕ, ◌+◌, ◌≡◌, List, [], ◌∷◌, get_or}
use Rattle.std.specs.Int.{w64, to_le_bytes, from_le_bytes}
use Rattle.gp_command.specs.declared.code.Head.{Head}

-- eight bytes from a place on, with zeros after the end
abbrev pub eight : List ℕ → ℕ → List ℕ
eight xs i = get_or xs i 0 ∷ get_or xs (i + 1) 0 ∷ get_or xs (i + 2) 0 ∷ get_or xs (i + 3) 0 ∷ get_or xs (i + 4) 0 ∷ get_or xs (i + 5) 0 ∷ get_or xs (i + 6) 0 ∷ get_or xs (i + 7) 0 ∷ []

-- a number, and the eight bytes from place i on that encode it
pub record IsWord (w : ℕ) (xs : List ℕ) (i : ℕ) : Type 0 where
  pub read : w ≡ from_le_bytes w64 (eight xs i)
  pub written : to_le_bytes w64 w ≡ eight xs i

-- the first 32 bytes, as four numbers
pub record IsHead (h : Head) (xs : List ℕ) : Type 0 where
  pub first : IsWord h.first xs 0
  pub second : IsWord h.second xs 8
  pub third : IsWord h.third xs 16
  pub fourth : IsWord h.fourth xs 24
