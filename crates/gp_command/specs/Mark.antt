-- Marks of footprints: two footprints with different marks do not clash if neither mark is 0.
use Rattle.std.specs.Prelude.{ℕ, ◌+◌, ◌*◌, ◌%◌, List, [], ◌∷◌}
use Rattle.gp_command.specs.declared.touch.Touch.{Touch}

-- a number that depends only on bytes; h is the number of the bytes before them
abbrev pub mark_from : ℕ → List ℕ → ℕ
mark_from h [] = h
mark_from h (b ∷ bytes) = mark_from ((h * 31 + b) % 1000003) bytes

-- for a single touch one more than the number of its key, and otherwise 0
abbrev pub foot_mark : List Touch → ℕ
foot_mark [] = 0
foot_mark (t ∷ []) = mark_from 0 t.key + 1
foot_mark (t ∷ u ∷ foot) = 0
