-- The lines of a text.
use Rattle.std.specs.Prelude.{ℕ, Bool, List, [], ◌∷◌, ◌==◌, if◌then◌else◌}
use Rattle.std.specs.List.{before_first, onto_first}

-- the byte that ends a line
abbrev pub is_line_feed : ℕ → Bool
is_line_feed byte = byte == 10

-- the lines of a text, each with the line feed that ends it; the last may lack it
unfoldable pub lines_of : List ℕ → List (List ℕ)
lines_of [] = []
lines_of (byte ∷ bytes) = if is_line_feed byte then (byte ∷ []) ∷ lines_of bytes else onto_first byte (lines_of bytes)

-- a line without its line feed
abbrev pub text_of : List ℕ → List ℕ
text_of line = before_first is_line_feed line
