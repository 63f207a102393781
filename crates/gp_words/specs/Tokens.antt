-- The tokens of a text.
use Rattle.std.specs.Prelude.{ℕ, Bool, List, length, map, ◌==◌}
use Rattle.std.specs.List.{slice_split, list_any}
use Rattle.std.specs.Borrow.{Bor}

-- the byte between tokens
abbrev pub is_space : ℕ → Bool
is_space byte = byte == 32

-- the parts of a text that single spaces separate
abbrev pub tokens_of : List ℕ → List (List ℕ)
tokens_of text = slice_split is_space text

-- the texts that these slices hold
abbrev pub texts : List (Bor (List ℕ)) → List (List ℕ)
texts slices = map (λ slice. slice.now) slices

-- one of the tokens is empty
abbrev pub has_empty : List (List ℕ) → Bool
has_empty tokens = list_any (λ token. length token == 0) tokens
