-- Tests of bytes.
use Rattle.std.specs.Prelude.{ℕ, Bool, not, List, IsTrue}
use Rattle.std.specs.List.{list_all}

-- no byte of the text passes
abbrev pub Lacks : (ℕ → Bool) → List ℕ → Type 0
Lacks p text = IsTrue (list_all (λ b. not (p b)) text)
