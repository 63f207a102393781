-- Texts that were appended in part.
use Rattle.std.specs.Prelude.{◌≡◌, ℕ, List, ◌++◌, take}

-- the new text is the old one, followed by the beginning of the text that was to be appended
abbrev pub AppendsBeginning : List ℕ → List ℕ → List ℕ → Type 0
AppendsBeginning old new text = (n : ℕ) × (new ≡ old ++ take n text)
