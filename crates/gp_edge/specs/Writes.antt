-- What is appended to a sink.
use Rattle.std.specs.Prelude.{◌≡◌, ℕ, ◌<◌, List, ◌++◌, length, take, Option, Some, None, Result, Ok, Err}

-- as many of the first bytes of the piece as the call returns were appended, and none if it was refused
abbrev pub AppendsFirst : {E : Type 0} → Option (List ℕ) → Option (List ℕ) → List ℕ → Result ℕ E → Type 0
AppendsFirst None new piece result = new ≡ None
AppendsFirst (Some bytes) new piece (Ok n) = new ≡ Some (bytes ++ take n piece)
AppendsFirst (Some bytes) new piece (Err e) = new ≡ Some bytes

-- the text was appended
abbrev pub AppendsWhole : Option (List ℕ) → Option (List ℕ) → List ℕ → Type 0
AppendsWhole None new text = new ≡ None
AppendsWhole (Some bytes) new text = new ≡ Some (bytes ++ text)

-- some first bytes of the text, and not all of it, were appended
abbrev pub AppendsPart : Option (List ℕ) → Option (List ℕ) → List ℕ → Type 0
AppendsPart None new text = new ≡ None
AppendsPart (Some bytes) new text = (n : ℕ) × (n < length text) × (new ≡ Some (bytes ++ take n text))
