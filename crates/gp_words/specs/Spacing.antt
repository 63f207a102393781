-- Words with single spaces between them.
use Rattle.std.specs.Prelude.{ℕ, zero, suc, List, [], ◌∷◌, codes}
use Rattle.std.specs.List.{join_with_byte}

-- the words with single spaces between them
abbrev pub joined : List (List ℕ) → List ℕ
joined words = join_with_byte 32 words

-- the same, or `-` if there is no word
abbrev pub spaced : List (List ℕ) → List ℕ
spaced [] = codes "-"
spaced (word ∷ words) = joined (word ∷ words)

-- what comes before a word that has this many words before it
abbrev pub gap : ℕ → List ℕ
gap zero = []
gap (suc n) = codes " "

-- what follows all words, if there are this many
abbrev pub dash : ℕ → List ℕ
dash zero = codes "-"
dash (suc n) = []
