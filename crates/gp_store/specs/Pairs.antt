-- What contracts see of the store.
use Rattle.std.specs.Prelude.{ℕ, List, Option, unwrap_or}
use Rattle.std.specs.FinMap.{FinMap, get, from_entries}
use Rattle.gp_command.specs.Key.{key_cmp}

-- the pairs of a key that is there and its value, in ascending order of the keys
abbrev pub Pairs : Type 0
Pairs = FinMap key_cmp ℕ

-- the pairs of a list in which no key occurs twice
abbrev pub pairs_of : List (List ℕ × ℕ) → Pairs
pairs_of es = from_entries es

-- the key's value, if the key is there
abbrev pub value_at : Pairs → List ℕ → Option ℕ
value_at pairs key = get pairs key

-- the key's value, or 0 if the key is absent
abbrev pub count_at : Pairs → List ℕ → ℕ
count_at pairs key = unwrap_or (value_at pairs key) 0
