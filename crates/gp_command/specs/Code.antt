-- The bytes by which drafts are compared for equality.
use Rattle.std.specs.Prelude.{ℕ, Bool, List, ◌∷◌, ◌++◌, length}
use Rattle.std.specs.List.{flat_map}
use Rattle.gp_command.specs.declared.touch.Touch.{Touch}
use Rattle.gp_command.specs.Spelling.{mark_number, touch_spelling}

-- checkpoint mark, number of touches, touches and body
abbrev pub draft_code : Bool → List Touch → List ℕ → List ℕ
draft_code checkpoint foot body = mark_number checkpoint ∷ (length foot ∷ (flat_map touch_spelling foot ++ body))
