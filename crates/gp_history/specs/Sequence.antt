-- Sequences of commands, and their histories.
use Rattle.std.specs.Prelude.{ℕ, suc, Bool, true, not, ◌&&◌, cond, List, [], ◌∷◌, nat_lt, Option, Some, None}
use Rattle.std.specs.FinSet as set
use Rattle.std.specs.List.{list_any}
use Rattle.gp_command.specs.declared.command.Command.{Command}
use Rattle.gp_command.specs.Conflict.{same, conflict}
use Rattle.gp_history.specs.History.{History, ordered_by}

-- the first place of a command in a sequence; the length, if it is not there
abbrev pub place : List Command → Command → ℕ
place [] c = 0
place (x ∷ xs) c = cond (same c x) 0 (suc (place xs c))

-- the first place of a command, if it is there
abbrev pub place_in : List Command → Command → Option ℕ
place_in xs c = cond (list_any (same c) xs) (Some (place xs c)) None

-- the sequence has no duplicates
abbrev pub no_repeat : List Command → Bool
no_repeat [] = true
no_repeat (x ∷ xs) = not (list_any (same x) xs) && no_repeat xs

-- the history of a sequence: its commands, with each conflicting pair in the order of the sequence
unfoldable pub history_of : List Command → History
history_of xs = ordered_by (set.from_list xs) (λ c d. conflict c d && nat_lt (place xs c) (place xs d))
