-- Sequences that go on in canonical order.
use Rattle.std.specs.Prelude.{◌≡◌, ◌<◌, ◌≤◌, ℕ, Bool, List, map, length, take, slice_get}
use Rattle.gp_command.specs.declared.command.Command.{Command}
use Rattle.gp_history.specs.History.{History, has}
use Rattle.gp_history.specs.Sequence.{history_of}
use Rattle.gp_history.specs.Canonical.{next_least}

-- the second sequence begins with the first, and each command after that is the least of `h` that is ready then
pub record Continues (h : History) (before after : List Command) : Type 0 where
  pub start : take (length before) after ≡ before
  pub least : (i : ℕ) → length before ≤ i → i < length after → next_least h (history_of (take i after)) ≡ slice_get after i

-- for each command of a sequence, whether it was taken
abbrev pub marks_in : List Command → List Command → List Bool
marks_in xs taken = map (has (history_of taken)) xs
