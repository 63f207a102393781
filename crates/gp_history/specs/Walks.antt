-- What the walks over two sequences test.
use Rattle.std.specs.Prelude.{ℕ, Bool, true, false, not, ◌&&◌, ◌||◌, List, slice_get, Option, Some, None}
use Rattle.std.specs.List.{list_any, list_all}
use Rattle.std.specs.Ordering.{is_lt}
use Rattle.gp_command.specs.declared.command.Command.{Command}
use Rattle.gp_command.specs.Conflict.{same}
use Rattle.gp_command.specs.Order.{command_cmp}
use Rattle.gp_history.specs.History.{History, has, before}
use Rattle.gp_history.specs.Sequence.{history_of}

-- there is a command, and it is `c`
abbrev pub is_it : Command → Option Command → Bool
is_it c None = false
is_it c (Some d) = same c d

-- `c` is at this place of a sequence
abbrev pub stands_at : Command → List Command → ℕ → Bool
stands_at c xs i = is_it c (slice_get xs i)

-- if `c` is before `d` in `h`, it was kept, and is before `d` in `k`
abbrev pub behind : History → History → History → Command → Command → Bool
behind h k kept d c = not (before h c d) || (has kept c && before k c d)

-- `c` is in `ys`, and each command before it there is before it in `xs`
abbrev pub fits : List Command → List Command → Command → Bool
fits xs ys c = list_any (same c) ys && list_all (behind (history_of ys) (history_of xs) (history_of ys) c) ys

-- `c` is less than the best so far
abbrev pub is_less : Command → Option Command → Bool
is_less c None = true
is_less c (Some best) = is_lt (command_cmp c best)
