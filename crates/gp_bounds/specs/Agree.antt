-- What the walks for compatibility and meets test, and what they compute.
use Rattle.std.specs.Prelude.{Bool, not, cond, ◌&&◌, ◌||◌, List, Option, Some, None}
use Rattle.std.specs.List.{list_all}
use Rattle.gp_command.specs.Conflict.{conflict}
use Rattle.gp_command.specs.declared.command.Command.{Command}
use Rattle.gp_history.specs.History.{History, has}
use Rattle.gp_history.specs.Sequence.{history_of}
use Rattle.gp_history.specs.Bounds.{meet, met, meet_of}
use Rattle.gp_history.specs.Walks.{behind}

-- the commands before `d` in either sequence were kept, and are before it in both
abbrev pub agrees : List Command → List Command → History → Command → Bool
agrees xs ys kept d = list_all (behind (history_of xs) (history_of ys) kept d) xs && list_all (behind (history_of ys) (history_of xs) kept d) ys

-- `c` is in `k`, or does not conflict with `d`
abbrev pub is_apart : History → Command → Command → Bool
is_apart k d c = has k c || not (conflict c d)

-- `d` is a command of `ys`: if `xs` has it, the commands before it are the same in both; otherwise it conflicts with no command that only `xs` has
abbrev pub goes_beside : List Command → List Command → Command → Bool
goes_beside xs ys d =
    cond (has (history_of xs) d)
    (list_all (behind (history_of xs) (history_of ys) (history_of xs) d) xs && list_all (behind (history_of ys) (history_of xs) (history_of ys) d) ys)
    (list_all (is_apart (history_of ys) d) xs)

-- the meet with one more history, or that history alone
abbrev pub and_meet : Option History → History → History
and_meet None h = h
and_meet (Some u) h = meet u h

-- the meet so far, with the other histories
abbrev pub met_with : Option History → List History → Option History
met_with None hs = meet_of hs
met_with (Some u) hs = Some (met u hs)
