-- The canonical sequence of a history: at each step the least command, among those not yet taken, whose conflicting predecessors were all taken.
use Rattle.std.specs.Prelude.{◌≡◌, ℕ, zero, suc, Bool, true, false, not, ◌&&◌, ◌||◌, cond, List, [], ◌∷◌, ◌++◌, length, filter, Option, Some, None}
use Rattle.std.specs.FinSet as set
use Rattle.std.specs.List.{list_all}
use Rattle.std.specs.Ordering.{is_gt}
use Rattle.gp_command.specs.declared.command.Command.{Command}
use Rattle.gp_command.specs.Order.{command_cmp}
use Rattle.gp_history.specs.History.{History, has, before}
use Rattle.gp_history.specs.Sequence.{history_of}

-- `c` is not taken, and all commands before it are
abbrev pub is_ready : History → History → Command → Bool
is_ready h taken c = not (has taken c) && list_all (λ d. not (before h d c) || has taken d) (set.items h.commands)

abbrev pub lesser : Command → Option Command → Command
lesser x None = x
lesser x (Some y) = cond (is_gt (command_cmp x y)) y x

-- the least of some commands
abbrev pub least : List Command → Option Command
least [] = None
least (x ∷ xs) = Some (lesser x (least xs))

-- the least command that is ready
unfoldable pub next_least : History → History → Option Command
next_least h taken = least (filter (is_ready h taken) (set.items h.commands))

abbrev pub and_next : List Command → Option Command → List Command
and_next taken None = taken
and_next taken (Some c) = taken ++ c ∷ []

-- after n steps, each of which takes the least command that is ready
abbrev pub least_first : ℕ → History → List Command
least_first zero h = []
least_first (suc n) h = and_next (least_first n h) (next_least h (history_of (least_first n h)))

-- the same, with as many steps as there are commands
unfoldable pub canonical : History → List Command
canonical h = least_first (length (set.items h.commands)) h

-- `c` is in `h` and not taken, all commands before it are taken, and no lesser command is like this
pub record IsNext (h taken : History) (c : Command) : Type 0 where
  pub there : has h c ≡ true
  pub fresh : has taken c ≡ false
  pub behind : (d : Command) → before h d c ≡ true → has taken d ≡ true
  pub least : (d : Command) → has h d ≡ true → has taken d ≡ false → ((e : Command) → before h e d ≡ true → has taken e ≡ true) → is_gt (command_cmp c d) ≡ false
