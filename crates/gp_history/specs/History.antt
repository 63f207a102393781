-- Histories: finite sets of commands, with their conflicting pairs in order.
use Rattle.std.specs.Prelude.{◌≡◌, ℕ, Bool, true, false, not, ◌&&◌, ◌||◌, cond, List, [], ◌∷◌, ◌++◌, map}
use Rattle.std.specs.declared.cmp.Ordering.{Ordering}
use Rattle.std.specs.FinSet as set
use Rattle.std.specs.Ordering.{on, then_cmp}
use Rattle.gp_command.specs.declared.command.Command.{Command}
use Rattle.gp_command.specs.Order.{command_cmp}
use Rattle.gp_command.specs.Conflict.{same, conflict}

-- by the first command, and then by the second
abbrev pub pair_cmp : Command × Command → Command × Command → Ordering
pair_cmp = then_cmp (on (λ p. p.0) command_cmp) (on (λ p. p.1) command_cmp)

-- a finite set of commands, and a finite set of pairs of them: which of two comes before the other
pub record History : Type 0 where
  pub commands : set.FinSet command_cmp
  pub pairs : set.FinSet pair_cmp

-- `c` is a command of `h`
unfoldable pub has : History → Command → Bool
has h c = set.contains h.commands c

-- `c` is before `d` in `h`
unfoldable pub before : History → Command → Command → Bool
before h c d = set.contains h.pairs (c, d)

-- each step from `c` along `path` to `d` is a pair of `h`
abbrev pub leads : History → Command → List Command → Command → Bool
leads h c [] d = before h c d
leads h c (x ∷ path) d = before h c x && leads h x path d

-- each conflicting pair of its commands is ordered in one direction, no other pair is, and there is no cycle
pub record IsHistory (h : History) : Type 0 where
  pub within : (c d : Command) → before h c d ≡ true → (has h c ≡ true) × (has h d ≡ true) × (conflict c d ≡ true)
  pub one_way : (c d : Command) → has h c ≡ true → has h d ≡ true → conflict c d ≡ true → before h c d ≡ not (before h d c)
  pub acyclic : (c : Command) (path : List Command) → leads h c path c ≡ false

-- the commands of `h` are in `k` and ordered alike there, and `h` has all commands that come before one of them in `k`
pub record IsPrefix (h k : History) : Type 0 where
  pub commands : (c : Command) → has h c ≡ true → has k c ≡ true
  pub pairs : (c d : Command) → has h c ≡ true → has h d ≡ true → before h c d ≡ before k c d
  pub closed : (c d : Command) → has h d ≡ true → before k c d ≡ true → has h c ≡ true

-- how many commands there are
unfoldable pub size : History → ℕ
size h = set.len h.commands

unfoldable pub empty : History
empty = record { commands = set.empty; pairs = set.empty }

-- all pairs of two lists
abbrev pub product : List Command → List Command → List (Command × Command)
product [] ys = []
product (x ∷ xs) ys = map (λ y. (x, y)) ys ++ product xs ys

-- these commands, and of their pairs those that pass a test
unfoldable pub ordered_by : set.FinSet command_cmp → (Command → Command → Bool) → History
ordered_by commands p = record {
  commands = commands;
  pairs = set.retain (set.from_list (product (set.items commands) (set.items commands))) (λ q. p q.0 q.1);
}

-- `h` with `c` after all commands that conflict with it, unless `h` has `c`
unfoldable pub push : History → Command → History
push h c = cond (has h c) h (ordered_by (set.insert h.commands c) (λ x y. before h x y || (conflict x y && same y c)))

-- these commands pushed one after another
abbrev pub pushes : History → List Command → History
pushes h [] = h
pushes h (c ∷ cs) = pushes (push h c) cs
