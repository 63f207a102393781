-- The book of a feed: each list that was committed, in order.
use Rattle.std.specs.Prelude.{◌≡◌, ℕ, true, List, [], ◌∷◌, ◌++◌, length}
use mathlib.Core.List.{IsPrefix}
use Rattle.logbook.specs.Pages.{Cell, Step, View, Book, Named}
use Rattle.gp_command.specs.declared.command.Command.{Command}
use Rattle.gp_views.specs.Lists.{Extends}

-- the last list, or the empty one if there is none
abbrev pub last_of : List (List Command) → List Command
last_of [] = []
last_of (cs ∷ []) = cs
last_of (cs ∷ ds ∷ more) = last_of (ds ∷ more)

-- each list extends those before it: the last one of each prefix extends that of each shorter prefix
abbrev pub IsNested : List (List Command) → Type 0
IsNested log = (xs ys : List (List Command)) → IsPrefix xs ys → IsPrefix ys log → Extends (last_of ys) (last_of xs)

-- the first word counts the lists, each of which extends those before it; the second word is not used
pub record IsKept (cells : List Cell) (log : List (List Command)) : Type 0 where
  pub words : cells ≡ (length log, true) ∷ (0, true) ∷ []
  pub nested : IsNested log

-- the word that counts the lists of a book
abbrev pub count_of : Book → Named
count_of b = record { tracked = true; key = 0; book = b }

-- if the number was the expected one, the list was added after all lists that were seen
abbrev pub Adds : Step (List Command) → View (List Command) (Unit {0}) → ℕ → View (List Command) (Unit {0}) → Type 0
Adds s v found w = found ≡ s.old → w.0 ≡ v.0 ++ s.ask ∷ []
