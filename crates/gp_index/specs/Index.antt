-- An index of a sequence: its places, in ascending order of the commands at these places.
use Rattle.std.specs.Prelude.{◌≡◌, ℕ, ◌<◌, ◌≤◌, true, List, length, slice_index_or, nat_eq, IsTrue}
use Rattle.std.specs.List.{list_any}
use Rattle.std.specs.declared.cmp.Ordering.TheVariants.{Less}
use Rattle.gp_command.specs.declared.command.Command.{Command}
use Rattle.gp_command.specs.Order.{command_cmp}
use Rattle.gp_history.specs.Sequence.{no_repeat}
use Rattle.gp_index.specs.Epochs.{starts_from}

-- the command at the place that entry k names, or `e` if it names none
abbrev pub named : List Command → List ℕ → ℕ → Command → Command
named xs order k e = slice_index_or xs (slice_index_or order k 0) e

-- each entry is a place, the commands that they name ascend, and each place is an entry
pub record IsIndex (xs : List Command) (order : List ℕ) : Type 0 where
  pub within : (k : ℕ) → k < length order → slice_index_or order k 0 < length xs
  pub rising : (i j : ℕ) (e : Command) → i < j → j < length order → command_cmp (named xs order i e) (named xs order j e) ≡ Less
  pub complete : (p : ℕ) → p < length xs → list_any (nat_eq p) order ≡ true

-- where an entry for a further command belongs: the entries before it name lesser commands, and the others greater ones
pub record IsGap (xs : List Command) (order : List ℕ) (c : Command) (at : ℕ) : Type 0 where
  pub within : at ≤ length order
  pub below : (k : ℕ) (e : Command) → k < at → command_cmp (named xs order k e) c ≡ Less
  pub above : (k : ℕ) (e : Command) → at ≤ k → k < length order → command_cmp c (named xs order k e) ≡ Less

-- what is kept of a sequence: it has no duplicates, `order` is its index, and `starts` are the places where checkpoints divide it
pub record IsParts (xs : List Command) (order starts : List ℕ) : Type 0 where
  pub distinct : IsTrue (no_repeat xs)
  pub index : IsIndex xs order
  pub cut : starts ≡ starts_from 0 xs
