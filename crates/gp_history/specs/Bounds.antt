-- Bounds of histories.
use Rattle.std.specs.Prelude.{◌≡◌, ℕ, suc, Bool, true, false, not, ◌&&◌, ◌||◌, cond, nat_eq, List, [], ◌∷◌, ◌++◌, map, slice_get, Option, Some, None}
use Rattle.std.specs.FinSet as set
use Rattle.std.specs.Int.{bit_at}
use Rattle.std.specs.List.{Contains, list_any, list_all}
use Rattle.gp_command.specs.declared.command.Command.{Command}
use Rattle.gp_command.specs.Conflict.{same, conflict}
use Rattle.gp_history.specs.History.{History, IsHistory, IsPrefix, has, before, ordered_by, empty, pushes}
use Rattle.gp_history.specs.Canonical.{canonical}

-- ---- two histories

-- the common commands are closed under what comes before them and ordered alike, and no command that only `h` has conflicts with one that only `k` has
pub record IsCompatible (h k : History) : Type 0 where
  pub closed_left : (c d : Command) → has k d ≡ true → before h c d ≡ true → has k c ≡ true
  pub closed_right : (c d : Command) → has h d ≡ true → before k c d ≡ true → has h c ≡ true
  pub alike : (c d : Command) → has h c ≡ true → has k c ≡ true → has h d ≡ true → has k d ≡ true → before h c d ≡ before k c d
  pub apart : (c d : Command) → has h c ≡ true → has k c ≡ false → has k d ≡ true → has h d ≡ false → conflict c d ≡ false

-- all lists that are left if some elements of a list are dropped
abbrev pub sublists : List Command → List (List Command)
sublists [] = [] ∷ []
sublists (x ∷ xs) = map (λ s. x ∷ s) (sublists xs) ++ sublists xs

-- commands of both, closed under what comes before them in either, and ordered alike in both
abbrev pub is_shared : History → History → List Command → Bool
is_shared h k s = list_all (λ d. has h d && (has k d && list_all (λ c. not (before h c d || before k c d) || (list_any (same c) s && (before h c d && before k c d))) (set.items h.commands ++ set.items k.commands))) s

-- the command is in some such set, and so in the greatest
abbrev pub in_meet : History → History → Command → Bool
in_meet h k c = list_any (λ s. is_shared h k s && list_any (same c) s) (sublists (set.items h.commands))

-- the greatest such set, in its order
unfoldable pub meet : History → History → History
meet h k = ordered_by (set.retain h.commands (in_meet h k)) (before h)

-- `h`, and then the commands that only `k` has, in the canonical order of `k`
unfoldable pub join : History → History → History
join h k = pushes h (canonical k)

-- m is a prefix of both, and each common prefix is a prefix of m
pub record IsGreatestLowerBound (h k m : History) : Type 0 where
  pub left : IsPrefix m h
  pub right : IsPrefix m k
  pub greatest : (u : History) → IsPrefix u h → IsPrefix u k → IsPrefix u m

-- a history that extends both
pub record UpperBound (h k : History) : Type 0 where
  pub bound : History
  pub history : IsHistory bound
  pub left : IsPrefix h bound
  pub right : IsPrefix k bound

-- m extends both, and is a prefix of each history that extends both
pub record IsLeastUpperBound (h k m : History) : Type 0 where
  pub left : IsPrefix h m
  pub right : IsPrefix k m
  pub least : (u : History) → IsPrefix h u → IsPrefix k u → IsPrefix m u

-- ---- many histories

-- the joins with these histories, one after another
abbrev pub joined : History → List History → History
joined u [] = u
joined u (h ∷ hs) = joined (join u h) hs

-- the join of all, starting with the empty history
abbrev pub join_all : List History → History
join_all hs = joined empty hs

-- the meets with these histories, one after another
abbrev pub met : History → List History → History
met u [] = u
met u (h ∷ hs) = met (meet u h) hs

-- the meet of all, if there are any
abbrev pub meet_of : List History → Option History
meet_of [] = None
meet_of (h ∷ hs) = Some (met h hs)

-- of the histories, which are at the places from i on, those whose place is a bit of the mask
abbrev pub chosen_from : ℕ → ℕ → List History → List History
chosen_from mask i [] = []
chosen_from mask i (h ∷ hs) = cond (nat_eq (bit_at mask i) 1) (h ∷ chosen_from mask (suc i) hs) (chosen_from mask (suc i) hs)

-- the meet of those whose place is a bit of the mask, if there are any
abbrev pub meet_all : ℕ → List History → Option History
meet_all mask hs = meet_of (chosen_from mask 0 hs)

-- every two of them are compatible
abbrev pub ArePairwiseCompatible : List History → Type 0
ArePairwiseCompatible hs = (h k : History) → Contains hs h → Contains hs k → IsCompatible h k

-- j is a history that extends each of them, and is a prefix of each history that does
pub record IsLeastUpperBoundOf (hs : List History) (j : History) : Type 0 where
  pub history : IsHistory j
  pub above : (h : History) → Contains hs h → IsPrefix h j
  pub least : (u : History) → ((h : History) → Contains hs h → IsPrefix h u) → IsPrefix j u

-- m is a prefix of each history whose place is a bit of the mask, and each common prefix of these is a prefix of m
pub record IsGreatestLowerBoundAt (mask : ℕ) (hs : List History) (m : History) : Type 0 where
  pub history : IsHistory m
  pub below : (i : ℕ) (h : History) → bit_at mask i ≡ 1 → slice_get hs i ≡ Some h → IsPrefix m h
  pub greatest : (u : History) → ((i : ℕ) (h : History) → bit_at mask i ≡ 1 → slice_get hs i ≡ Some h → IsPrefix u h) → IsPrefix u m
