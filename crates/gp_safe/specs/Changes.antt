-- What a value may add if it replaces an older value of its sender.
use Rattle.std.specs.Prelude.{◌≡◌, ◌≤◌, ◌<◌, ℕ, Bool, true, false, not, ◌&&◌, List, [], take, slice_get, nat_lt, Option, Some, None}
use Rattle.std.specs.List.{list_any, Contains}
use Rattle.gp_command.specs.declared.command.Command.{Command}
use Rattle.gp_command.specs.Conflict.{same}
use Rattle.gp_history.specs.History.{History, IsHistory, IsPrefix, has}
use Rattle.gp_history.specs.Sequence.{history_of}
use Rattle.gp_history.specs.Bounds.{joined}
use Rattle.gp_history.specs.Canonical.{is_ready}
use Rattle.gp_round.specs.Sets.{members, masks}
use Rattle.gp_safe.specs.Meets.{quorum_meet, quorum_meets, add_meet}

-- a sender does not count, or its value has the command, which is not known while all commands before it there are
abbrev pub opens : Bool → Option History → History → Command → Bool
opens false o known c = true
opens true None known c = false
opens true (Some h) known c = has h c && is_ready h known c

-- the command is not known, and at least `size` of n senders open it
abbrev pub may_add : History → (ℕ → Option History) → (ℕ → Bool) → ℕ → ℕ → Command → Bool
may_add known f w n size c = not (has known c) && not (nat_lt (members (λ i. opens (w i) (f i) known c) n) size)

-- the old value is a history that has the command and is a prefix of the new one
pub record IsInOld (old : Option History) (new : History) (c : Command) : Type 0 where
  pub history : History
  pub is : old ≡ Some history
  pub prefix : IsPrefix history new
  pub there : has history c ≡ true

-- each of the first `from` commands of the new value is in the old value, which is then a prefix of the new one
abbrev pub IsFromOld : Option History → List Command → ℕ → Type 0
IsFromOld old xs from = (c : Command) → list_any (same c) (take from xs) ≡ true → IsInOld old (history_of xs) c

-- a value, if there is one, is a history
abbrev pub IsAnyHistory : Option History → Type 0
IsAnyHistory o = (h : History) → o ≡ Some h → IsHistory h

-- the values of numbers below n are histories
abbrev pub AreHistories : (ℕ → Option History) → ℕ → Type 0
AreHistories f n = (i : ℕ) (h : History) → i < n → f i ≡ Some h → IsHistory h

-- the commands in the meet of one set are known
abbrev pub IsMetKnown : History → (ℕ → Option History) → (ℕ → Bool) → ℕ → ℕ → Type 0
IsMetKnown known f w n m = (h : History) → quorum_meet f w n m ≡ Some h → (c : Command) → has h c ≡ true → has known c ≡ true

-- the commands in the meets of all sets with `size` of n senders are known
abbrev pub AreKnown : History → (ℕ → Option History) → (ℕ → Bool) → ℕ → ℕ → Type 0
AreKnown known f w n size = (m : ℕ) → Contains (masks n size) m → IsMetKnown known f w n m

-- the known history, joined with the meets of all sets of this size
abbrev pub known_with : History → (ℕ → Option History) → (ℕ → Bool) → ℕ → ℕ → History
known_with known f within n size = joined known (quorum_meets f within n (masks n size))

-- the known history, joined with the meet of one set
abbrev pub known_with_one : History → (ℕ → Option History) → (ℕ → Bool) → ℕ → ℕ → History
known_with_one known f within n mask = joined known (add_meet (quorum_meet f within n mask) [])

-- no command of a sequence from a place on passes a test
abbrev pub NoneFrom : (Command → Bool) → List Command → ℕ → Type 0
NoneFrom q xs from = (k : ℕ) (d : Command) → from ≤ k → slice_get xs k ≡ Some d → q d ≡ false
