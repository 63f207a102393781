-- How often marks occur in a part of a sequence.
use Rattle.std.specs.Prelude.{ℕ, ◌≡◌, ◌≢◌, ◌≤◌, ◌<◌, ◌%◌, Bool, true, false, List, length, get_or, slice_get, Some}
use Rattle.gp_command.specs.declared.command.Command.{Command}
use Rattle.gp_command.specs.Mark.{foot_mark}

-- the command is not a checkpoint, and its mark is not 0
pub record IsMarked (c : Command) : Type 0 where
  pub plain : c.draft.checkpoint ≡ false
  pub some : foot_mark c.draft.foot ≢ 0

-- the entry in which a command is counted
abbrev pub entry : Command → ℕ
entry c = foot_mark c.draft.foot % 4096

-- of the commands at the places from `from` on and below `to`: whether all have marks, and which entries they have; an entry that two of them have is 2
pub record AreCounted (xs : List Command) (from to : ℕ) (counts : List ℕ) (all : Bool) : Type 0 where
  pub size : length counts ≡ 4096
  pub marked : all ≡ true → (p : ℕ) (c : Command) → from ≤ p → p < to → slice_get xs p ≡ Some c → IsMarked c
  pub once : (p : ℕ) (c : Command) → from ≤ p → p < to → slice_get xs p ≡ Some c → get_or counts (entry c) 0 ≢ 0
  pub twice : (p q : ℕ) (c d : Command) → from ≤ p → p < q → q < to → slice_get xs p ≡ Some c → slice_get xs q ≡ Some d → entry c ≡ entry d → get_or counts (entry d) 0 ≡ 2

-- the counts show that it conflicts with no other command that was counted
pub record IsAlone (d : Command) (counts : List ℕ) (all : Bool) : Type 0 where
  pub counted : all ≡ true
  pub marked : IsMarked d
  pub single : get_or counts (entry d) 0 ≢ 2
