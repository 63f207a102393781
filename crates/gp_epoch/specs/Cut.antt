-- The cut of a history at its first checkpoint.
use Rattle.std.specs.Prelude.{◌≡◌, true, false, ◌||◌, Option, Some, None}
use Rattle.std.specs.FinSet as set
use Rattle.std.specs.List.{find}
use Rattle.gp_command.specs.declared.command.Command.{Command}
use Rattle.gp_command.specs.Conflict.{same}
use Rattle.gp_history.specs.History.{History, has, before, ordered_by}
use Rattle.gp_history.specs.Canonical.{canonical}

-- the first checkpoint in canonical order, which precedes all others
unfoldable pub first_checkpoint : History → Option Command
first_checkpoint h = find (λ c. c.draft.checkpoint) (canonical h)

-- z is a checkpoint of h, and precedes the others
pub record IsFirstCheckpoint (h : History) (z : Command) : Type 0 where
  pub there : has h z ≡ true
  pub marked : z.draft.checkpoint ≡ true
  pub first : (c : Command) → has h c ≡ true → c.draft.checkpoint ≡ true → same c z ≡ false → before h z c ≡ true

-- h has a checkpoint
abbrev pub HasCheckpoint : History → Type 0
HasCheckpoint h = (z : Command) × (first_checkpoint h ≡ Some z)

-- h has no checkpoint
abbrev pub HasNoCheckpoint : History → Type 0
HasNoCheckpoint h = (c : Command) → has h c ≡ true → c.draft.checkpoint ≡ false

-- z and the commands that precede it, with their order
unfoldable pub cut_at : History → Command → History
cut_at h z = ordered_by (set.retain h.commands (λ c. same c z || before h c z)) (before h)

abbrev pub cut_by : History → Option Command → History
cut_by h None = h
cut_by h (Some z) = cut_at h z

-- the first checkpoint and the commands that precede it, with their order; the whole history if there is none
unfoldable pub cut : History → History
cut h = cut_by h (first_checkpoint h)
