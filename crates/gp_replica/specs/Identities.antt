-- Identities of the commands of a list.
use Rattle.std.specs.Prelude.{◌≡◌, ◌<◌, ℕ, List, slice_get, Some}
use Rattle.gp_command.specs.declared.command.Command.{Command}
use Rattle.gp_command.specs.declared.command.CommandId.{CommandId}

-- the command at this place has this identity
pub record HasIdAt (commands : List Command) (place : ℕ) (id : CommandId) : Type 0 where
  pub command : Command
  pub there : slice_get commands place ≡ Some command
  pub named : command.id ≡ id

-- a command before this place has this identity
abbrev pub HasIdBefore : List Command → ℕ → CommandId → Type 0
HasIdBefore commands place id = (i : ℕ) × (i < place) × HasIdAt commands i id
