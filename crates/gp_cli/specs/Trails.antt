-- The records of a run of the program.
use Rattle.std.specs.Prelude.{◌≡◌, ◌⊎◌, ℕ, List, [], Option, Some, None}
use Rattle.gp_msg.specs.declared.record.Record.{Record}
use Rattle.gp_cli.specs.declared.ran.Trail.{Trail}
use Rattle.gp_cli.specs.declared.ran.Trail.TheVariants.{Folded, Posted}
use Rattle.gp_cli.specs.declared.subcommand.Subcommand.{Subcommand}
use Rattle.gp_cli.specs.declared.subcommand.Subcommand.TheVariants.{Play, Run, Sim, Drive, Log, Upgrade, Audit}

-- its records, the oldest first
abbrev pub records_in : Trail → List Record
records_in (Folded list) = list
records_in (Posted list) = list

-- the trail of nodes that posted this list, and an empty one if none was posted
abbrev pub trail_of : Option (List Record) → Trail
trail_of None = Folded []
trail_of (Some list) = Posted list

-- no thread posted the records
abbrev pub IsFolded : Trail → Type 0
IsFolded (Folded list) = Unit {0}
IsFolded (Posted list) = ⊥

-- nodes in threads posted the records of `run`, `adapt` and `views` with status 0, 5, 7 or 8, and with 1 or 6 either they did or there are none. There are none with status 3 and 4
abbrev pub IsOfNodes : ℕ → Trail → Type 0
IsOfNodes status (Folded list) = (list ≡ []) × ((status ≡ 1) ⊎ (status ≡ 3) ⊎ (status ≡ 4) ⊎ (status ≡ 6))
IsOfNodes status (Posted list) = (status ≡ 0) ⊎ (status ≡ 1) ⊎ (status ≡ 5) ⊎ (status ≡ 6) ⊎ (status ≡ 7) ⊎ (status ≡ 8)

-- who made the records, by the subcommand and the status
abbrev pub IsMadeFor : Option Subcommand → ℕ → Trail → Type 0
IsMadeFor None status trail = IsFolded trail
IsMadeFor (Some (Play operations)) status trail = IsFolded trail
IsMadeFor (Some (Run policy limit viewed)) status trail = IsOfNodes status trail
IsMadeFor (Some (Sim seed commands)) status trail = IsFolded trail
IsMadeFor (Some (Drive acceptors learners commands)) status trail = IsFolded trail
IsMadeFor (Some (Log k)) status trail = IsFolded trail
IsMadeFor (Some (Upgrade k)) status trail = IsFolded trail
IsMadeFor (Some Audit) status trail = IsFolded trail
