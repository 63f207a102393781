-- How a run of nodes is printed if readers viewed a key.
use Rattle.std.specs.Prelude.{◌≡◌, ◌⊎◌, ℕ, List, Some}
use Rattle.gp_round.specs.Counts.{Counts}
use Rattle.gp_msg.specs.declared.record.Record.{Record}
use Rattle.gp_ending.specs.declared.ends.RunEnd.{RunEnd}
use Rattle.gp_ending.specs.declared.ends.RunEnd.TheVariants as end
use Rattle.gp_cli.specs.Outside.{DeviceState}
use Rattle.gp_cli.specs.Endings.{Runs}
use Rattle.gp_cli.specs.Run.{IsEndText}
use Rattle.gp_cli.specs.Logs.{TellsEnding}

-- the run ended as the nodes did, or memory ran out, and its text was printed
pub record TellsViewed (key : List ℕ) (end_of_nodes : RunEnd) (config : Counts) (list : List Record) (before now : DeviceState) (status : ℕ) : Type 0 where
  pub why : RunEnd
  pub as_ended : (why ≡ end_of_nodes) ⊎ (why ≡ end.NoMemory)
  pub text : List ℕ
  pub says : IsEndText (Some key) why config list text
  pub told : TellsEnding (Runs why config list text) before now status
