use Rattle.gp_bank.specs.Commuting.{commands_commute}
use Rattle.gp_bank.proofs.laws.commands_without_conflict_commute.Goals as goal

pub returns : goal.returns
returns c = commands_commute
