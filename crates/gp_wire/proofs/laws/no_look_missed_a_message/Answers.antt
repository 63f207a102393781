use Rattle.gp_wire.proofs.Missed.{no_look_missed, each_has_a_turn}
use Rattle.gp_wire.proofs.laws.no_look_missed_a_message.Goals as goal

pub returns-clause-missed : goal.returns-clause-missed
returns-clause-missed g c rules = no_look_missed (g.R.Rules.legal rules)

pub returns-clause-numbered : goal.returns-clause-numbered
returns-clause-numbered g c rules = each_has_a_turn (g.R.Rules.legal rules)
