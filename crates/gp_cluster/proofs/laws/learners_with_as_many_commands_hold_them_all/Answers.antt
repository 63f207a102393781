use Rattle.gp_cluster.proofs.Holding.{hold_all}
use Rattle.gp_cluster.proofs.laws.learners_with_as_many_commands_hold_them_all.Goals as goal

pub returns : goal.returns
returns g = λ config some offers known list legal offered many. hold_all config offers known list legal offered some many
