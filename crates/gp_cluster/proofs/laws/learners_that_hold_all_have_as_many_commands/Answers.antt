use Rattle.gp_cluster.proofs.Holding.{have_as_many}
use Rattle.gp_cluster.proofs.laws.learners_that_hold_all_have_as_many_commands.Goals as goal

pub returns : goal.returns
returns g = λ config some offers known list legal offered all l within. have_as_many config offers known list legal offered some all l within
