use Rattle.gp_cluster.proofs.Holding.{offered_are}
use Rattle.gp_cluster.proofs.laws.offered_commands_are_those_of_the_script.Goals as goal

pub returns : goal.returns
returns g = λ config offers known list legal offered c. offered_are config offers known list legal offered c
