use Rattle.gp_round.proofs.Counting.{first_quorum_meets}
use Rattle.gp_round.proofs.laws.a_quorum_meets_each_quorum_of_the_first_phase.Goals as goal

pub returns : goal.returns
returns g = first_quorum_meets
