use Rattle.gp_ending.proofs.Concluding.{opens_with_first}
use Rattle.gp_ending.proofs.laws.a_leader_begins_with_the_first_round.Goals as goal

pub returns : goal.returns
returns g = λ p calls f none. opens_with_first p calls f none
