use Rattle.gp_ending.proofs.BegunInCourse.{opens_with_first_fast}
use Rattle.gp_ending.proofs.laws.a_leader_that_adapts_begins_with_the_first_fast_round.Goals as goal

pub returns : goal.returns
returns g = λ p calls f none. opens_with_first_fast p calls f none
