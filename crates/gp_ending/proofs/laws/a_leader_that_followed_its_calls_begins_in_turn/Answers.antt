use Rattle.gp_ending.proofs.Concluding.{begins_in_turn}
use Rattle.gp_ending.proofs.laws.a_leader_that_followed_its_calls_begins_in_turn.Goals as goal

pub returns : goal.returns
returns g = λ p calls f some. begins_in_turn p calls f some
