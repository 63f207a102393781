use Rattle.gp_round.proofs.Counting.{fast_quorums_meet}
use Rattle.gp_round.proofs.laws.two_fast_quorums_and_one_of_the_first_phase_meet.Goals as goal

pub returns : goal.returns
returns g = fast_quorums_meet
