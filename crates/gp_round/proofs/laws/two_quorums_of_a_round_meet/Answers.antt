use Rattle.gp_round.proofs.Counting.{quorums_meet}
use Rattle.gp_round.proofs.laws.two_quorums_of_a_round_meet.Goals as goal

pub returns : goal.returns
returns g = quorums_meet
