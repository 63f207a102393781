use Rattle.gp_round.proofs.Counting.{coordinator_quorums_meet}
use Rattle.gp_round.proofs.laws.two_coordinator_quorums_meet.Goals as goal

pub returns : goal.returns
returns g = λ n r p q a b. coordinator_quorums_meet n r.mode r.lead p q a b
