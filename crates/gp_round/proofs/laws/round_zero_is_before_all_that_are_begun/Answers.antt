use Rattle.gp_round.proofs.Orders.{zero_before}
use Rattle.gp_round.proofs.Owners.{owned}
use Rattle.gp_round.proofs.laws.round_zero_is_before_all_that_are_begun.Goals as goal

pub returns : goal.returns
returns g = λ n c r o. zero_before r (owned n c r o).counted
