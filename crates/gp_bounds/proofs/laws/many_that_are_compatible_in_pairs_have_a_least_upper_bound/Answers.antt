use Rattle.gp_history.proofs.Many.{join_all_least, join_all_same}
use Rattle.gp_bounds.proofs.laws.many_that_are_compatible_in_pairs_have_a_least_upper_bound.Goals as goal

pub returns-clause-least : goal.returns-clause-least
returns-clause-least g = join_all_least

pub returns-clause-any_order : goal.returns-clause-any_order
returns-clause-any_order g = λ hs ks ws p e. join_all_same hs ks ws p (λ h. (e h).0) (λ h. (e h).1)
