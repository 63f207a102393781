use Rattle.gp_history.proofs.Bound.{join_is_history, join_is_least}
use Rattle.gp_bounds.proofs.laws.the_join_is_the_least_upper_bound.Goals as goal

pub returns-clause-history : goal.returns-clause-history
returns-clause-history g = join_is_history

pub returns-clause-least : goal.returns-clause-least
returns-clause-least g = join_is_least
