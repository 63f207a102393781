use Rattle.gp_history.proofs.Bound.{meet_is_greatest, meet_is_history}
use Rattle.gp_bounds.proofs.laws.the_meet_is_the_greatest_lower_bound.Goals as goal

pub returns-clause-history : goal.returns-clause-history
returns-clause-history g = meet_is_history

pub returns-clause-greatest : goal.returns-clause-greatest
returns-clause-greatest g = meet_is_greatest
