use Rattle.gp_history.proofs.Bound.{compatible_join}
use Rattle.gp_bounds.proofs.laws.three_that_are_compatible_in_pairs.Goals as goal

pub returns : goal.returns
returns g = compatible_join
