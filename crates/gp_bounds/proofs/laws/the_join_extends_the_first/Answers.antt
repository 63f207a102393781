use Rattle.gp_history.proofs.Bound.{join_grows}
use Rattle.gp_bounds.proofs.laws.the_join_extends_the_first.Goals as goal

pub returns : goal.returns
returns g = join_grows
