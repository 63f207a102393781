use Rattle.gp_history.proofs.Push.{prefix_push}
use Rattle.gp_bounds.proofs.laws.a_push_extends.Goals as goal

pub returns : goal.returns
returns g = λ h c w. prefix_push h w c
