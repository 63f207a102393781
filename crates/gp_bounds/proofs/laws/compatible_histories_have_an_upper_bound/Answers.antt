use Rattle.gp_history.specs.Bounds.{join}
use Rattle.gp_history.proofs.Lub.{bounded_compatible}
use Rattle.gp_history.proofs.Bound.{join_is_history, join_is_least}
use Rattle.gp_bounds.proofs.laws.compatible_histories_have_an_upper_bound.Goals as goal

pub returns : goal.returns
returns g = λ h k wh wk. (
  λ a. let least = join_is_least h k wh wk a in record { bound = join h k; history = join_is_history h k wh wk; left = least.left; right = least.right },
  λ u. bounded_compatible h k u.bound wh wk u.history u.left u.right,
)
