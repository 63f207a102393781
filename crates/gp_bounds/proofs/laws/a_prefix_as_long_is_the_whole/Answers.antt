use Rattle.gp_history.proofs.Prefix.{prefix_antisymm}
use Rattle.gp_history.proofs.Counts.{whole_prefix}
use Rattle.gp_bounds.proofs.laws.a_prefix_as_long_is_the_whole.Goals as goal

pub returns : goal.returns
returns g = λ h k wh wk p le. prefix_antisymm h k wh wk p (whole_prefix h k wh wk p le)
