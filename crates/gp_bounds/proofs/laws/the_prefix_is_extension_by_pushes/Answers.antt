use Rattle.std.proofs.Common.{subst}
use Rattle.gp_history.specs.History.{IsPrefix}
use Rattle.gp_history.specs.Canonical.{canonical}
use Rattle.gp_history.proofs.Bound.{pushed_extends, extended_by}
use Rattle.gp_bounds.proofs.laws.the_prefix_is_extension_by_pushes.Goals as goal

pub returns : goal.returns
returns g = λ h k wh wk. (λ p. (canonical k, extended_by h k wh wk p), λ e. subst (IsPrefix h) e.1 (pushed_extends h e.0 wh))
