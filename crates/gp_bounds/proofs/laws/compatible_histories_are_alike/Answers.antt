use Rattle.gp_history.proofs.Bound.{alike_same}
use Rattle.gp_bounds.proofs.laws.compatible_histories_are_alike.Goals as goal

pub returns-clause-ordered : goal.returns-clause-ordered
returns-clause-ordered g = λ h k c d a p q r s. a.alike c d p q r s

pub returns-clause-equal : goal.returns-clause-equal
returns-clause-equal g = alike_same
