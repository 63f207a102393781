use Rattle.gp_history.proofs.Prefix.{prefix_refl, prefix_trans, prefix_antisymm}
use Rattle.gp_bounds.proofs.laws.the_prefix_is_a_partial_order.Goals as goal

pub returns-clause-reflexive : goal.returns-clause-reflexive
returns-clause-reflexive g = prefix_refl

pub returns-clause-transitive : goal.returns-clause-transitive
returns-clause-transitive g = prefix_trans

pub returns-clause-antisymmetric : goal.returns-clause-antisymmetric
returns-clause-antisymmetric g = prefix_antisymm
