use Rattle.gp_history.proofs.Swaps.{push_swap, sequence_swap}
use Rattle.gp_bounds.proofs.laws.pushes_may_be_swapped.Goals as goal

pub returns-clause-pushes : goal.returns-clause-pushes
returns-clause-pushes g = λ h c d w e. push_swap h w.within c d e

pub returns-clause-neighbours : goal.returns-clause-neighbours
returns-clause-neighbours g = λ xs ys c d e. sequence_swap xs c d ys e
