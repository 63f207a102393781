use Rattle.gp_round.proofs.Masks.{subset_is, ascend}
use Rattle.gp_round.proofs.laws.each_subset_stands_once_in_ascending_order.Goals as goal

pub returns-clause-all : goal.returns-clause-all
returns-clause-all g = subset_is

pub returns-clause-ascending : goal.returns-clause-ascending
returns-clause-ascending g = λ n size. ascend n size _ 0
