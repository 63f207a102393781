use Rattle.gp_ending.proofs.Deciding.{decides, none_decides}
use Rattle.gp_ending.proofs.laws.the_first_of_the_lowest_rank_decides.Goals as goal

pub returns-clause-decides : goal.returns-clause-decides
returns-clause-decides g c = decides c

pub returns-clause-none : goal.returns-clause-none
returns-clause-none g c = none_decides c
