use Rattle.gp_seats.proofs.Listing.{all_distinct, present_all, all_present}
use Rattle.gp_seats.proofs.laws.all_nodes_are_those_of_the_configuration.Goals as goal

pub returns-clause-distinct : goal.returns-clause-distinct
returns-clause-distinct c = all_distinct

pub returns-clause-present : goal.returns-clause-present
returns-clause-present c = λ config n. (present_all config n, all_present config n)
