use Rattle.gp_adapt.proofs.Returning.{few_clashes}
use Rattle.gp_adapt.proofs.laws.two_clashes_at_most_come_before_a_return.Goals as goal

pub returns : goal.returns
returns c = few_clashes
