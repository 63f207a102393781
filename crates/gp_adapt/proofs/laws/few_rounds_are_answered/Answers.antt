use Rattle.gp_adapt.proofs.Answering.{few_answers}
use Rattle.gp_adapt.proofs.laws.few_rounds_are_answered.Goals as goal

pub returns : goal.returns
returns c = few_answers
