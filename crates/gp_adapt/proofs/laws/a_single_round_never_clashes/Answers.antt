use Rattle.gp_adapt.proofs.SingleRounds.{single_is_calm}
use Rattle.gp_adapt.proofs.laws.a_single_round_never_clashes.Goals as goal

pub returns : goal.returns
returns c = λ config some es legal e r single ms sent. single_is_calm config some es legal e r single ms sent
