use Rattle.gp_index.proofs.Continuing.{is_canonical}
use Rattle.gp_index.proofs.laws.a_sequence_from_nothing_is_canonical.Goals as goal

pub returns : goal.returns
returns c = λ h xs w n e k. is_canonical h xs w n e k
