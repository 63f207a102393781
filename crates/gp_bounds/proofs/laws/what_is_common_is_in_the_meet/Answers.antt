use Rattle.gp_history.proofs.Meet.{common_in_meet}
use Rattle.gp_bounds.proofs.laws.what_is_common_is_in_the_meet.Goals as goal

pub returns : goal.returns
returns g = λ h k c wh wk a p q. common_in_meet h k wh.within wk.within a c p q
