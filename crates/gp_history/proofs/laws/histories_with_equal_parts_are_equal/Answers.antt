use Rattle.gp_history.proofs.Sets.{same_history}
use Rattle.gp_history.proofs.laws.histories_with_equal_parts_are_equal.Goals as goal

pub returns : goal.returns
returns g h k commands pairs = same_history h k commands pairs
