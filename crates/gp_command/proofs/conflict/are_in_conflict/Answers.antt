use Rattle.std.proofs.Common.{rules}
use Rattle.gp_command.specs.Conflict.{conflict}
use Rattle.gp_command.proofs.conflict.are_in_conflict.Goals as goal

pub returns-else-is_checkpoint-2 : goal.returns-else-is_checkpoint-2
unfolding conflict
returns-else-is_checkpoint-2 c = search rules
