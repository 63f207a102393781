use Rattle.std.proofs.Common.{rules}
use Rattle.gp_command.proofs.conflict.is_clash.Goals as goal

pub returns : goal.returns
returns c = search rules
