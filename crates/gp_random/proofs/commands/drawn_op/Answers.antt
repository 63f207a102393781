use Rattle.std.proofs.Common.{rules}
use Rattle.gp_random.proofs.commands.drawn_op.Goals as goal

pub returns : goal.returns
returns c = search rules
