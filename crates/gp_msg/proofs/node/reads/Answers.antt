use Rattle.std.proofs.Common.{rules}
use Rattle.gp_msg.proofs.node.reads.Goals as goal

pub returns-in_default-matches-2 : goal.returns-in_default-matches-2
returns-in_default-matches-2 c = search rules
