use Rattle.std.proofs.Common.{rules}
use Rattle.gp_msg.proofs.message.Msg.kind.Goals as goal

pub returns-in-P1b : goal.returns-in-P1b
returns-in-P1b c = search rules
