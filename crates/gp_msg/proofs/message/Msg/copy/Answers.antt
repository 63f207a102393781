use Rattle.std.proofs.Common.{rules}
use Rattle.gp_msg.proofs.message.Msg.copy.Goals as goal

pub returns-in_ok-copy-in-Final : goal.returns-in_ok-copy-in-Final
returns-in_ok-copy-in-Final c = search rules
