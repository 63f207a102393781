use Rattle.std.proofs.Common.{rules}
use Rattle.gp_msg.proofs.event.may_fall.Goals as goal

pub returns-in-Acceptor-Some-Began : goal.returns-in-Acceptor-Some-Began
returns-in-Acceptor-Some-Began c = search rules
