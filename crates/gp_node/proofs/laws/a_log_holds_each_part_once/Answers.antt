use Rattle.gp_node.proofs.Changing.{holds_new, holds_after}
use Rattle.gp_node.proofs.laws.a_log_holds_each_part_once.Goals as goal

pub returns-clause-new : goal.returns-clause-new
returns-clause-new g c = holds_new

pub returns-clause-step : goal.returns-clause-step
returns-clause-step g c config n before after event old new at posts = holds_after config n before after event at posts old new
