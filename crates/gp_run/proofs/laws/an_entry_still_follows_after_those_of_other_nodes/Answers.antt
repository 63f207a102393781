use Rattle.gp_run.proofs.Others.{follows_still}
use Rattle.gp_run.proofs.laws.an_entry_still_follows_after_those_of_other_nodes.Goals as goal

pub returns : goal.returns
returns g = follows_still
