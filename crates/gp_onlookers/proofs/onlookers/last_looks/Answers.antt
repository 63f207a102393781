use Rattle.std.proofs.Common.{rules}
use Rattle.gp_onlookers.proofs.onlookers.last_looks.Goals as goal

pub returns-clause-seen : goal.returns-clause-seen
returns-clause-seen g c = search rules
