use Rattle.std.proofs.Common.{rules}
use Rattle.gp_random.proofs.plan.Plan.begin.Goals as goal

pub returns : goal.returns
returns c = search rules
