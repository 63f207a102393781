use Rattle.std.proofs.Common.{rules}
use Rattle.gp_work.proofs.worker.is_odd.Goals as goal

pub returns : goal.returns
returns c = search rules
