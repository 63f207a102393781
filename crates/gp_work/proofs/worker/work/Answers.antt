use Rattle.std.proofs.Common.{rules}
use Rattle.gp_work.proofs.worker.work.Goals as goal

pub returns-in-Err : goal.returns-in-Err
returns-in-Err g c = search rules
