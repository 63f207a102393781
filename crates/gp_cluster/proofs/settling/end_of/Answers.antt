use Rattle.std.proofs.Common.{rules}
use Rattle.gp_cluster.proofs.settling.end_of.Goals as goal

pub returns-in-Err-Full : goal.returns-in-Err-Full
returns-in-Err-Full c = search rules
