use Rattle.std.proofs.Common.{rules}
use Rattle.gp_cluster.proofs.seated.run_seated.Goals as goal

pub returns-in-Adaptive-clause-run : goal.returns-in-Adaptive-clause-run
returns-in-Adaptive-clause-run c = search rules
