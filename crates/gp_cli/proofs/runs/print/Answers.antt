use Rattle.std.proofs.Common.{refl}
use Rattle.gp_cli.specs.Outside.{Wholly}
use Rattle.gp_cli.proofs.Causes.{on_err, nothing_told}
use Rattle.gp_cli.proofs.runs.print.Goals as goal

pub returns-in-Err-clause-starved : goal.returns-in-Err-clause-starved
returns-in-Err-clause-starved g c = on_err c.args.made _ _ c.in-Err.is (c.without_run.ensures.trail, Wholly c.without_run.ensures.status refl (nothing_told _))
