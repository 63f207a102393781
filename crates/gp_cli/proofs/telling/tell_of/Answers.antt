use Rattle.std.proofs.Common.{refl}
use Rattle.gp_cli.proofs.Causes.{on_err, untold}
use Rattle.gp_cli.proofs.telling.tell_of.Goals as goal

pub returns-in-Err-clause-untold : goal.returns-in-Err-clause-untold
returns-in-Err-clause-untold g c = on_err c.args.text _ _ c.in-Err.is (λ meant some. untold _ _ _ _ meant refl some)
