use Rattle.std.proofs.Common.{refl}
use Rattle.gp_cli.specs.Endings.{Misused}
use Rattle.gp_cli.specs.Causes.{IsMisuse}
use Rattle.gp_cli.proofs.Causes.{without_run}
use Rattle.gp_cli.proofs.serving.misuse.Goals as goal

pub returns-clause-ends : goal.returns-clause-ends
returns-clause-ends g c = without_run IsMisuse Misused _ _ _ _ refl refl refl c.new.ensures c.tell.ensures.told
