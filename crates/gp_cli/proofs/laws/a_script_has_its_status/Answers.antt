-- The lemmas are the law.
use Rattle.gp_cli.proofs.Statuses.{complete, refuse}
use Rattle.gp_cli.proofs.laws.a_script_has_its_status.Goals as goal

pub returns-clause-complete : goal.returns-clause-complete
returns-clause-complete g = λ run. complete run.words run.before run.now run.status run.trail run.ends

pub returns-clause-refuses : goal.returns-clause-refuses
returns-clause-refuses g = λ run. refuse run.words run.before run.now run.status run.trail run.ends
