-- The lemmas are the law.
use Rattle.gp_cli.proofs.Statuses.{log_shown, log_taken_on, log_complete, upgrade_complete}
use Rattle.gp_cli.proofs.laws.a_log_is_shown.Goals as goal

pub returns-clause-shown : goal.returns-clause-shown
returns-clause-shown g = λ run. log_shown run.words run.before run.now run.status run.trail run.ends

pub returns-clause-taken_on : goal.returns-clause-taken_on
returns-clause-taken_on g = λ run. log_taken_on run.words run.before run.now run.status run.trail run.ends

pub returns-clause-log_complete : goal.returns-clause-log_complete
returns-clause-log_complete g = λ run. log_complete run.words run.before run.now run.status run.trail run.ends

pub returns-clause-upgrade_complete : goal.returns-clause-upgrade_complete
returns-clause-upgrade_complete g = λ run. upgrade_complete run.words run.before run.now run.status run.trail run.ends
