use Rattle.gp_run.proofs.Telling.{entries-push, messages-entries}
use Rattle.gp_run.proofs.laws.records_make_a_run.Goals as goal

pub returns-clause-entry : goal.returns-clause-entry
returns-clause-entry g = entries-push

pub returns-clause-same : goal.returns-clause-same
returns-clause-same g = messages-entries
