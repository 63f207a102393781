-- The lemmas are the law.
use Rattle.gp_cli.proofs.Statuses.{misused, usage}
use Rattle.gp_cli.proofs.laws.the_usage_is_for_words_that_name_nothing.Goals as goal

pub returns-clause-misused : goal.returns-clause-misused
returns-clause-misused g = λ run. misused run.words run.before run.now run.status run.trail run.ends

pub returns-clause-usage : goal.returns-clause-usage
returns-clause-usage g = λ run. usage run.words run.before run.now run.status run.trail run.ends
