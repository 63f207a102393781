-- The lemmas are the law.
use Rattle.gp_cli.proofs.Statuses.{run_upheld, audit_complete, audit_of_run, audit_refused, input_read}
use Rattle.gp_cli.proofs.laws.what_a_run_printed_is_upheld.Goals as goal

pub returns-clause-upheld : goal.returns-clause-upheld
returns-clause-upheld g = λ run. run_upheld run.words run.before run.now run.status run.trail run.ends

pub returns-clause-complete : goal.returns-clause-complete
returns-clause-complete g = λ run. audit_complete run.words run.before run.now run.status run.trail run.ends

pub returns-clause-of_run : goal.returns-clause-of_run
returns-clause-of_run g = λ run. audit_of_run run.words run.before run.now run.status run.trail run.ends

pub returns-clause-refuses : goal.returns-clause-refuses
returns-clause-refuses g = λ run. audit_refused run.words run.before run.now run.status run.trail run.ends

pub returns-clause-read_to_end : goal.returns-clause-read_to_end
returns-clause-read_to_end g = λ run. input_read run.words run.before run.now run.status run.trail run.ends
