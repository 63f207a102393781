-- The lemmas are the law.
use Rattle.gp_cli.proofs.Statuses.{unread, unwritten, disk_fault}
use Rattle.gp_cli.proofs.laws.a_fault_was_counted.Goals as goal

pub returns-clause-unread : goal.returns-clause-unread
returns-clause-unread g = λ run. unread run.words run.before run.now run.status run.trail run.ends

pub returns-clause-unwritten : goal.returns-clause-unwritten
returns-clause-unwritten g = λ run. unwritten run.words run.before run.now run.status run.trail run.ends

pub returns-clause-disk_failed : goal.returns-clause-disk_failed
returns-clause-disk_failed g = λ run. disk_fault run.words run.before run.now run.status run.trail run.ends
