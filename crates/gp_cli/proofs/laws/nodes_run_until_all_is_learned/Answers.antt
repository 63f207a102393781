-- The lemmas are the law.
use Rattle.gp_cli.proofs.Statuses.{nodes_printed, nodes_completed, nodes_refused, offered, offers_read}
use Rattle.gp_cli.proofs.laws.nodes_run_until_all_is_learned.Goals as goal

pub returns-clause-ran : goal.returns-clause-ran
returns-clause-ran g = λ run. nodes_printed run.words run.before run.now run.status run.trail run.ends

pub returns-clause-complete : goal.returns-clause-complete
returns-clause-complete g = λ run policy limit viewed offers named holds well room. nodes_completed run.words run.before run.now run.status run.trail run.ends policy limit viewed offers named holds well.reads well.writes well.disks room

pub returns-clause-refuses : goal.returns-clause-refuses
returns-clause-refuses g = λ run. nodes_refused run.words run.before run.now run.status run.trail run.ends

pub returns-clause-offered : goal.returns-clause-offered
returns-clause-offered g = λ run. offered run.words run.before run.now run.status run.trail run.ends

pub returns-clause-read_to_end : goal.returns-clause-read_to_end
returns-clause-read_to_end g = λ run. offers_read run.words run.before run.now run.status run.trail run.ends
