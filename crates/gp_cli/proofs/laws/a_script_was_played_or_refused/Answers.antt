-- The lemmas are the law.
use Rattle.gp_cli.proofs.Statuses.{plays_whole, stops_at_line, read_to_end}
use Rattle.gp_cli.proofs.laws.a_script_was_played_or_refused.Goals as goal

pub returns-clause-played : goal.returns-clause-played
returns-clause-played g = λ run. plays_whole run.words run.before run.now run.status run.trail run.ends

pub returns-clause-refused : goal.returns-clause-refused
returns-clause-refused g = λ run. stops_at_line run.words run.before run.now run.status run.trail run.ends

pub returns-clause-read_to_end : goal.returns-clause-read_to_end
returns-clause-read_to_end g = λ run. read_to_end run.words run.before run.now run.status run.trail run.ends
