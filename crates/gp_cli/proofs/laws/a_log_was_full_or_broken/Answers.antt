-- The lemmas are the law.
use Rattle.gp_cli.proofs.Statuses.{full, full_log, broken, kept, no_log}
use Rattle.gp_cli.proofs.laws.a_log_was_full_or_broken.Goals as goal

pub returns-clause-full : goal.returns-clause-full
returns-clause-full g = λ run. full run.words run.before run.now run.status run.trail run.ends

pub returns-clause-broken : goal.returns-clause-broken
returns-clause-broken g = λ run. broken run.words run.before run.now run.status run.trail run.ends

pub returns-clause-no_room : goal.returns-clause-no_room
returns-clause-no_room g = λ run. full_log run.words run.before run.now run.status run.trail run.ends

pub returns-clause-no_log : goal.returns-clause-no_log
returns-clause-no_log g = λ run. no_log run.words run.before run.now run.status run.trail run.ends

pub returns-clause-kept : goal.returns-clause-kept
returns-clause-kept g = λ run nodes reveal eight. kept run.words run.before run.now run.status run.trail run.ends nodes reveal eight
