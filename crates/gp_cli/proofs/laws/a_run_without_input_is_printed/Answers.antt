-- The lemmas are the law.
use Rattle.gp_cli.proofs.Statuses.{drives, simulates, drive_completes, sim_completes}
use Rattle.gp_cli.proofs.laws.a_run_without_input_is_printed.Goals as goal

pub returns-clause-driven : goal.returns-clause-driven
returns-clause-driven g = λ run. drives run.words run.before run.now run.status run.trail run.ends

pub returns-clause-simulated : goal.returns-clause-simulated
returns-clause-simulated g = λ run. simulates run.words run.before run.now run.status run.trail run.ends

pub returns-clause-drive_complete : goal.returns-clause-drive_complete
returns-clause-drive_complete g = λ run. drive_completes run.words run.before run.now run.status run.trail run.ends

pub returns-clause-sim_complete : goal.returns-clause-sim_complete
returns-clause-sim_complete g = λ run. sim_completes run.words run.before run.now run.status run.trail run.ends
