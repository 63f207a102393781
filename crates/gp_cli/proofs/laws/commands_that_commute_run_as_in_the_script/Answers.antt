-- The lemmas are the law.
use Rattle.gp_cli.proofs.Statuses.{script_order}
use Rattle.gp_cli.proofs.laws.commands_that_commute_run_as_in_the_script.Goals as goal

pub returns : goal.returns
returns g = λ run policy limit viewed named done.
    let found = script_order run.words run.before run.now run.status run.trail run.ends policy limit viewed named done in
    record { offers = found.0; whole = found.1; in_order = found.2 }
