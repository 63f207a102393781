-- A step adds one entry or none.
use Rattle.gp_driver.proofs.Going.{one_entry, same_run}
use Rattle.gp_driver.proofs.sweep.make.Goals as goal

pub returns-in-Ok-clause-goes : goal.returns-in-Ok-clause-goes
returns-in-Ok-clause-goes g c = one_entry _ _ _ _ c.in-Ok.ensures.nodes c.in-Ok.ensures.entry

pub returns-in-Err-clause-goes : goal.returns-in-Err-clause-goes
returns-in-Err-clause-goes g c = same_run _ _ _ c.in-Err.ensures.nodes c.in-Err.ensures.unchanged
