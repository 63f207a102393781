-- To look at a message leaves the run.
use Rattle.gp_driver.proofs.Going.{same_run}
use Rattle.gp_driver.proofs.sweep.is_kind.Goals as goal

pub returns-in-Some-clause-goes : goal.returns-in-Some-clause-goes
returns-in-Some-clause-goes g c = same_run _ _ _ c.kind.ensures.nodes c.kind.ensures.run

pub returns-in-None-clause-goes : goal.returns-in-None-clause-goes
returns-in-None-clause-goes g c = same_run _ _ _ c.kind.ensures.nodes c.kind.ensures.run
