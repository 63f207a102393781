-- A run that cannot be settled stays as it is.
use Rattle.gp_driver.proofs.Going.{goes_still}
use Rattle.gp_stage.proofs.settling.settle_cells.Goals as goal

pub returns-then-not-can_settle-clause-goes : goal.returns-then-not-can_settle-clause-goes
returns-then-not-can_settle-clause-goes g c = goes_still _ _
