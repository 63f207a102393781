use Rattle.std.proofs.Common.{rules}
-- The event is one of coordinator 0.
use Rattle.gp_driver.proofs.Going.{coordinator_goes}
use Rattle.gp_driver.proofs.multi_round.begin_first.Goals as goal

pub returns-clause-goes : goal.returns-clause-goes
returns-clause-goes g c = coordinator_goes 0 _ _ c.make.ensures.goes

pub returns-clause-driven : goal.returns-clause-driven
returns-clause-driven g c = search rules
