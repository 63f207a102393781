-- The event is one of coordinator 0.
use Rattle.gp_driver.proofs.PassingCode.{may_begin, begins}
use Rattle.gp_driver.proofs.Going.{coordinator_goes}
use Rattle.gp_driver.proofs.single_rounds.begin_next.Goals as goal

pub make-requires-clause-fits : goal.make-requires-clause-fits
make-requires-clause-fits g c = may_begin (g.S.Stage.state c.args.stage.now).config (g.S.Stage.state c.args.stage.now).run c.top_count.result c.top_count.ensures c.requires.round c.requires.lead

pub returns-clause-driven : goal.returns-clause-driven
returns-clause-driven g c = begins _ _ c.top_count.result c.make.result c.top_count.ensures c.make.ensures.driven

pub returns-clause-goes : goal.returns-clause-goes
returns-clause-goes g c = coordinator_goes 0 _ _ c.make.ensures.goes
