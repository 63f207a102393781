-- The round that is opened and the drafts that are driven in it.
use Rattle.std.proofs.Common.{arith}
use Rattle.std.proofs.lemmas.Result.{err_from_is_err_and}
use Rattle.gp_driver.specs.Driving.{opened}
use Rattle.gp_driver.proofs.DrivingCode.{driven_grows, drives}
use Rattle.gp_driver.proofs.SettleCode.{range_of}
use Rattle.gp_driver.proofs.Going.{failed_on, goes_on, none_idle}
use Rattle.gp_driver.proofs.multi_round.drive_multi.Goals as goal

pub lead_first-requires-clause-room : goal.lead_first-requires-clause-room
lead_first-requires-clause-room g c =
    let a = driven_grows (g.S.Stage.state c.args.stage.now).config c.args.drafts.items (opened (g.S.Stage.state c.args.stage.now).config) in
    let r = c.requires.room in
    omega (arith, a, r)

pub returns-in_err-opened-clause-brings : goal.returns-in_err-opened-clause-brings
returns-in_err-opened-clause-brings g c = drives (g.S.Stage.state c.args.stage.now).config c.args.drafts.items (range_of _ _ c.config_of-config.ensures.same c.config_of-config.ensures.range) c.requires.three c.requires.plain

pub returns-in_err-driven-clause-brings : goal.returns-in_err-driven-clause-brings
returns-in_err-driven-clause-brings g c = drives (g.S.Stage.state c.args.stage.now).config c.args.drafts.items (range_of _ _ c.config_of-config.ensures.same c.config_of-config.ensures.range) c.requires.three c.requires.plain

pub returns-clause-brings : goal.returns-clause-brings
returns-clause-brings g c = drives (g.S.Stage.state c.args.stage.now).config c.args.drafts.items (range_of _ _ c.config_of-config.ensures.same c.config_of-config.ensures.range) c.requires.three c.requires.plain

pub returns-in_err-opened-clause-goes : goal.returns-in_err-opened-clause-goes
returns-in_err-opened-clause-goes g c = none_idle _ _ _ c.in_err-opened.ensures.goes

pub returns-in_err-driven-clause-goes : goal.returns-in_err-driven-clause-goes
returns-in_err-driven-clause-goes g c = goes_on _ _ _ _ (none_idle _ _ _ c.in_ok-opened.ensures.goes) c.in_err-driven.ensures.goes

pub returns-clause-goes : goal.returns-clause-goes
returns-clause-goes g c = goes_on _ _ _ _ (none_idle _ _ _ c.in_ok-opened.ensures.goes) c.in_ok-driven.ensures.goes

pub returns-in_err-driven-clause-failed : goal.returns-in_err-driven-clause-failed
returns-in_err-driven-clause-failed g c =
    let p = err_from_is_err_and c.from_residual-in_err-driven.result c.from_residual-in_err-driven.ensures.1 in
    rw (p.1, p.2) (failed_on _ _ _ _ _ (none_idle _ _ _ c.in_ok-opened.ensures.goes).nodes c.in_ok-opened.ensures.failed.steady c.in_err-driven.ensures.failed)
