-- Learners come behind those that close.
use Rattle.std.proofs.Common.{length, ap, arith}
use Rattle.gp_run.specs.Messages.{messages}
use Rattle.std.proofs.lemmas.Result.{err_from_is_err_and}
use Rattle.gp_driver.proofs.SettlingCode.{spread_grows, closed_more}
use Rattle.gp_driver.proofs.Going.{failed_on, goes_on}
use Rattle.gp_driver.proofs.single_rounds.spread.Goals as goal

pub close-requires-clause-room : goal.close-requires-clause-room
close-requires-clause-room g c = let a = spread_grows (g.S.Stage.state c.args.stage.now).config c.args.k (g.S.Stage.state c.args.stage.now).run in let r = c.requires.room in omega (arith, a, r)

pub show-requires-clause-sent : goal.show-requires-clause-sent
show-requires-clause-sent g c =
    let e = ap (λ zs. length (messages zs)) c.in_ok-closers.ensures.driven.outcome.0 in
    let m = closed_more (g.S.Stage.state c.args.stage.now).config c.args.k (g.S.Stage.state c.args.stage.now).run in
    let s = c.requires.sent in
    omega (arith, e, m, s)

pub returns-in_err-learners-clause-goes : goal.returns-in_err-learners-clause-goes
returns-in_err-learners-clause-goes g c = goes_on _ _ _ _ c.in_ok-closers.ensures.goes c.in_err-learners.ensures.goes

pub returns-clause-goes : goal.returns-clause-goes
returns-clause-goes g c = goes_on _ _ _ _ c.in_ok-closers.ensures.goes c.in_ok-learners.ensures.goes

pub returns-in_err-learners-clause-failed : goal.returns-in_err-learners-clause-failed
returns-in_err-learners-clause-failed g c =
    let p = err_from_is_err_and c.from_residual-in_err-learners.result c.from_residual-in_err-learners.ensures.1 in
    rw (p.1, p.2) (failed_on _ _ _ _ _ c.in_ok-closers.ensures.goes.nodes c.in_ok-closers.ensures.failed.steady c.in_err-learners.ensures.failed)
