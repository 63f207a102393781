-- The runs between the calls are those of a pass.
use Rattle.std.proofs.Common.{◌+◌, length, refl, ap, ◌∙◌, arith}
use Rattle.gp_run.specs.Messages.{messages}
use Rattle.std.proofs.lemmas.Result.{err_from_is_err_and}
use Rattle.gp_driver.proofs.PassingCode.{same_answered, same_voted, room1, room3, order1, order3}
use Rattle.gp_driver.proofs.Going.{driven_failed, driven_on, failed_on, goes_on}
use Rattle.gp_driver.proofs.single_rounds.pass_once.Goals as goal

pub begin_next-requires-clause-room : goal.begin_next-requires-clause-room
begin_next-requires-clause-room g c = let a = room1 (g.S.Stage.state c.args.stage.now).config (g.S.Stage.state c.args.stage.now).run in let r = c.requires.room in omega (arith, a, r)

pub answer-requires-clause-order : goal.answer-requires-clause-order
answer-requires-clause-order g c =
    let t = ap (λ zs. length (messages zs)) c.in_ok-begun.ensures.driven.outcome.0 in
    let a = order1 (g.S.Stage.state c.args.stage.now).config (g.S.Stage.state c.args.stage.now).run in
    let b = c.messages-start.ensures in
    omega (arith, t, a, b)

pub answer-requires-clause-room : goal.answer-requires-clause-room
answer-requires-clause-room g c =
    let config = (g.S.Stage.state c.args.stage.now).config in
    let es = (g.S.Stage.state c.args.stage.now).run in
    let t = ap length (same_answered _ config 1 _ (length (messages es)) _ _ c.in_ok-begun.ensures.driven.same_config c.messages-start.ensures c.in_ok-begun.ensures.driven.outcome.0) in
    let a = room3 config es in
    let r = c.requires.room in
    omega (arith, t, a, r)

pub vote-requires-clause-order : goal.vote-requires-clause-order
vote-requires-clause-order g c =
    let config = (g.S.Stage.state c.args.stage.now).config in
    let es = (g.S.Stage.state c.args.stage.now).run in
    let at2 = c.in_ok-answered.ensures.driven.outcome.0 ∙ same_answered _ config 1 _ (length (messages es)) _ _ c.in_ok-begun.ensures.driven.same_config c.messages-start.ensures c.in_ok-begun.ensures.driven.outcome.0 in
    let t = ap (λ zs. length (messages zs)) at2 in
    let a = order3 config es in
    let b = c.messages-start.ensures in
    omega (arith, t, a, b)

pub vote-requires-clause-room : goal.vote-requires-clause-room
vote-requires-clause-room g c =
    let config = (g.S.Stage.state c.args.stage.now).config in
    let es = (g.S.Stage.state c.args.stage.now).run in
    let c1 = c.in_ok-begun.ensures.driven.same_config in
    let at2 = c.in_ok-answered.ensures.driven.outcome.0 ∙ same_answered _ config 1 _ (length (messages es)) _ _ c1 c.messages-start.ensures c.in_ok-begun.ensures.driven.outcome.0 in
    let t = ap length (same_voted _ config _ (length (messages es)) _ _ (c.in_ok-answered.ensures.driven.same_config ∙ c1) c.messages-start.ensures at2) in
    let r = c.requires.room in
    omega (arith, t, r)

pub returns-in_err-answered-clause-driven : goal.returns-in_err-answered-clause-driven
returns-in_err-answered-clause-driven g c =
    let p = err_from_is_err_and c.from_residual-in_err-answered.result c.from_residual-in_err-answered.ensures.1 in
    rw (p.1, p.2) (driven_failed _ _ _ _ _ _ (c.in_ok-begun.ensures.driven.same_config) (c.in_ok-begun.ensures.driven.steady) c.in_err-answered.ensures.driven)

pub returns-in_err-heard-clause-driven : goal.returns-in_err-heard-clause-driven
returns-in_err-heard-clause-driven g c =
    let p = err_from_is_err_and c.from_residual-in_err-heard.result c.from_residual-in_err-heard.ensures.1 in
    rw (p.1, p.2) (driven_failed _ _ _ _ _ _ (c.in_ok-answered.ensures.driven.same_config ∙ c.in_ok-begun.ensures.driven.same_config) (c.in_ok-answered.ensures.driven.steady ∙ c.in_ok-begun.ensures.driven.steady) c.in_err-heard.ensures.driven)

pub returns-clause-driven : goal.returns-clause-driven
returns-clause-driven g c =
    let config = (g.S.Stage.state c.args.stage.now).config in
    let es = (g.S.Stage.state c.args.stage.now).run in
    let c1 = c.in_ok-begun.ensures.driven.same_config in
    let at2 = c.in_ok-answered.ensures.driven.outcome.0 ∙ same_answered _ config 1 _ (length (messages es)) _ _ c1 c.messages-start.ensures c.in_ok-begun.ensures.driven.outcome.0 in
    let l0 = c.in_ok-begun.ensures.driven.outcome.1 in
    let l1 = c.in_ok-answered.ensures.driven.outcome.1 in
    driven_on _ _ _ _ _ (c.in_ok-begun.begun + c.in_ok-answered.answered) _ _ (c.in_ok-answered.ensures.driven.same_config ∙ c.in_ok-begun.ensures.driven.same_config) (c.in_ok-answered.ensures.driven.steady ∙ c.in_ok-begun.ensures.driven.steady) (omega (arith, l0, l1)) c.in_ok-heard.ensures.driven (same_voted _ config _ (length (messages es)) _ _ (c.in_ok-answered.ensures.driven.same_config ∙ c1) c.messages-start.ensures at2) refl

pub returns-in_err-answered-clause-goes : goal.returns-in_err-answered-clause-goes
returns-in_err-answered-clause-goes g c = goes_on _ _ _ _ c.in_ok-begun.ensures.goes c.in_err-answered.ensures.goes

pub returns-in_err-heard-clause-goes : goal.returns-in_err-heard-clause-goes
returns-in_err-heard-clause-goes g c = goes_on _ _ _ _ (goes_on _ _ _ _ c.in_ok-begun.ensures.goes c.in_ok-answered.ensures.goes) c.in_err-heard.ensures.goes

pub returns-clause-goes : goal.returns-clause-goes
returns-clause-goes g c = goes_on _ _ _ _ (goes_on _ _ _ _ c.in_ok-begun.ensures.goes c.in_ok-answered.ensures.goes) c.in_ok-heard.ensures.goes

pub returns-in_err-answered-clause-failed : goal.returns-in_err-answered-clause-failed
returns-in_err-answered-clause-failed g c =
    let p = err_from_is_err_and c.from_residual-in_err-answered.result c.from_residual-in_err-answered.ensures.1 in
    rw (p.1, p.2) (failed_on _ _ _ _ _ c.in_ok-begun.ensures.goes.nodes c.in_ok-begun.ensures.failed.steady c.in_err-answered.ensures.failed)

pub returns-in_err-heard-clause-failed : goal.returns-in_err-heard-clause-failed
returns-in_err-heard-clause-failed g c =
    let p = err_from_is_err_and c.from_residual-in_err-heard.result c.from_residual-in_err-heard.ensures.1 in
    rw (p.1, p.2) (failed_on _ _ _ _ _ (goes_on _ _ _ _ c.in_ok-begun.ensures.goes c.in_ok-answered.ensures.goes).nodes (c.in_ok-answered.ensures.failed.steady ∙ c.in_ok-begun.ensures.failed.steady) c.in_err-heard.ensures.failed)
