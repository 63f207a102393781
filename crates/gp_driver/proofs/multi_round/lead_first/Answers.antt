-- The runs between the calls are those that open the round.
use Rattle.std.proofs.Common.{◌+◌, length, refl, ap, ◌∙◌, arith}
use Rattle.gp_msg.specs.declared.node.Node.TheVariants.{Coordinator}
use Rattle.gp_msg.specs.declared.message.MsgKind.TheVariants as Kind
use Rattle.std.proofs.lemmas.Bool.{lt-ltb}
use Rattle.std.proofs.lemmas.Result.{err_from_is_err_and}
use Rattle.gp_driver.proofs.PassingCode.{same_sweep, same_answered, same_voted}
use Rattle.gp_driver.proofs.DrivingCode.{opened_room2, opened_room4, first_begun}
use Rattle.gp_driver.proofs.Going.{driven_failed, driven_on, failed_on, goes_on}
use Rattle.gp_driver.proofs.multi_round.lead_first.Goals as goal

pub sweep-requires-clause-present : goal.sweep-requires-clause-present
sweep-requires-clause-present g c i l =
    let e = ap (λ k. k.coordinators) c.in_ok-begun.ensures.driven.same_config in
    let n = c.requires.two in
    lt-ltb i (g.S.Stage.state c.begin_first.new.stage).config.coordinators (omega (arith, l, e, n))

pub sweep-requires-clause-room : goal.sweep-requires-clause-room
sweep-requires-clause-room g c =
    let config = (g.S.Stage.state c.args.stage.now).config in
    let at1 = c.in_ok-begun.ensures.driven.outcome.0 ∙ first_begun _ config _ refl c.requires.nothing in
    let t = ap length (same_sweep _ config Coordinator 2 2 Kind.P1a 0 0 _ _ c.in_ok-begun.ensures.driven.same_config refl refl at1) in
    let a = opened_room2 config in
    let r = c.requires.room in
    omega (arith, t, a, r)

pub answer-requires-clause-room : goal.answer-requires-clause-room
answer-requires-clause-room g c =
    let config = (g.S.Stage.state c.args.stage.now).config in
    let c1 = c.in_ok-begun.ensures.driven.same_config in
    let at1 = c.in_ok-begun.ensures.driven.outcome.0 ∙ first_begun _ config _ refl c.requires.nothing in
    let at2 = c.in_ok-led.ensures.driven.outcome.0 ∙ same_sweep _ config Coordinator 2 2 Kind.P1a 0 0 _ _ c1 refl refl at1 in
    let t = ap length (same_answered _ config 2 0 0 _ _ (c.in_ok-led.ensures.driven.same_config ∙ c1) refl at2) in
    let a = opened_room4 config in
    let r = c.requires.room in
    omega (arith, t, a, r)

pub vote-requires-clause-room : goal.vote-requires-clause-room
vote-requires-clause-room g c =
    let config = (g.S.Stage.state c.args.stage.now).config in
    let c1 = c.in_ok-begun.ensures.driven.same_config in
    let at1 = c.in_ok-begun.ensures.driven.outcome.0 ∙ first_begun _ config _ refl c.requires.nothing in
    let c2 = c.in_ok-led.ensures.driven.same_config ∙ c1 in
    let at2 = c.in_ok-led.ensures.driven.outcome.0 ∙ same_sweep _ config Coordinator 2 2 Kind.P1a 0 0 _ _ c1 refl refl at1 in
    let at3 = c.in_ok-answered.ensures.driven.outcome.0 ∙ same_answered _ config 2 0 0 _ _ c2 refl at2 in
    let t = ap length (same_voted _ config 0 0 _ _ (c.in_ok-answered.ensures.driven.same_config ∙ c2) refl at3) in
    let r = c.requires.room in
    omega (arith, t, r)

pub returns-in_err-led-clause-driven : goal.returns-in_err-led-clause-driven
returns-in_err-led-clause-driven g c =
    let p = err_from_is_err_and c.from_residual-in_err-led.result c.from_residual-in_err-led.ensures.1 in
    rw (p.1, p.2) (driven_failed _ _ _ _ _ _ (c.in_ok-begun.ensures.driven.same_config) (c.in_ok-begun.ensures.driven.steady) c.in_err-led.ensures.driven)

pub returns-in_err-answered-clause-driven : goal.returns-in_err-answered-clause-driven
returns-in_err-answered-clause-driven g c =
    let p = err_from_is_err_and c.from_residual-in_err-answered.result c.from_residual-in_err-answered.ensures.1 in
    rw (p.1, p.2) (driven_failed _ _ _ _ _ _ (c.in_ok-led.ensures.driven.same_config ∙ c.in_ok-begun.ensures.driven.same_config) (c.in_ok-led.ensures.driven.steady ∙ c.in_ok-begun.ensures.driven.steady) c.in_err-answered.ensures.driven)

pub returns-in_err-heard-clause-driven : goal.returns-in_err-heard-clause-driven
returns-in_err-heard-clause-driven g c =
    let p = err_from_is_err_and c.from_residual-in_err-heard.result c.from_residual-in_err-heard.ensures.1 in
    rw (p.1, p.2) (driven_failed _ _ _ _ _ _ (c.in_ok-answered.ensures.driven.same_config ∙ c.in_ok-led.ensures.driven.same_config ∙ c.in_ok-begun.ensures.driven.same_config) (c.in_ok-answered.ensures.driven.steady ∙ c.in_ok-led.ensures.driven.steady ∙ c.in_ok-begun.ensures.driven.steady) c.in_err-heard.ensures.driven)

pub returns-clause-driven : goal.returns-clause-driven
returns-clause-driven g c =
    let config = (g.S.Stage.state c.args.stage.now).config in
    let c1 = c.in_ok-begun.ensures.driven.same_config in
    let at1 = c.in_ok-begun.ensures.driven.outcome.0 ∙ first_begun _ config _ refl c.requires.nothing in
    let c2 = c.in_ok-led.ensures.driven.same_config ∙ c1 in
    let at2 = c.in_ok-led.ensures.driven.outcome.0 ∙ same_sweep _ config Coordinator 2 2 Kind.P1a 0 0 _ _ c1 refl refl at1 in
    let at3 = c.in_ok-answered.ensures.driven.outcome.0 ∙ same_answered _ config 2 0 0 _ _ c2 refl at2 in
    let l0 = c.in_ok-begun.ensures.driven.outcome.1 in
    let l1 = c.in_ok-led.ensures.driven.outcome.1 in
    let l2 = c.in_ok-answered.ensures.driven.outcome.1 in
    driven_on _ _ _ _ _ (c.in_ok-begun.begun + c.in_ok-led.led + c.in_ok-answered.answered) _ _ (c.in_ok-answered.ensures.driven.same_config ∙ c.in_ok-led.ensures.driven.same_config ∙ c.in_ok-begun.ensures.driven.same_config) (c.in_ok-answered.ensures.driven.steady ∙ c.in_ok-led.ensures.driven.steady ∙ c.in_ok-begun.ensures.driven.steady) (omega (arith, l0, l1, l2)) c.in_ok-heard.ensures.driven (same_voted _ config 0 0 _ _ (c.in_ok-answered.ensures.driven.same_config ∙ c2) refl at3) refl

pub returns-in_err-led-clause-goes : goal.returns-in_err-led-clause-goes
returns-in_err-led-clause-goes g c = goes_on _ _ _ _ c.in_ok-begun.ensures.goes c.in_err-led.ensures.goes

pub returns-in_err-answered-clause-goes : goal.returns-in_err-answered-clause-goes
returns-in_err-answered-clause-goes g c = goes_on _ _ _ _ (goes_on _ _ _ _ c.in_ok-begun.ensures.goes c.in_ok-led.ensures.goes) c.in_err-answered.ensures.goes

pub returns-in_err-heard-clause-goes : goal.returns-in_err-heard-clause-goes
returns-in_err-heard-clause-goes g c = goes_on _ _ _ _ (goes_on _ _ _ _ (goes_on _ _ _ _ c.in_ok-begun.ensures.goes c.in_ok-led.ensures.goes) c.in_ok-answered.ensures.goes) c.in_err-heard.ensures.goes

pub returns-clause-goes : goal.returns-clause-goes
returns-clause-goes g c = goes_on _ _ _ _ (goes_on _ _ _ _ (goes_on _ _ _ _ c.in_ok-begun.ensures.goes c.in_ok-led.ensures.goes) c.in_ok-answered.ensures.goes) c.in_ok-heard.ensures.goes

pub returns-in_err-led-clause-failed : goal.returns-in_err-led-clause-failed
returns-in_err-led-clause-failed g c =
    let p = err_from_is_err_and c.from_residual-in_err-led.result c.from_residual-in_err-led.ensures.1 in
    rw (p.1, p.2) (failed_on _ _ _ _ _ c.in_ok-begun.ensures.goes.nodes c.in_ok-begun.ensures.failed.steady c.in_err-led.ensures.failed)

pub returns-in_err-answered-clause-failed : goal.returns-in_err-answered-clause-failed
returns-in_err-answered-clause-failed g c =
    let p = err_from_is_err_and c.from_residual-in_err-answered.result c.from_residual-in_err-answered.ensures.1 in
    rw (p.1, p.2) (failed_on _ _ _ _ _ (goes_on _ _ _ _ c.in_ok-begun.ensures.goes c.in_ok-led.ensures.goes).nodes (c.in_ok-led.ensures.failed.steady ∙ c.in_ok-begun.ensures.failed.steady) c.in_err-answered.ensures.failed)

pub returns-in_err-heard-clause-failed : goal.returns-in_err-heard-clause-failed
returns-in_err-heard-clause-failed g c =
    let p = err_from_is_err_and c.from_residual-in_err-heard.result c.from_residual-in_err-heard.ensures.1 in
    rw (p.1, p.2) (failed_on _ _ _ _ _ (goes_on _ _ _ _ (goes_on _ _ _ _ c.in_ok-begun.ensures.goes c.in_ok-led.ensures.goes) c.in_ok-answered.ensures.goes).nodes (c.in_ok-answered.ensures.failed.steady ∙ c.in_ok-led.ensures.failed.steady ∙ c.in_ok-begun.ensures.failed.steady) c.in_err-heard.ensures.failed)
