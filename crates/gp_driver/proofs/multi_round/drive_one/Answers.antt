-- The runs between the calls are those of a draft that is driven.
use Rattle.std.proofs.Common.{◌+◌, length, refl, ap, ◌∙◌, arith}
use Rattle.gp_msg.specs.declared.node.Node.TheVariants.{Coordinator}
use Rattle.gp_msg.specs.declared.message.MsgKind.TheVariants as Kind
use Rattle.gp_run.specs.Messages.{messages}
use Rattle.std.proofs.lemmas.Bool.{lt-ltb}
use Rattle.std.proofs.lemmas.Result.{err_from_is_err_and}
use Rattle.gp_driver.proofs.PassingCode.{same_sweep, same_voted}
use Rattle.gp_driver.proofs.DrivingCode.{offered_room, pushed_room, pushed_order}
use Rattle.gp_driver.proofs.Going.{driven_failed, driven_on, failed_on, goes_on, none_idle}
use Rattle.gp_driver.proofs.multi_round.drive_one.Goals as goal

pub make-requires-clause-room : goal.make-requires-clause-room
make-requires-clause-room g c = let a = offered_room (g.S.Stage.state c.args.stage.now).config c.args.draft (g.S.Stage.state c.args.stage.now).run in let r = c.requires.room in omega (arith, a, r)

pub sweep-requires-clause-present : goal.sweep-requires-clause-present
sweep-requires-clause-present g c i l =
    let e = ap (λ k. k.coordinators) c.in_ok-offered.ensures.driven.same_config in
    let n = c.requires.two in
    lt-ltb i (g.S.Stage.state c.make.new.stage).config.coordinators (omega (arith, l, e, n))

pub sweep-requires-clause-room : goal.sweep-requires-clause-room
sweep-requires-clause-room g c =
    let config = (g.S.Stage.state c.args.stage.now).config in
    let es = (g.S.Stage.state c.args.stage.now).run in
    let t = ap length (same_sweep _ config Coordinator 2 2 Kind.Propose _ (length (messages es)) _ _ c.in_ok-offered.ensures.driven.same_config refl c.messages-start.ensures c.in_ok-offered.ensures.driven.outcome.0) in
    let a = pushed_room config c.args.draft es in
    let r = c.requires.room in
    omega (arith, t, a, r)

pub vote-requires-clause-order : goal.vote-requires-clause-order
vote-requires-clause-order g c =
    let config = (g.S.Stage.state c.args.stage.now).config in
    let es = (g.S.Stage.state c.args.stage.now).run in
    let at2 = c.in_ok-pushed.ensures.driven.outcome.0 ∙ same_sweep _ config Coordinator 2 2 Kind.Propose _ (length (messages es)) _ _ c.in_ok-offered.ensures.driven.same_config refl c.messages-start.ensures c.in_ok-offered.ensures.driven.outcome.0 in
    let t = ap (λ zs. length (messages zs)) at2 in
    let a = pushed_order config c.args.draft es in
    let b = c.messages-start.ensures in
    omega (arith, t, a, b)

pub vote-requires-clause-room : goal.vote-requires-clause-room
vote-requires-clause-room g c =
    let config = (g.S.Stage.state c.args.stage.now).config in
    let es = (g.S.Stage.state c.args.stage.now).run in
    let c1 = c.in_ok-offered.ensures.driven.same_config in
    let at2 = c.in_ok-pushed.ensures.driven.outcome.0 ∙ same_sweep _ config Coordinator 2 2 Kind.Propose _ (length (messages es)) _ _ c1 refl c.messages-start.ensures c.in_ok-offered.ensures.driven.outcome.0 in
    let t = ap length (same_voted _ config _ (length (messages es)) _ _ (c.in_ok-pushed.ensures.driven.same_config ∙ c1) c.messages-start.ensures at2) in
    let r = c.requires.room in
    omega (arith, t, r)

pub returns-in_err-pushed-clause-driven : goal.returns-in_err-pushed-clause-driven
returns-in_err-pushed-clause-driven g c =
    let p = err_from_is_err_and c.from_residual-in_err-pushed.result c.from_residual-in_err-pushed.ensures.1 in
    rw (p.1, p.2) (driven_failed _ _ _ _ _ _ (c.in_ok-offered.ensures.driven.same_config) (c.in_ok-offered.ensures.driven.steady) c.in_err-pushed.ensures.driven)

pub returns-in_err-heard-clause-driven : goal.returns-in_err-heard-clause-driven
returns-in_err-heard-clause-driven g c =
    let p = err_from_is_err_and c.from_residual-in_err-heard.result c.from_residual-in_err-heard.ensures.1 in
    rw (p.1, p.2) (driven_failed _ _ _ _ _ _ (c.in_ok-pushed.ensures.driven.same_config ∙ c.in_ok-offered.ensures.driven.same_config) (c.in_ok-pushed.ensures.driven.steady ∙ c.in_ok-offered.ensures.driven.steady) c.in_err-heard.ensures.driven)

pub returns-clause-driven : goal.returns-clause-driven
returns-clause-driven g c =
    let config = (g.S.Stage.state c.args.stage.now).config in
    let es = (g.S.Stage.state c.args.stage.now).run in
    let c1 = c.in_ok-offered.ensures.driven.same_config in
    let at2 = c.in_ok-pushed.ensures.driven.outcome.0 ∙ same_sweep _ config Coordinator 2 2 Kind.Propose _ (length (messages es)) _ _ c1 refl c.messages-start.ensures c.in_ok-offered.ensures.driven.outcome.0 in
    let l0 = c.in_ok-offered.ensures.driven.outcome.1 in
    let l1 = c.in_ok-pushed.ensures.driven.outcome.1 in
    driven_on _ _ _ _ _ (c.in_ok-offered.offered + c.in_ok-pushed.pushed) _ _ (c.in_ok-pushed.ensures.driven.same_config ∙ c.in_ok-offered.ensures.driven.same_config) (c.in_ok-pushed.ensures.driven.steady ∙ c.in_ok-offered.ensures.driven.steady) (omega (arith, l0, l1)) c.in_ok-heard.ensures.driven (same_voted _ config _ (length (messages es)) _ _ (c.in_ok-pushed.ensures.driven.same_config ∙ c1) c.messages-start.ensures at2) refl

pub returns-in_err-offered-clause-goes : goal.returns-in_err-offered-clause-goes
returns-in_err-offered-clause-goes g c = none_idle _ _ _ c.in_err-offered.ensures.goes

pub returns-in_err-pushed-clause-goes : goal.returns-in_err-pushed-clause-goes
returns-in_err-pushed-clause-goes g c = goes_on _ _ _ _ (none_idle _ _ _ c.in_ok-offered.ensures.goes) (none_idle _ _ _ c.in_err-pushed.ensures.goes)

pub returns-in_err-heard-clause-goes : goal.returns-in_err-heard-clause-goes
returns-in_err-heard-clause-goes g c = goes_on _ _ _ _ (goes_on _ _ _ _ (none_idle _ _ _ c.in_ok-offered.ensures.goes) (none_idle _ _ _ c.in_ok-pushed.ensures.goes)) (none_idle _ _ _ c.in_err-heard.ensures.goes)

pub returns-clause-goes : goal.returns-clause-goes
returns-clause-goes g c = goes_on _ _ _ _ (goes_on _ _ _ _ (none_idle _ _ _ c.in_ok-offered.ensures.goes) (none_idle _ _ _ c.in_ok-pushed.ensures.goes)) (none_idle _ _ _ c.in_ok-heard.ensures.goes)

pub returns-in_err-pushed-clause-failed : goal.returns-in_err-pushed-clause-failed
returns-in_err-pushed-clause-failed g c =
    let p = err_from_is_err_and c.from_residual-in_err-pushed.result c.from_residual-in_err-pushed.ensures.1 in
    rw (p.1, p.2) (failed_on _ _ _ _ _ (none_idle _ _ _ c.in_ok-offered.ensures.goes).nodes c.in_ok-offered.ensures.failed.steady c.in_err-pushed.ensures.failed)

pub returns-in_err-heard-clause-failed : goal.returns-in_err-heard-clause-failed
returns-in_err-heard-clause-failed g c =
    let p = err_from_is_err_and c.from_residual-in_err-heard.result c.from_residual-in_err-heard.ensures.1 in
    rw (p.1, p.2) (failed_on _ _ _ _ _ (goes_on _ _ _ _ (none_idle _ _ _ c.in_ok-offered.ensures.goes) (none_idle _ _ _ c.in_ok-pushed.ensures.goes)).nodes (c.in_ok-pushed.ensures.failed.steady ∙ c.in_ok-offered.ensures.failed.steady) c.in_err-heard.ensures.failed)
