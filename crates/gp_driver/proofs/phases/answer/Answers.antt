-- Coordinators come behind the acceptors.
use Rattle.std.proofs.Common.{length, refl, ap, ◌∙◌, arith}
use Rattle.std.proofs.lemmas.Bool.{lt-ltb}
use Rattle.std.proofs.lemmas.Result.{err_from_is_err_and}
use Rattle.gp_msg.specs.declared.node.Node.TheVariants.{Coordinator, Acceptor}
use Rattle.gp_msg.specs.declared.message.MsgKind.TheVariants as Kind
use Rattle.gp_run.specs.Messages.{messages}
use Rattle.gp_driver.specs.Sweeps.{sweep}
use Rattle.gp_driver.proofs.PassingCode.{longer, more, same_sweep}
use Rattle.gp_driver.proofs.Going.{failed_on, goes_on}
use Rattle.gp_driver.proofs.phases.answer.Goals as goal

pub sweep-requires-clause-room : goal.sweep-requires-clause-room
sweep-requires-clause-room g c =
    let config = (g.S.Stage.state c.args.stage.now).config in
    let es = (g.S.Stage.state c.args.stage.now).run in
    let n = c.acceptors-acceptors.ensures.value ∙ ap (λ k. k.acceptors) c.requires.config in
    let t = ap length (same_sweep _ config Acceptor _ config.acceptors Kind.P1a c.args.start c.args.start _ es refl n refl refl) in
    let a = longer config Coordinator c.args.leaders Kind.P1b c.args.start (sweep config Acceptor config.acceptors Kind.P1a c.args.start es) in
    let r = c.requires.room in
    omega (arith, t, a, r)

pub sweep-requires-2-clause-present : goal.sweep-requires-2-clause-present
sweep-requires-2-clause-present g c i l =
    let e = ap (λ k. k.coordinators) c.in_ok-asked.ensures.driven.same_config in
    let n = c.requires.leaders in
    lt-ltb i (g.S.Stage.state c.sweep.new.stage).config.coordinators (omega (arith, l, e, n))

pub sweep-requires-2-clause-order : goal.sweep-requires-2-clause-order
sweep-requires-2-clause-order g c =
    let config = (g.S.Stage.state c.args.stage.now).config in
    let es = (g.S.Stage.state c.args.stage.now).run in
    let n = c.acceptors-acceptors.ensures.value ∙ ap (λ k. k.acceptors) c.requires.config in
    let at1 = c.in_ok-asked.ensures.driven.outcome.0 ∙ same_sweep _ config Acceptor _ config.acceptors Kind.P1a c.args.start c.args.start _ es refl n refl refl in
    let t = ap (λ zs. length (messages zs)) at1 in
    let a = more config Acceptor config.acceptors Kind.P1a c.args.start es in
    let b = c.requires.order in
    omega (arith, t, a, b)

pub sweep-requires-2-clause-room : goal.sweep-requires-2-clause-room
sweep-requires-2-clause-room g c =
    let config = (g.S.Stage.state c.args.stage.now).config in
    let es = (g.S.Stage.state c.args.stage.now).run in
    let n = c.acceptors-acceptors.ensures.value ∙ ap (λ k. k.acceptors) c.requires.config in
    let at1 = c.in_ok-asked.ensures.driven.outcome.0 ∙ same_sweep _ config Acceptor _ config.acceptors Kind.P1a c.args.start c.args.start _ es refl n refl refl in
    let t = ap length (same_sweep _ config Coordinator c.args.leaders c.args.leaders Kind.P1b c.args.start c.args.start _ _ c.in_ok-asked.ensures.driven.same_config refl refl at1) in
    let r = c.requires.room in
    omega (arith, t, r)

pub returns-in_err-answered-clause-goes : goal.returns-in_err-answered-clause-goes
returns-in_err-answered-clause-goes g c = goes_on _ _ _ _ c.in_ok-asked.ensures.goes c.in_err-answered.ensures.goes

pub returns-clause-goes : goal.returns-clause-goes
returns-clause-goes g c = goes_on _ _ _ _ c.in_ok-asked.ensures.goes c.in_ok-answered.ensures.goes

pub returns-in_err-answered-clause-failed : goal.returns-in_err-answered-clause-failed
returns-in_err-answered-clause-failed g c =
    let p = err_from_is_err_and c.from_residual-in_err-answered.result c.from_residual-in_err-answered.ensures.1 in
    rw (p.1, p.2) (failed_on _ _ _ _ _ c.in_ok-asked.ensures.goes.nodes c.in_ok-asked.ensures.failed.steady c.in_err-answered.ensures.failed)
