-- Learners come behind the acceptors.
use Rattle.std.proofs.Common.{length, refl, ap, ◌∙◌, arith}
use Rattle.std.proofs.lemmas.Result.{err_from_is_err_and}
use Rattle.gp_msg.specs.declared.node.Node.TheVariants.{Acceptor, Learner}
use Rattle.gp_msg.specs.declared.message.MsgKind.TheVariants as Kind
use Rattle.gp_run.specs.Messages.{messages}
use Rattle.gp_driver.specs.Sweeps.{sweep}
use Rattle.gp_driver.proofs.PassingCode.{longer, more, same_sweep}
use Rattle.gp_driver.proofs.Going.{failed_on, goes_on}
use Rattle.gp_driver.proofs.phases.vote.Goals as goal

pub sweep-requires-clause-room : goal.sweep-requires-clause-room
sweep-requires-clause-room g c =
    let config = (g.S.Stage.state c.args.stage.now).config in
    let es = (g.S.Stage.state c.args.stage.now).run in
    let n = c.acceptors-acceptors.ensures.value ∙ ap (λ k. k.acceptors) c.requires.config in
    let t = ap length (same_sweep _ config Acceptor _ config.acceptors Kind.P2a c.args.start c.args.start _ es refl n refl refl) in
    let a = longer config Learner config.learners Kind.P2b c.args.start (sweep config Acceptor config.acceptors Kind.P2a c.args.start es) in
    let r = c.requires.room in
    omega (arith, t, a, r)

pub sweep-requires-2-clause-order : goal.sweep-requires-2-clause-order
sweep-requires-2-clause-order g c =
    let config = (g.S.Stage.state c.args.stage.now).config in
    let es = (g.S.Stage.state c.args.stage.now).run in
    let n = c.acceptors-acceptors.ensures.value ∙ ap (λ k. k.acceptors) c.requires.config in
    let at1 = c.in_ok-voted.ensures.driven.outcome.0 ∙ same_sweep _ config Acceptor _ config.acceptors Kind.P2a c.args.start c.args.start _ es refl n refl refl in
    let t = ap (λ zs. length (messages zs)) at1 in
    let a = more config Acceptor config.acceptors Kind.P2a c.args.start es in
    let b = c.requires.order in
    omega (arith, t, a, b)

pub sweep-requires-2-clause-room : goal.sweep-requires-2-clause-room
sweep-requires-2-clause-room g c =
    let config = (g.S.Stage.state c.args.stage.now).config in
    let es = (g.S.Stage.state c.args.stage.now).run in
    let n = c.acceptors-acceptors.ensures.value ∙ ap (λ k. k.acceptors) c.requires.config in
    let m = c.learners-learners.ensures.value ∙ ap (λ k. k.learners) c.requires.config in
    let at1 = c.in_ok-voted.ensures.driven.outcome.0 ∙ same_sweep _ config Acceptor _ config.acceptors Kind.P2a c.args.start c.args.start _ es refl n refl refl in
    let t = ap length (same_sweep _ config Learner _ config.learners Kind.P2b c.args.start c.args.start _ _ c.in_ok-voted.ensures.driven.same_config m refl at1) in
    let r = c.requires.room in
    omega (arith, t, r)

pub returns-in_err-heard-clause-goes : goal.returns-in_err-heard-clause-goes
returns-in_err-heard-clause-goes g c = goes_on _ _ _ _ c.in_ok-voted.ensures.goes c.in_err-heard.ensures.goes

pub returns-clause-goes : goal.returns-clause-goes
returns-clause-goes g c = goes_on _ _ _ _ c.in_ok-voted.ensures.goes c.in_ok-heard.ensures.goes

pub returns-in_err-heard-clause-failed : goal.returns-in_err-heard-clause-failed
returns-in_err-heard-clause-failed g c =
    let p = err_from_is_err_and c.from_residual-in_err-heard.result c.from_residual-in_err-heard.ensures.1 in
    rw (p.1, p.2) (failed_on _ _ _ _ _ c.in_ok-voted.ensures.goes.nodes c.in_ok-voted.ensures.failed.steady c.in_err-heard.ensures.failed)
