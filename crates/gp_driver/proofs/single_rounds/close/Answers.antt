-- Coordinator 0 is there, and acceptors come behind it.
use Rattle.std.proofs.Common.{[], ◌∷◌, arith}
use Rattle.gp_msg.specs.declared.node.Node.TheVariants.{Coordinator, Acceptor}
use Rattle.std.proofs.lemmas.Result.{err_from_is_err_and}
use Rattle.gp_driver.specs.Sweeps.{swept}
use Rattle.gp_driver.proofs.Driving.{swept_grows}
use Rattle.gp_driver.proofs.PassingCode.{one_coordinator}
use Rattle.gp_driver.proofs.Going.{failed_on, goes_on}
use Rattle.gp_driver.proofs.single_rounds.close.Goals as goal

pub show-requires-clause-present : goal.show-requires-clause-present
show-requires-clause-present g c = one_coordinator (g.S.Stage.state c.args.stage.now).config c.requires.lead

pub show-requires-clause-room : goal.show-requires-clause-room
show-requires-clause-room g c =
    let a = swept_grows (g.S.Stage.state c.args.stage.now).config Acceptor 0 (g.S.Stage.state c.args.stage.now).config.acceptors (c.args.k ∷ []) (swept (g.S.Stage.state c.args.stage.now).config Coordinator 1 (c.args.k ∷ []) (g.S.Stage.state c.args.stage.now).run) (omega arith) in
    let r = c.requires.room in
    omega (arith, a, r)

pub returns-in_err-voters-clause-goes : goal.returns-in_err-voters-clause-goes
returns-in_err-voters-clause-goes g c = goes_on _ _ _ _ c.in_ok-leader.ensures.goes c.in_err-voters.ensures.goes

pub returns-clause-goes : goal.returns-clause-goes
returns-clause-goes g c = goes_on _ _ _ _ c.in_ok-leader.ensures.goes c.in_ok-voters.ensures.goes

pub returns-in_err-voters-clause-failed : goal.returns-in_err-voters-clause-failed
returns-in_err-voters-clause-failed g c =
    let p = err_from_is_err_and c.from_residual-in_err-voters.result c.from_residual-in_err-voters.ensures.1 in
    rw (p.1, p.2) (failed_on _ _ _ _ _ c.in_ok-leader.ensures.goes.nodes c.in_ok-leader.ensures.failed.steady c.in_err-voters.ensures.failed)
