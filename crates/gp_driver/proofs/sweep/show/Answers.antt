-- One node more takes it.
use Rattle.std.proofs.Common.{suc, [], ◌∷◌, length, refl, ap, ◌∙◌, arith, rules}
use Rattle.std.proofs.lemmas.Result.{err_from_is_err_and}
use Rattle.gp_driver.specs.Roles.{node_of}
use Rattle.gp_driver.proofs.Driving.{swept_grows, showing_fits, showing_on, sweeping_next}
use Rattle.gp_driver.proofs.Going.{failed_on, goes_on, role_goes, goes_still}
use Rattle.gp_driver.proofs.sweep.show.Goals as goal

pub make-requires-clause-room : goal.make-requires-clause-room
make-requires-clause-room g c =
    let t = ap length (showing_on _ _ _ _ _ _ _ _ _ _ _ c.loop-i.invariant.known c.node-node.result c.node-node.ensures) in
    let s = swept_grows (g.S.Stage.state c.args.stage.now).config (node_of c.args.role) (suc c.loop-i.i) c.args.count (c.args.k ∷ []) (g.S.Stage.state c.args.stage.now).run (let l = c.loop-i-test.true in omega (arith, l)) in
    let r = c.requires.room in
    omega (arith, t, s, r)

pub make-requires-clause-fits : goal.make-requires-clause-fits
make-requires-clause-fits g c = showing_fits _ _ _ _ _ _ _ _ _ _ _ c.loop-i.invariant.known c.node-node.result c.node-node.ensures (c.requires.present c.loop-i.i c.loop-i-test.true) c.requires.sent

pub loop-i-preserved : goal.loop-i-preserved
loop-i-preserved g c =
    let o = c.in_ok-taken.ensures.driven.outcome in
    record {
      known = sweeping_next _ _ _ _ _ _ _ _ _ _ _ c.loop-i.invariant.known _ _ _ _ _ _ c.in_ok-taken.ensures.driven.same_config c.in_ok-taken.ensures.driven.steady o.0 (showing_on _ _ _ _ _ _ _ _ _ _ _ c.loop-i.invariant.known c.node-node.result c.node-node.ensures) o.1 o.2;
      goes = goes_on _ _ _ _ c.loop-i.invariant.goes (role_goes c.args.role c.loop-i.i _ c.node-node.ensures _ _ c.in_ok-taken.ensures.goes);
      counts = c.in_ok-taken.ensures.failed.steady ∙ c.loop-i.invariant.counts;
    }

pub overflow_add-taken : goal.overflow_add-taken
overflow_add-taken g c =
    let t = ap length (showing_on _ _ _ _ _ _ _ _ _ _ _ c.loop-i.invariant.known c.node-node.result c.node-node.ensures) in
    let s = swept_grows (g.S.Stage.state c.args.stage.now).config (node_of c.args.role) (suc c.loop-i.i) c.args.count (c.args.k ∷ []) (g.S.Stage.state c.args.stage.now).run (let l = c.loop-i-test.true in omega (arith, l)) in
    let r = c.requires.room in
    let o = c.in_ok-taken.ensures.driven.outcome in
    let a = ap length o.0 in
    let n = c.loop-i.invariant.known.entries in
    let b = o.1 in
    record { fits = omega (arith, t, s, r, a, n, b) }

pub loop-i-init : goal.loop-i-init
loop-i-init g c = record { known = search rules; goes = goes_still _ _; counts = refl }

pub returns-in_err-taken-clause-goes : goal.returns-in_err-taken-clause-goes
returns-in_err-taken-clause-goes g c = goes_on _ _ _ _ c.loop-i.invariant.goes (role_goes c.args.role c.loop-i.i _ c.node-node.ensures _ _ c.in_err-taken.ensures.goes)

pub returns-in_err-taken-clause-failed : goal.returns-in_err-taken-clause-failed
returns-in_err-taken-clause-failed g c =
    let p = err_from_is_err_and c.from_residual.result c.from_residual.ensures.1 in
    rw (p.1, p.2) (failed_on _ _ _ _ _ c.loop-i.invariant.goes.nodes c.loop-i.invariant.counts c.in_err-taken.ensures.failed)
