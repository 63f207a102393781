-- Each turn of the loop is a pass, and the passes that are left lead to the run that is meant.
use Rattle.std.proofs.Common.{◌<◌, length, refl, sym, ap, subst, ◌∙◌, arith}
use Rattle.gp_round.specs.declared.config.TheConstants.{LAST_COUNT}
use Rattle.gp_run.specs.TopCount.{top_count}
use Rattle.std.proofs.lemmas.Result.{err_from_is_err_and}
use Rattle.gp_driver.specs.Settling.{pass}
use Rattle.gp_driver.proofs.SettlingCode.{passes_start, can_pass, pass_room}
use Rattle.gp_driver.proofs.SettleCode.{one_left, last_run, stands, close_room, next_turn}
use Rattle.gp_driver.proofs.Going.{failed_on, goes_still, goes_on, all_idle}
use Rattle.gp_driver.proofs.single_rounds.make_passes.Goals as goal

pub loop-pass-init : goal.loop-pass-init
loop-pass-init g c = record {
  known = passes_start (g.S.Stage.state c.args.stage.now).config (g.S.Stage.state c.args.stage.now).run c.args.limit (g.S.Stage.state c.args.stage.now).is_ready (g.S.Stage.state c.args.stage.now).faults c.requires.can c.requires.ready;
  goes = goes_still _ _;
  counts = refl;
}

pub pass_once-requires-clause-round : goal.pass_once-requires-clause-round
pass_once-requires-clause-round g c =
    let t = one_left _ _ _ _ _ _ _ _ _ _ _ c.loop-pass-test.true c.loop-pass.invariant.known in
    let a = can_pass _ _ _ _ _ _ _ _ _ _ t in
    subst (λ d. top_count d (g.S.Stage.state c.loop-pass.stage).run < LAST_COUNT) (sym t.same_config) a

pub pass_once-requires-clause-room : goal.pass_once-requires-clause-room
pass_once-requires-clause-room g c =
    let t = one_left _ _ _ _ _ _ _ _ _ _ _ c.loop-pass-test.true c.loop-pass.invariant.known in
    let a = pass_room _ _ _ _ _ _ _ _ _ _ t in
    let e = ap (λ d. length (pass d (g.S.Stage.state c.loop-pass.stage).run)) t.same_config in
    let r = c.requires.room in
    omega (arith, a, e, r)

pub overflow_add-events : goal.overflow_add-events
overflow_add-events g c =
    let t = one_left _ _ _ _ _ _ _ _ _ _ _ c.loop-pass-test.true c.loop-pass.invariant.known in
    let a = pass_room _ _ _ _ _ _ _ _ _ _ t in
    let o = c.in_ok-events.ensures.driven.outcome in
    let e = ap length o.0 in
    let d = ap (λ d. length (pass d (g.S.Stage.state c.loop-pass.stage).run)) t.same_config in
    let b = o.1 in
    let n = t.entries in
    let r = c.requires.room in
    record { fits = omega (arith, a, b, d, e, n, r) }

pub returns-in_default-clause-driven : goal.returns-in_default-clause-driven
returns-in_default-clause-driven g c =
    let t = one_left _ _ _ _ _ _ _ _ _ _ _ c.loop-pass-test.true c.loop-pass.invariant.known in
    let p = c.in_ok-events.ensures.driven in
    let o = p.outcome in
    let f = c.first_since.ensures in
    let l1 = t.steady in
    let l2 = p.steady in
    let l3 = f.steady in
    let n = t.entries in
    let m = o.1 in
    let e = ap length f.run in
    record {
      same_config = f.config ∙ p.same_config ∙ t.same_config;
      later = omega (arith, l1, l2, l3);
      steady = l3 ∙ l2 ∙ l1;
      outcome = (last_run _ _ _ _ _ _ _ _ _ _ t _ _ _ _ _ _ c.messages-start.ensures o.0 f.first p.same_config f.config f.run c.in_default.is, omega (arith, n, m, e), f.ready o.2);
    }

pub returns-in_default-clause-goes : goal.returns-in_default-clause-goes
returns-in_default-clause-goes g c = goes_on _ _ _ _ (goes_on _ _ _ _ c.loop-pass.invariant.goes c.in_ok-events.ensures.goes) (all_idle _ _ _ c.first_since.ensures.goes)

pub close-requires-clause-sent : goal.close-requires-clause-sent
close-requires-clause-sent g c =
    let t = one_left _ _ _ _ _ _ _ _ _ _ _ c.loop-pass-test.true c.loop-pass.invariant.known in
    let o = c.in_ok-events.ensures.driven.outcome in
    let f = c.first_since.ensures in
    stands _ _ _ _ _ _ _ _ _ _ t _ _ _ _ _ _ c.messages-start.ensures o.0 f.first c.in_ok-events.ensures.driven.same_config f.config f.run _ c.in-Some.is

pub close-requires-clause-room : goal.close-requires-clause-room
close-requires-clause-room g c =
    let t = one_left _ _ _ _ _ _ _ _ _ _ _ c.loop-pass-test.true c.loop-pass.invariant.known in
    let o = c.in_ok-events.ensures.driven.outcome in
    let f = c.first_since.ensures in
    let a = close_room _ _ _ _ _ _ _ _ _ _ t _ _ _ _ _ _ c.messages-start.ensures o.0 f.first c.in_ok-events.ensures.driven.same_config f.config f.run _ c.in-Some.is in
    let r = c.requires.room in
    omega (arith, a, r)

pub overflow_add-events-in-loop-pass : goal.overflow_add-events-in-loop-pass
overflow_add-events-in-loop-pass g c =
    let t = one_left _ _ _ _ _ _ _ _ _ _ _ c.loop-pass-test.true c.loop-pass.invariant.known in
    let o = c.in_ok-events.ensures.driven.outcome in
    let f = c.first_since.ensures in
    let a = close_room _ _ _ _ _ _ _ _ _ _ t _ _ _ _ _ _ c.messages-start.ensures o.0 f.first c.in_ok-events.ensures.driven.same_config f.config f.run _ c.in-Some.is in
    let b = o.1 in
    let w = c.in_ok-events-2.ensures.driven.outcome in
    let d = ap length w.0 in
    let e = w.1 in
    let h = ap length f.run in
    let n = t.entries in
    let r = c.requires.room in
    record { fits = omega (arith, a, b, d, e, h, n, r) }

pub loop-pass-preserved : goal.loop-pass-preserved
loop-pass-preserved g c =
    let t = one_left _ _ _ _ _ _ _ _ _ _ _ c.loop-pass-test.true c.loop-pass.invariant.known in
    let o = c.in_ok-events.ensures.driven.outcome in
    let f = c.first_since.ensures in
    let w = c.in_ok-events-2.ensures.driven.outcome in
    record {
      known = next_turn _ _ _ _ _ _ _ _ _ _ t _ _ _ _ _ _ c.messages-start.ensures o.0 f.first c.in_ok-events.ensures.driven.same_config f.config f.run _ c.in-Some.is _ _ _ _ _ _ c.in_ok-events-2.ensures.driven.same_config w.0 o.1 w.1 (c.in_ok-events-2.ensures.driven.steady ∙ f.steady ∙ c.in_ok-events.ensures.driven.steady) w.2;
      goes = goes_on _ _ _ _ (goes_on _ _ _ _ (goes_on _ _ _ _ c.loop-pass.invariant.goes c.in_ok-events.ensures.goes) (all_idle _ _ _ f.goes)) c.in_ok-events-2.ensures.goes;
      counts = c.in_ok-events-2.ensures.failed.steady ∙ f.counts ∙ c.in_ok-events.ensures.failed.steady ∙ c.loop-pass.invariant.counts;
    }

pub returns-in_err-events-clause-goes : goal.returns-in_err-events-clause-goes
returns-in_err-events-clause-goes g c = goes_on _ _ _ _ c.loop-pass.invariant.goes c.in_err-events.ensures.goes

pub returns-in_err-events-2-clause-goes : goal.returns-in_err-events-2-clause-goes
returns-in_err-events-2-clause-goes g c = goes_on _ _ _ _ (goes_on _ _ _ _ (goes_on _ _ _ _ c.loop-pass.invariant.goes c.in_ok-events.ensures.goes) (all_idle _ _ _ c.first_since.ensures.goes)) c.in_err-events-2.ensures.goes

pub returns-in_err-events-clause-failed : goal.returns-in_err-events-clause-failed
returns-in_err-events-clause-failed g c =
    let p = err_from_is_err_and c.from_residual.result c.from_residual.ensures.1 in
    rw (p.1, p.2) (failed_on _ _ _ _ _ c.loop-pass.invariant.goes.nodes c.loop-pass.invariant.counts c.in_err-events.ensures.failed)

pub returns-in_err-events-2-clause-failed : goal.returns-in_err-events-2-clause-failed
returns-in_err-events-2-clause-failed g c =
    let p = err_from_is_err_and c.from_residual-in_err-events-2.result c.from_residual-in_err-events-2.ensures.1 in
    rw (p.1, p.2) (failed_on _ _ _ _ _ (goes_on _ _ _ _ (goes_on _ _ _ _ c.loop-pass.invariant.goes c.in_ok-events.ensures.goes) (all_idle _ _ _ c.first_since.ensures.goes)).nodes (c.first_since.ensures.counts ∙ c.in_ok-events.ensures.failed.steady ∙ c.loop-pass.invariant.counts) c.in_err-events-2.ensures.failed)
