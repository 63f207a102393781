-- One turn of the loop drives one draft.
use Rattle.std.proofs.Common.{length, refl, ap, ◌∙◌, arith, rules}
use Rattle.std.proofs.lemmas.Result.{err_from_is_err_and}
use Rattle.gp_driver.proofs.DrivingCode.{one_room, one_on}
use Rattle.gp_driver.proofs.Going.{failed_on, goes_still, goes_on}
use Rattle.gp_driver.proofs.multi_round.drive_each.Goals as goal

pub drive_one-requires-clause-room : goal.drive_one-requires-clause-room
drive_one-requires-clause-room g c =
    let a = one_room _ _ _ _ _ _ _ _ _ _ _ _ c.loop-draft.invariant.known c.in-Some.ensures.steps.0 in
    let r = c.requires.room in
    omega (arith, a, r)

pub overflow_add-events : goal.overflow_add-events
overflow_add-events g c =
    let a = one_room _ _ _ _ _ _ _ _ _ _ _ _ c.loop-draft.invariant.known c.in-Some.ensures.steps.0 in
    let r = c.requires.room in
    let o = c.in_ok-events.ensures.driven.outcome in
    let b = ap length o.0 in
    let d = o.1 in
    let n = c.loop-draft.invariant.known.entries in
    record { fits = omega (arith, a, b, d, n, r) }

pub loop-draft-init : goal.loop-draft-init
loop-draft-init g c = record { known = search rules; goes = goes_still _ _; counts = refl }

pub returns-in_err-events-clause-goes : goal.returns-in_err-events-clause-goes
returns-in_err-events-clause-goes g c = goes_on _ _ _ _ c.loop-draft.invariant.goes c.in_err-events.ensures.goes

pub loop-draft-preserved : goal.loop-draft-preserved
loop-draft-preserved g c =
    let o = c.in_ok-events.ensures.driven in
    record {
      known = one_on _ _ _ _ _ _ _ _ _ _ _ _ c.loop-draft.invariant.known c.in-Some.ensures.steps.0 _ _ _ _ _ o.same_config o.outcome.0 o.outcome.1 o.steady o.outcome.2;
      goes = goes_on _ _ _ _ c.loop-draft.invariant.goes c.in_ok-events.ensures.goes;
      counts = c.in_ok-events.ensures.failed.steady ∙ c.loop-draft.invariant.counts;
    }

pub returns-in_err-events-clause-failed : goal.returns-in_err-events-clause-failed
returns-in_err-events-clause-failed g c =
    let p = err_from_is_err_and c.from_residual.result c.from_residual.ensures.1 in
    rw (p.1, p.2) (failed_on _ _ _ _ _ c.loop-draft.invariant.goes.nodes c.loop-draft.invariant.counts c.in_err-events.ensures.failed)
