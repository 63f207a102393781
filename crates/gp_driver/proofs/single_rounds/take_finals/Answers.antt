-- One turn of the loop leads on to the same run.
use Rattle.std.proofs.Common.{ℕ, ◌+◌, ◌<◌, length, sym, ap, subst, ◌∙◌, refl, arith}
use Rattle.std.proofs.Math.Seq.{take-length}
use Rattle.gp_msg.specs.declared.message.MsgKind.TheVariants as Kind
use Rattle.gp_run.specs.Messages.{messages}
use Rattle.std.proofs.lemmas.Result.{err_from_is_err_and}
use Rattle.gp_driver.specs.Sweeps.{places}
use Rattle.gp_driver.specs.Settling.{closings}
use Rattle.gp_driver.specs.Stages.{IsProposer}
use Rattle.gp_driver.proofs.SettlingCode.{TakingFinals, same_closings, finals_room, finals_taken, finals_passed}
use Rattle.gp_driver.proofs.Going.{failed_on, WithNodes, goes_on, all_idle, goes_still}
use Rattle.gp_driver.proofs.single_rounds.take_finals.Goals as goal
use Rattle.gp_driver.proofs.single_rounds.take_finals.Goals.{then-is_kind+in_ok-taken, else-is_kind}

pub spread-requires-clause-room : goal.spread-requires-clause-room
spread-requires-clause-room g c =
    let here = let l = c.loop-k-test.true in let e = c.messages-end.ensures in let r : c.loop-k.k < length (messages (g.S.Stage.state c.args.stage.now).run) = omega (arith, l, e) in r in
    let a = finals_room _ _ _ _ _ _ _ _ _ _ c.loop-k.invariant.known here (sym c.is_kind.ensures.there ∙ c.if-is_kind.true) in
    let t = ap length (same_closings _ _ c.loop-k.k _ _ (c.is_kind.ensures.config ∙ c.loop-k.invariant.known.same_config) c.is_kind.ensures.run) in
    let r = c.requires.room in
    omega (arith, a, t, r)

pub overflow_add-taken : goal.overflow_add-taken
overflow_add-taken g c =
    let here = let l = c.loop-k-test.true in let e = c.messages-end.ensures in let r : c.loop-k.k < length (messages (g.S.Stage.state c.args.stage.now).run) = omega (arith, l, e) in r in
    let a = finals_room _ _ _ _ _ _ _ _ _ _ c.loop-k.invariant.known here (sym c.is_kind.ensures.there ∙ c.if-is_kind.true) in
    let t = ap length (same_closings _ _ c.loop-k.k _ _ (c.is_kind.ensures.config ∙ c.loop-k.invariant.known.same_config) c.is_kind.ensures.run) in
    let r = c.requires.room in
    let o = c.in_ok-taken.ensures.driven.outcome in
    let b = ap length o.0 in
    let d = o.1 in
    let n = c.loop-k.invariant.known.entries in
    let u = ap length c.is_kind.ensures.run in
    record { fits = omega (arith, a, t, r, b, d, n, u) }

pub loop-k-preserved : goal.loop-k-preserved
loop-k-preserved g c =
    let t = c.loop-k.invariant.known in
    let here = let l = c.loop-k-test.true in let e = c.messages-end.ensures in let r : c.loop-k.k < length (messages (g.S.Stage.state c.args.stage.now).run) = omega (arith, l, e) in r in
    let target = closings (g.S.Stage.state c.args.stage.now).config (places Kind.Final 0 (messages (g.S.Stage.state c.args.stage.now).run)) (g.S.Stage.state c.args.stage.now).run in
    elim c.if-is_kind.branch [
      | then-is_kind+in_ok-taken w ↦
          subst (λ (n : ℕ). WithNodes (TakingFinals (g.S.Stage.state c.args.stage.now).config (g.S.Stage.state c.if-is_kind.stage).config (g.S.Stage.state c.args.stage.now).run (g.S.Stage.state c.if-is_kind.stage).run target (g.S.Stage.state c.args.stage.now).faults (g.S.Stage.state c.if-is_kind.stage).faults (g.S.Stage.state c.if-is_kind.stage).is_ready (c.loop-k.k + 1) n) IsProposer (g.S.Stage.state c.args.stage.now) (g.S.Stage.state c.if-is_kind.stage)) (sym w.taken-is)
          (subst (λ (s : g.row.S.Denot). WithNodes (TakingFinals (g.S.Stage.state c.args.stage.now).config (g.S.Stage.state s).config (g.S.Stage.state c.args.stage.now).run (g.S.Stage.state s).run target (g.S.Stage.state c.args.stage.now).faults (g.S.Stage.state s).faults (g.S.Stage.state s).is_ready (c.loop-k.k + 1) (c.loop-k.taken + w.in_ok-taken.field-0)) IsProposer (g.S.Stage.state c.args.stage.now) (g.S.Stage.state s)) (sym w.stage-is)
          (record {
            known = let o = w.in_ok-taken.ensures.driven.outcome in
                finals_taken _ _ _ _ _ _ _ _ _ _ t here _ _ _ _ _ _ _ _ (sym c.is_kind.ensures.there ∙ w.if-is_kind.true) c.is_kind.ensures.config c.is_kind.ensures.run c.is_kind.ensures.steady o.0 w.in_ok-taken.ensures.driven.same_config w.in_ok-taken.ensures.driven.steady o.1 o.2;
            goes = goes_on _ _ _ _ (goes_on _ _ _ _ c.loop-k.invariant.goes (all_idle _ _ _ c.is_kind.ensures.goes)) w.in_ok-taken.ensures.goes;
            counts = w.in_ok-taken.ensures.failed.steady ∙ c.is_kind.ensures.counts ∙ c.loop-k.invariant.counts;
          }))
      | else-is_kind w ↦
          subst (λ (n : ℕ). WithNodes (TakingFinals (g.S.Stage.state c.args.stage.now).config (g.S.Stage.state c.if-is_kind.stage).config (g.S.Stage.state c.args.stage.now).run (g.S.Stage.state c.if-is_kind.stage).run target (g.S.Stage.state c.args.stage.now).faults (g.S.Stage.state c.if-is_kind.stage).faults (g.S.Stage.state c.if-is_kind.stage).is_ready (c.loop-k.k + 1) n) IsProposer (g.S.Stage.state c.args.stage.now) (g.S.Stage.state c.if-is_kind.stage)) (sym w.taken-is)
          (subst (λ (s : g.row.S.Denot). WithNodes (TakingFinals (g.S.Stage.state c.args.stage.now).config (g.S.Stage.state s).config (g.S.Stage.state c.args.stage.now).run (g.S.Stage.state s).run target (g.S.Stage.state c.args.stage.now).faults (g.S.Stage.state s).faults (g.S.Stage.state s).is_ready (c.loop-k.k + 1) c.loop-k.taken) IsProposer (g.S.Stage.state c.args.stage.now) (g.S.Stage.state s)) (sym w.stage-is)
          (record {
            known = finals_passed _ _ _ _ _ _ _ _ _ _ t here _ _ _ _ (sym c.is_kind.ensures.there ∙ w.if-is_kind.false) c.is_kind.ensures.config c.is_kind.ensures.run c.is_kind.ensures.steady (c.is_kind.ensures.ready t.is_ready);
            goes = goes_on _ _ _ _ c.loop-k.invariant.goes (all_idle _ _ _ c.is_kind.ensures.goes);
            counts = c.is_kind.ensures.counts ∙ c.loop-k.invariant.counts;
          }))
    ]

pub loop-k-init : goal.loop-k-init
loop-k-init g c = record {
  known = record { same_config = refl; steady = refl; is_ready = c.requires.ready; rest = refl; same_start = take-length (messages (g.S.Stage.state c.args.stage.now).run); entries = omega arith };
  goes = goes_still _ _;
  counts = refl;
}

pub returns-in_err-taken-clause-goes : goal.returns-in_err-taken-clause-goes
returns-in_err-taken-clause-goes g c = goes_on _ _ _ _ (goes_on _ _ _ _ c.loop-k.invariant.goes (all_idle _ _ _ c.is_kind.ensures.goes)) c.in_err-taken.ensures.goes

pub returns-in_err-taken-clause-failed : goal.returns-in_err-taken-clause-failed
returns-in_err-taken-clause-failed g c =
    let p = err_from_is_err_and c.from_residual.result c.from_residual.ensures.1 in
    rw (p.1, p.2) (failed_on _ _ _ _ _ (goes_on _ _ _ _ c.loop-k.invariant.goes (all_idle _ _ _ c.is_kind.ensures.goes)).nodes (c.is_kind.ensures.counts ∙ c.loop-k.invariant.counts) c.in_err-taken.ensures.failed)
