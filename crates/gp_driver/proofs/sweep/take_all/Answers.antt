-- One turn of the loop leads on to the same run.
use Rattle.std.proofs.Common.{◌+◌, take, length, refl, sym, ap, subst, ◌∙◌, arith, rules}
use Rattle.std.proofs.lemmas.Result.{err_from_is_err_and}
use Rattle.gp_run.specs.Messages.{messages}
use Rattle.gp_run.specs.Runs.{run_onto}
use Rattle.gp_driver.specs.Sweeps.{places, takes}
use Rattle.gp_driver.specs.Stages.{AllBut}
use Rattle.gp_driver.proofs.TakingAll.{Taking, has_room, next_taken, next_left}
use Rattle.gp_driver.proofs.Going.{failed_on, WithNodes, goes_on, all_idle, goes_still, one_entry, same_run}
use Rattle.gp_driver.proofs.sweep.take_all.Goals as goal
use Rattle.gp_driver.proofs.sweep.take_all.Goals.{then-is_kind+in_ok-step, else-is_kind}

pub step-requires-clause-room : goal.step-requires-clause-room
step-requires-clause-room g c =
    let r = has_room _ _ _ _ _ _ _ _ _ _ _ _ _ c.loop-k-test.true c.loop-k.invariant.known (sym c.is_kind.ensures.there ∙ c.if-is_kind.true) in
    let e = ap length c.is_kind.ensures.run in
    let l = c.requires.room in
    omega (arith, r, e, l)

pub overflow_add-taken : goal.overflow_add-taken
overflow_add-taken g c =
    let r = has_room _ _ _ _ _ _ _ _ _ _ _ _ _ c.loop-k-test.true c.loop-k.invariant.known (sym c.is_kind.ensures.there ∙ c.if-is_kind.true) in
    let l = c.requires.room in
    let n = c.loop-k.invariant.known.entries in
    record { fits = omega (arith, r, l, n) }

pub loop-k-preserved : goal.loop-k-preserved
loop-k-preserved g c =
    let t = c.loop-k.invariant.known in
    let target = run_onto (g.S.Stage.state c.args.stage.now).config (g.S.Stage.state c.args.stage.now).run (takes c.args.node (places c.args.kind c.args.start (take c.args.end (messages (g.S.Stage.state c.args.stage.now).run)))) in
    elim c.if-is_kind.branch [
      | then-is_kind+in_ok-step w ↦
          subst (λ (n : _). WithNodes (Taking (g.S.Stage.state c.args.stage.now).config (g.S.Stage.state c.if-is_kind.stage).config (g.S.Stage.state c.args.stage.now).run (g.S.Stage.state c.if-is_kind.stage).run target (g.S.Stage.state c.args.stage.now).faults (g.S.Stage.state c.if-is_kind.stage).faults (g.S.Stage.state c.if-is_kind.stage).is_ready c.args.node c.args.kind c.args.end (c.loop-k.k + 1) n) (AllBut c.args.node) (g.S.Stage.state c.args.stage.now) (g.S.Stage.state c.if-is_kind.stage)) (sym w.taken-is)
          (subst (λ (s : g.row.S.Denot). WithNodes (Taking (g.S.Stage.state c.args.stage.now).config (g.S.Stage.state s).config (g.S.Stage.state c.args.stage.now).run (g.S.Stage.state s).run target (g.S.Stage.state c.args.stage.now).faults (g.S.Stage.state s).faults (g.S.Stage.state s).is_ready c.args.node c.args.kind c.args.end (c.loop-k.k + 1) (c.loop-k.taken + 1)) (AllBut c.args.node) (g.S.Stage.state c.args.stage.now) (g.S.Stage.state s)) (sym w.stage-is)
          (record {
            known = next_taken _ _ _ _ _ _ _ _ _ _ _ _ _ c.loop-k-test.true t _ _ _ _ _ _ _ (sym c.is_kind.ensures.there ∙ w.if-is_kind.true) c.is_kind.ensures.config c.is_kind.ensures.run c.is_kind.ensures.steady w.in_ok-step.ensures.entry w.in_ok-step.ensures.config w.in_ok-step.ensures.steady w.in_ok-step.ensures.ready;
            goes = goes_on _ _ _ _ (goes_on _ _ _ _ c.loop-k.invariant.goes (all_idle _ _ _ c.is_kind.ensures.goes)) (one_entry _ _ _ _ w.in_ok-step.ensures.nodes w.in_ok-step.ensures.entry);
            counts = w.in_ok-step.ensures.failed.steady ∙ c.is_kind.ensures.counts ∙ c.loop-k.invariant.counts;
          }))
      | else-is_kind w ↦
          subst (λ (n : _). WithNodes (Taking (g.S.Stage.state c.args.stage.now).config (g.S.Stage.state c.if-is_kind.stage).config (g.S.Stage.state c.args.stage.now).run (g.S.Stage.state c.if-is_kind.stage).run target (g.S.Stage.state c.args.stage.now).faults (g.S.Stage.state c.if-is_kind.stage).faults (g.S.Stage.state c.if-is_kind.stage).is_ready c.args.node c.args.kind c.args.end (c.loop-k.k + 1) n) (AllBut c.args.node) (g.S.Stage.state c.args.stage.now) (g.S.Stage.state c.if-is_kind.stage)) (sym w.taken-is)
          (subst (λ (s : g.row.S.Denot). WithNodes (Taking (g.S.Stage.state c.args.stage.now).config (g.S.Stage.state s).config (g.S.Stage.state c.args.stage.now).run (g.S.Stage.state s).run target (g.S.Stage.state c.args.stage.now).faults (g.S.Stage.state s).faults (g.S.Stage.state s).is_ready c.args.node c.args.kind c.args.end (c.loop-k.k + 1) c.loop-k.taken) (AllBut c.args.node) (g.S.Stage.state c.args.stage.now) (g.S.Stage.state s)) (sym w.stage-is)
          (record {
            known = next_left _ _ _ _ _ _ _ _ _ _ _ _ _ c.loop-k-test.true t _ _ _ _ (sym c.is_kind.ensures.there ∙ w.if-is_kind.false) c.is_kind.ensures.config c.is_kind.ensures.run c.is_kind.ensures.steady (c.is_kind.ensures.ready t.is_ready);
            goes = goes_on _ _ _ _ c.loop-k.invariant.goes (all_idle _ _ _ c.is_kind.ensures.goes);
            counts = c.is_kind.ensures.counts ∙ c.loop-k.invariant.counts;
          }))
    ]

pub loop-k-init : goal.loop-k-init
loop-k-init g c = record { known = search rules; goes = goes_still _ _; counts = refl }

pub returns-in_err-step-clause-goes : goal.returns-in_err-step-clause-goes
returns-in_err-step-clause-goes g c = goes_on _ _ _ _ (goes_on _ _ _ _ c.loop-k.invariant.goes (all_idle _ _ _ c.is_kind.ensures.goes)) (same_run _ _ _ c.in_err-step.ensures.nodes c.in_err-step.ensures.unchanged)

pub returns-in_err-step-clause-failed : goal.returns-in_err-step-clause-failed
returns-in_err-step-clause-failed g c =
    let p = err_from_is_err_and c.from_residual.result c.from_residual.ensures.1 in
    rw (p.1, p.2) (failed_on _ _ _ _ _ (goes_on _ _ _ _ c.loop-k.invariant.goes (all_idle _ _ _ c.is_kind.ensures.goes)).nodes (c.is_kind.ensures.counts ∙ c.loop-k.invariant.counts) c.in_err-step.ensures.failed)
