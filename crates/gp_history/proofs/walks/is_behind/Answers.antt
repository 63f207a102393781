use Rattle.std.proofs.Common.{sym, ◌∙◌, arith}
use Rattle.gp_history.specs.Sequence.{history_of}
use Rattle.gp_history.specs.Walks.{behind}
use Rattle.gp_history.proofs.Places.{place_tells, all_step, all_stop, behind_start, behind_apart, behind_found, behind_lost, behind_gone, behind_late, behind_rest, kept_found, kept_lost}
use Rattle.gp_history.proofs.walks.is_behind.Goals as goal
use Rattle.gp_history.proofs.walks.is_behind.Goals.{then-conflicts+in-Some+in-Some-place_of, else-conflicts}

pub loop-p-init : goal.loop-p-init
loop-p-init g c = behind_start (g.H.Hist.sequence c.args.a.now) (g.H.Hist.sequence c.args.b.now) (history_of (g.H.Hist.sequence c.args.kept.now)) c.args.from c.args.d.now c.requires.alike c.requires.kept
    (place_tells (g.H.Hist.sequence c.args.a.now) c.args.d.now c.args.i c.requires.left).there (place_tells (g.H.Hist.sequence c.args.b.now) c.args.d.now c.args.j c.requires.right).there

pub returns-in-None : goal.returns-in-None
returns-in-None g c =
    let at = c.at-c.ensures in
    sym (all_stop (behind (history_of (g.H.Hist.sequence c.args.a.now)) (history_of (g.H.Hist.sequence c.args.b.now)) (history_of (g.H.Hist.sequence c.args.kept.now)) c.args.d.now) (g.H.Hist.sequence c.args.a.now) c.loop-p.p c.at-c.result.now
    (behind_lost (g.H.Hist.sequence c.args.a.now) (g.H.Hist.sequence c.args.b.now) (history_of (g.H.Hist.sequence c.args.kept.now)) c.at-c.result.now c.args.d.now c.loop-p.p c.args.i at c.requires.left c.loop-p-test.true (sym c.conflicts.ensures ∙ c.if-conflicts.true)
    (kept_lost (g.H.Hist.sequence c.args.kept.now) c.at-c.result.now (sym c.place_of.ensures ∙ c.in-None.is))) at)

pub returns-in_default : goal.returns-in_default
returns-in_default g c =
    let at = c.at-c.ensures in
    sym (all_stop (behind (history_of (g.H.Hist.sequence c.args.a.now)) (history_of (g.H.Hist.sequence c.args.b.now)) (history_of (g.H.Hist.sequence c.args.kept.now)) c.args.d.now) (g.H.Hist.sequence c.args.a.now) c.loop-p.p c.at-c.result.now
    (behind_late (g.H.Hist.sequence c.args.a.now) (g.H.Hist.sequence c.args.b.now) (history_of (g.H.Hist.sequence c.args.kept.now)) c.at-c.result.now c.args.d.now c.loop-p.p c.args.i c.in-Some-place_of.place c.args.j at c.requires.left c.loop-p-test.true (sym c.conflicts.ensures ∙ c.if-conflicts.true)
    (sym c.place_of-then-conflicts.ensures ∙ c.in-Some-place_of.is) c.requires.right c.if-place-j.false) at)

pub returns-in_default-2 : goal.returns-in_default-2
returns-in_default-2 g c =
    let at = c.at-c.ensures in
    sym (all_stop (behind (history_of (g.H.Hist.sequence c.args.a.now)) (history_of (g.H.Hist.sequence c.args.b.now)) (history_of (g.H.Hist.sequence c.args.kept.now)) c.args.d.now) (g.H.Hist.sequence c.args.a.now) c.loop-p.p c.at-c.result.now
    (behind_gone (g.H.Hist.sequence c.args.a.now) (g.H.Hist.sequence c.args.b.now) (history_of (g.H.Hist.sequence c.args.kept.now)) c.at-c.result.now c.args.d.now c.loop-p.p c.args.i at c.requires.left c.loop-p-test.true (sym c.conflicts.ensures ∙ c.if-conflicts.true)
    (sym c.place_of-then-conflicts.ensures ∙ c.in_default.is)) at)

pub loop-p-preserved : goal.loop-p-preserved
loop-p-preserved g c =
    let at = c.at-c.ensures in
    all_step (behind (history_of (g.H.Hist.sequence c.args.a.now)) (history_of (g.H.Hist.sequence c.args.b.now)) (history_of (g.H.Hist.sequence c.args.kept.now)) c.args.d.now) (g.H.Hist.sequence c.args.a.now) c.loop-p.p c.at-c.result.now c.loop-p.invariant
    (elim c.if-conflicts.branch [
      | then-conflicts+in-Some+in-Some-place_of w ↦
          behind_found (g.H.Hist.sequence c.args.a.now) (g.H.Hist.sequence c.args.b.now) (history_of (g.H.Hist.sequence c.args.kept.now)) c.at-c.result.now c.args.d.now w.in-Some-place_of.place c.args.j
          (kept_found (g.H.Hist.sequence c.args.kept.now) c.at-c.result.now w.in-Some.place (sym w.place_of.ensures ∙ w.in-Some.is))
          (sym c.conflicts.ensures ∙ w.if-conflicts.true) (sym w.place_of-then-conflicts.ensures ∙ w.in-Some-place_of.is) c.requires.right w.if-place-j.true
      | else-conflicts w ↦ behind_apart (g.H.Hist.sequence c.args.a.now) (g.H.Hist.sequence c.args.b.now) (history_of (g.H.Hist.sequence c.args.kept.now)) c.at-c.result.now c.args.d.now (sym c.conflicts.ensures ∙ w.if-conflicts.false)
    ]) at

pub returns : goal.returns
returns g c = sym (behind_rest (g.H.Hist.sequence c.args.a.now) (g.H.Hist.sequence c.args.b.now) (history_of (g.H.Hist.sequence c.args.kept.now)) c.args.d.now c.loop-p.p c.args.i c.loop-p.invariant c.requires.left (omega arith))
