use Rattle.std.proofs.Common.{sym, ◌∙◌}
use Rattle.gp_history.specs.Sequence.{history_of}
use Rattle.gp_bounds.specs.Agree.{is_apart}
use Rattle.gp_history.proofs.Places.{all_step, all_stop}
use Rattle.gp_bounds.proofs.Beside.{apart_start, apart_calm, apart_there, apart_not}
use Rattle.gp_bounds.proofs.compatibles.all_apart.Goals as goal
use Rattle.gp_bounds.proofs.compatibles.all_apart.Goals.{then-conflicts+in-Some, else-conflicts}

pub loop-i-init : goal.loop-i-init
loop-i-init g c = apart_start (g.H.Hist.sequence c.args.a.now) (g.H.Hist.sequence c.args.b.now) c.args.from c.args.d.now c.requires

pub returns-in-None : goal.returns-in-None
returns-in-None g c =
    sym (all_stop (is_apart (history_of (g.H.Hist.sequence c.args.b.now)) c.args.d.now) (g.H.Hist.sequence c.args.a.now) c.loop-i.i c.at-c.result.now
    (apart_not (g.H.Hist.sequence c.args.b.now) c.at-c.result.now c.args.d.now (sym c.conflicts.ensures ∙ c.if-conflicts.true) (sym c.place_of.ensures ∙ c.in-None.is)) c.at-c.ensures)

pub loop-i-preserved : goal.loop-i-preserved
loop-i-preserved g c =
    all_step (is_apart (history_of (g.H.Hist.sequence c.args.b.now)) c.args.d.now) (g.H.Hist.sequence c.args.a.now) c.loop-i.i c.at-c.result.now c.loop-i.invariant
    (elim c.if-conflicts.branch [
      | then-conflicts+in-Some w ↦ apart_there (g.H.Hist.sequence c.args.b.now) c.at-c.result.now c.args.d.now w.in-Some.place (sym w.place_of.ensures ∙ w.in-Some.is)
      | else-conflicts w ↦ apart_calm (history_of (g.H.Hist.sequence c.args.b.now)) c.at-c.result.now c.args.d.now (sym c.conflicts.ensures ∙ w.if-conflicts.false)
    ]) c.at-c.ensures
