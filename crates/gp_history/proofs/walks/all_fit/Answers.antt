use Rattle.std.proofs.Common.{sym, ◌∙◌}
use Rattle.gp_history.specs.Walks.{fits}
use Rattle.gp_history.proofs.Places.{all_step, all_stop, place_at_is, place_within, has_start, fits_start, fits_if, fits_not, fits_lost}
use Rattle.gp_history.proofs.walks.all_fit.Goals as goal

pub loop-i-init : goal.loop-i-init
loop-i-init g c = fits_start (g.H.Hist.sequence c.args.a.now) (g.H.Hist.sequence c.args.b.now) c.args.from c.requires

pub is_behind-requires-clause-right : goal.is_behind-requires-clause-right
is_behind-requires-clause-right g c = place_at_is (g.H.Hist.sequence c.args.a.now) c.loop-i.i c.at-d.result.now c.len-i-end.ensures.distinct c.at-d.ensures

pub is_behind-requires-clause-within : goal.is_behind-requires-clause-within
is_behind-requires-clause-within g c = place_within (g.H.Hist.sequence c.args.b.now) c.at-d.result.now c.in-Some.j (sym c.place_of.ensures ∙ c.in-Some.is)

pub is_behind-requires-clause-kept : goal.is_behind-requires-clause-kept
is_behind-requires-clause-kept g c = has_start (g.H.Hist.sequence c.args.b.now) c.args.from

pub returns-then-not-is_behind : goal.returns-then-not-is_behind
returns-then-not-is_behind g c =
    let xs = g.H.Hist.sequence c.args.a.now in
    let ys = g.H.Hist.sequence c.args.b.now in
    sym (all_stop (fits xs ys) xs c.loop-i.i c.at-d.result.now (fits_not xs ys c.at-d.result.now (sym c.is_behind.ensures ∙ c.if-not-is_behind.true)) c.at-d.ensures)

pub returns-in-None : goal.returns-in-None
returns-in-None g c =
    let xs = g.H.Hist.sequence c.args.a.now in
    let ys = g.H.Hist.sequence c.args.b.now in
    sym (all_stop (fits xs ys) xs c.loop-i.i c.at-d.result.now (fits_lost xs ys c.at-d.result.now (sym c.place_of.ensures ∙ c.in-None.is)) c.at-d.ensures)

pub loop-i-preserved : goal.loop-i-preserved
loop-i-preserved g c =
    let xs = g.H.Hist.sequence c.args.a.now in
    let ys = g.H.Hist.sequence c.args.b.now in
    all_step (fits xs ys) xs c.loop-i.i c.at-d.result.now c.loop-i.invariant
    (fits_if xs ys c.at-d.result.now c.in-Some.j (sym c.place_of.ensures ∙ c.in-Some.is) (sym c.is_behind.ensures ∙ c.if-not-is_behind.false)) c.at-d.ensures
