use Rattle.std.proofs.Common.{◌≡◌, length, take, sym, ap, ◌∙◌, arith}
use Rattle.std.specs.List.{list_all}
use Rattle.std.proofs.Math.Seq.{take-length}
use Rattle.gp_history.proofs.Places.{all_step, all_stop, place_at_is}
use Rattle.gp_bounds.specs.Agree.{goes_beside}
use Rattle.gp_bounds.proofs.Beside.{beside_start}
use Rattle.gp_bounds.proofs.compatibles.all_beside.Goals as goal

pub loop-j-init : goal.loop-j-init
loop-j-init g c = beside_start (g.H.Hist.sequence c.args.a.now) (g.H.Hist.sequence c.args.b.now) c.args.from c.requires.alike

pub goes_beside-requires-clause-there : goal.goes_beside-requires-clause-there
goes_beside-requires-clause-there g c = place_at_is (g.H.Hist.sequence c.args.b.now) c.loop-j.j c.at-d.result.now c.len-j-end.ensures.distinct c.at-d.ensures

pub returns-then-not-goes_beside : goal.returns-then-not-goes_beside
returns-then-not-goes_beside g c =
    sym (all_stop (goes_beside (g.H.Hist.sequence c.args.a.now) (g.H.Hist.sequence c.args.b.now)) (g.H.Hist.sequence c.args.b.now) c.loop-j.j c.at-d.result.now (sym c.goes_beside.ensures ∙ c.if-not-goes_beside.true) c.at-d.ensures)

pub loop-j-preserved : goal.loop-j-preserved
loop-j-preserved g c =
    all_step (goes_beside (g.H.Hist.sequence c.args.a.now) (g.H.Hist.sequence c.args.b.now)) (g.H.Hist.sequence c.args.b.now) c.loop-j.j c.at-d.result.now c.loop-j.invariant (sym c.goes_beside.ensures ∙ c.if-not-goes_beside.false) c.at-d.ensures

pub returns : goal.returns
returns g c =
    let end : c.loop-j.j ≡ length (g.H.Hist.sequence c.args.b.now) = omega (arith, c.len-j-end.ensures.items, c.requires.within) in
    sym (sym (ap (list_all (goes_beside (g.H.Hist.sequence c.args.a.now) (g.H.Hist.sequence c.args.b.now))) (ap (λ n. take n (g.H.Hist.sequence c.args.b.now)) end ∙ take-length (g.H.Hist.sequence c.args.b.now))) ∙ c.loop-j.invariant)
