use Rattle.std.proofs.Common.{◌≡◌, slice_get, get_or, Some, refl, sym, ◌∙◌, subst, inl, arith}
use Rattle.std.proofs.lemmas.Option.{slice_get-get_or}
use Rattle.gp_wire.specs.Lists.{Has}
use Rattle.gp_wire.specs.Known.{records}
use Rattle.gp_cell.specs.Cells.{CellState, OwnLawful}
use Rattle.gp_stage.specs.Gathered.{AreGathered, IsPlaced}
use Rattle.gp_stage.proofs.Places.{same_at}
use Rattle.gp_stage.proofs.Meeting.{gathered_one, gathered_more, placed_ready, holds_ready}
use Rattle.gp_stage.proofs.gathering.gather.Goals as goal

pub loop-i-init : goal.loop-i-init
loop-i-init g c =
    let x : CellState g.row.D.Denot = get_or c.args.cells.now 0 c.index-cells-0.result in let at = slice_get-get_or c.args.cells.now 0 c.index-cells-0.result c.requires.some in
    let r = c.requires.ready 0 x at in let e = c.is_down-first.ensures in
    gathered_one c.args.wire.now c.args.cells.now x at (placed_ready c.args.wire.now x r.0 e.node) (holds_ready c.args.wire.now x r.0 e.node) (subst (λ k. OwnLawful k x.node (records x.pass)) r.0.config e.lawful)

pub meet_at-requires-clause-own : goal.meet_at-requires-clause-own
meet_at-requires-clause-own g c x e = let i = c.loop-i.auto.i in (c.loop-i.invariant.placed 0 x (omega (arith, i)) e).own

pub meet_at-requires-clause-own_too : goal.meet_at-requires-clause-own_too
meet_at-requires-clause-own_too g c x e = (c.requires.ready c.loop-i.i x (sym (c.loop-i.invariant.later c.loop-i.i (omega arith)) ∙ e)).0.own

pub meet_at-requires-clause-holder : goal.meet_at-requires-clause-holder
meet_at-requires-clause-holder g c a b p q =
    let i = c.loop-i.auto.i in let v = c.loop-i.invariant in let m = v.met 0 a (omega (arith, i)) p in
    inl (subst (λ (f : CellState g.row.D.Denot). Has a.node f.pass.holds) (same_at c.loop-i.cells 0 v.first a v.first_is p) m.holds, refl)

pub loop-i-preserved : goal.loop-i-preserved
loop-i-preserved g c =
    let i = c.loop-i.auto.i in let v = c.loop-i.invariant in let m = c.meet_at.ensures in let t = c.loop-i-test.true in let long = c.loop-i.auto.cells in
    let x : CellState g.row.D.Denot = get_or c.loop-i.cells c.loop-i.i c.index-cells-i.result in
    let at : slice_get c.loop-i.cells c.loop-i.i ≡ Some x = slice_get-get_or c.loop-i.cells c.loop-i.i c.index-cells-i.result (omega (arith, t, long)) in
    let same : x ≡ m.two = same_at c.loop-i.cells c.loop-i.i x m.two at m.two_is in
    let r = c.requires.ready c.loop-i.i x (sym (v.later c.loop-i.i (omega arith)) ∙ at) in let e = c.is_down-other.ensures in
    subst (AreGathered c.args.wire.now c.args.cells.now c.meet_at.new.cells) (omega arith)
    (gathered_more c.args.wire.now c.args.cells.now c.loop-i.cells c.meet_at.new.cells c.loop-i.i v (omega (arith, i)) m
    (subst (IsPlaced c.args.wire.now) same (placed_ready c.args.wire.now x r.0 e.node))
    (subst (λ (y : CellState g.row.D.Denot). Has y.node y.pass.holds) same (holds_ready c.args.wire.now x r.0 e.node))
    (subst (λ (y : CellState g.row.D.Denot). OwnLawful c.args.wire.now.rules.config y.node (records y.pass)) same (subst (λ k. OwnLawful k x.node (records x.pass)) r.0.config e.lawful)))

pub returns : goal.returns
returns g c = let long = c.loop-i.auto.cells in let a = c.loop-i-test.false in let b = c.loop-i.auto.i-end in let s = c.requires.some in
    subst (AreGathered c.args.wire.now c.args.cells.now c.loop-i.cells) (omega (arith, long, a, b, s)) c.loop-i.invariant
