use Rattle.std.proofs.Common.{slice_get, refl, sym, ap, ◌∙◌, subst, arith}
use Rattle.std.proofs.lemmas.Bool.{eqb-true}
use Rattle.gp_stage.specs.Held.{AreUp}
use Rattle.gp_stage.specs.Tops.{AreTrue, top_of_cells}
use Rattle.gp_stage.proofs.Founding.{some_cells, up_still}
use Rattle.gp_stage.proofs.Founded.{read_own, read_holds, read_whole, same_refilled, all_refilled, lists_refilled, kept_refilled, legal_kept}
use Rattle.gp_stage.proofs.cells.CellStage.new.Goals as goal

pub returns-then-is_empty-clause-back : goal.returns-then-is_empty-clause-back
returns-then-is_empty-clause-back g c =
    let none = eqb-true c.args.cells.len 0 (sym c.is_empty.ensures ∙ c.if-is_empty.true) in
    absurd (let some = some_cells c.args.config c.args.wire.nodes c.args.cells.items c.requires.nodes c.requires.all in let long = c.args.cells.ok.0 in omega (arith, none, some, long))

pub gather-requires-clause-ready : goal.gather-requires-clause-ready
gather-requires-clause-ready g c i x e = c.requires.ready i x (ap (λ l. slice_get l i) (sym c.deref_mut.ensures.value) ∙ e)

pub look_at_all-requires-clause-own : goal.look_at_all-requires-clause-own
look_at_all-requires-clause-own g c = let a = c.args in let r = c.requires in
    read_own a.wire a.config a.cells.items c.deref_mut.result.now c.gather.new.cells c.deref_mut.ensures.value c.gather.ensures a.cells.len a.cells.ok.0 r.nodes r.all r.config c.index_mut.result.now c.index_mut.ensures.value

pub look_at_all-requires-clause-holds : goal.look_at_all-requires-clause-holds
look_at_all-requires-clause-holds g c = let a = c.args in let r = c.requires in
    read_holds a.wire a.config a.cells.items c.deref_mut.result.now c.gather.new.cells c.deref_mut.ensures.value c.gather.ensures a.cells.len a.cells.ok.0 r.nodes r.all r.config c.index_mut.result.now c.index_mut.ensures.value

pub look_at_all-requires-clause-whole : goal.look_at_all-requires-clause-whole
look_at_all-requires-clause-whole g c = let a = c.args in let r = c.requires in
    read_whole a.wire a.config a.cells.items c.deref_mut.result.now c.gather.new.cells c.deref_mut.ensures.value c.gather.ensures a.cells.len a.cells.ok.0 r.nodes r.all r.config c.index_mut.result.now c.index_mut.ensures.value

pub returns-in_default-clause-back : goal.returns-in_default-clause-back
returns-in_default-clause-back g c = let a = c.args in let r = c.requires in let e = c.look_at_all.ensures in let x = c.look_at_all.new.cell in (
  refl,
  same_refilled a.wire a.config a.cells.items c.deref_mut.result.now c.gather.new.cells c.deref_mut.ensures.value c.gather.ensures a.cells.len a.cells.ok.0 r.nodes r.all r.config c.index_mut.result.now c.index_mut.ensures.value x e.rest e.pass,
  all_refilled a.wire a.config a.cells.items c.deref_mut.result.now c.gather.new.cells c.deref_mut.ensures.value c.gather.ensures a.cells.len a.cells.ok.0 r.nodes r.all r.config c.index_mut.result.now c.index_mut.ensures.value x e.rest e.pass,
)

pub invariant_of-result : goal.invariant_of-result
invariant_of-result g c = let a = c.args in let r = c.requires in let e = c.in-Ok.ensures in let x = c.look_at_all.new.cell in let s = c.in-Ok.seen in let t = c.top_of_cells.ensures in
    kept_refilled a.wire a.config a.cells.items c.deref_mut.result.now c.gather.new.cells c.deref_mut.ensures.value c.gather.ensures a.cells.len a.cells.ok.0 r.nodes r.all r.config c.index_mut.result.now c.index_mut.ensures.value x e.rest e.pass
    e.inside s.kinds.items s.top c.top_of_cells.result c.max-top.result e.kinds e.top
    (t.top (subst AreUp (sym c.deref.ensures.value) (up_still a.cells.items _ (same_refilled a.wire a.config a.cells.items c.deref_mut.result.now c.gather.new.cells c.deref_mut.ensures.value c.gather.ensures a.cells.len a.cells.ok.0 r.nodes r.all r.config c.index_mut.result.now c.index_mut.ensures.value x e.rest e.pass) (λ i y at. (r.ready i y at).1))) ∙ ap top_of_cells c.deref.ensures.value)
    (subst AreTrue c.deref.ensures.value t.cores) c.max-top.ensures

pub returns-clause-cells : goal.returns-clause-cells
returns-clause-cells g c = let a = c.args in let r = c.requires in let e = c.look_at_all.ensures in let x = c.look_at_all.new.cell in
    same_refilled a.wire a.config a.cells.items c.deref_mut.result.now c.gather.new.cells c.deref_mut.ensures.value c.gather.ensures a.cells.len a.cells.ok.0 r.nodes r.all r.config c.index_mut.result.now c.index_mut.ensures.value x e.rest e.pass

pub returns-clause-up : goal.returns-clause-up
returns-clause-up g c = let a = c.args in let r = c.requires in let e = c.look_at_all.ensures in let x = c.look_at_all.new.cell in
    up_still a.cells.items _ (same_refilled a.wire a.config a.cells.items c.deref_mut.result.now c.gather.new.cells c.deref_mut.ensures.value c.gather.ensures a.cells.len a.cells.ok.0 r.nodes r.all r.config c.index_mut.result.now c.index_mut.ensures.value x e.rest e.pass)
    (λ i y at. (r.ready i y at).1)

pub returns-clause-legal : goal.returns-clause-legal
returns-clause-legal g c = let s = c.in-Ok.seen in legal_kept c.args.wire c.args.config _ 0 s.kinds.items s.top c.max-top.result (invariant_of-result g c)

pub returns-clause-lists : goal.returns-clause-lists
returns-clause-lists g c = let a = c.args in let r = c.requires in let e = c.look_at_all.ensures in let x = c.look_at_all.new.cell in
    lists_refilled a.wire a.config a.cells.items c.deref_mut.result.now c.gather.new.cells c.deref_mut.ensures.value c.gather.ensures a.cells.len a.cells.ok.0 r.nodes r.all r.config c.index_mut.result.now c.index_mut.ensures.value x e.rest e.pass
