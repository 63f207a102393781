use Rattle.std.proofs.Common.{ap, ◌∙◌, subst, refl}
use Rattle.std.proofs.lemmas.List.{take_all}
use Rattle.gp_world.proofs.Showing.{ord_max-nat}
use Rattle.gp_stage.specs.Tops.{AreTrue, top_of_cells}
use Rattle.gp_stage.proofs.Lasting.{tops_more, trues_more}
use Rattle.gp_stage.proofs.tops.top_of_cells.Goals as goal

pub loop-cell-init : goal.loop-cell-init
loop-cell-init g c = ((λ up. refl), (λ i x e. cc))

pub loop-cell-preserved : goal.loop-cell-preserved
loop-cell-preserved g c =
    let i = c.loop-cell.cell-index in let v = c.loop-cell.invariant in let e = c.top_of_coordinator.ensures in let cells = c.args.cells.now in let l = c.loop-cell-test.true in (
      (λ up. tops_more cells i c.cell-item.result c.loop-cell.top c.top_of_coordinator.result c.max-top.result l c.cell-item.is v.0 e.top (c.max-top.ensures ∙ ord_max-nat c.loop-cell.top c.top_of_coordinator.result) up),
      trues_more cells i c.cell-item.result l c.cell-item.is v.1 e.core,
    )

pub returns-clause-top : goal.returns-clause-top
returns-clause-top g c up = c.loop-cell.invariant.0 up ∙ ap top_of_cells (take_all c.loop-cell.cell-index c.args.cells.now c.loop-cell-test.false)

pub returns-clause-cores : goal.returns-clause-cores
returns-clause-cores g c = subst AreTrue (take_all c.loop-cell.cell-index c.args.cells.now c.loop-cell-test.false) c.loop-cell.invariant.1
