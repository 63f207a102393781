use Rattle.std.proofs.Common.{length, subst, ap, ◌∙◌, ◌≡◌, take, arith}
use Rattle.std.specs.List.{All}
use Rattle.std.proofs.lemmas.List.Elements.{All-more}
use Rattle.gp_work.proofs.Batching.{take_whole}
use Rattle.gp_cluster.specs.Cells.{IsKnownCell}
use Rattle.gp_cluster.proofs.closing.know.Goals as goal

pub loop-cell-preserved : goal.loop-cell-preserved
loop-cell-preserved g c =
    All-more IsKnownCell c.args.cells.now c.loop-cell.cell-index c.cell-item.result c.loop-cell-test.true c.loop-cell.invariant (subst IsKnownCell c.cell-item.is c.know_cell.ensures)

pub returns : goal.returns
returns g c =
    let end : c.loop-cell.cell-index ≡ length c.args.cells.now = let a = c.loop-cell-test.false in let b = c.loop-cell.auto.cell-index-end in omega arith in
    subst (All IsKnownCell) (ap (λ i. take i c.args.cells.now) end ∙ take_whole c.args.cells.now) c.loop-cell.invariant
