use Rattle.std.proofs.Common.{length, sym, subst, ap, ◌∙◌, ◌≡◌, take, arith}
use Rattle.std.specs.List.{All}
use Rattle.std.proofs.lemmas.List.Elements.{All-more}
use Rattle.gp_work.proofs.Batching.{take_whole}
use Rattle.gp_cluster.specs.Cells.{HasLearned}
use Rattle.gp_cluster.proofs.gathering.have_learned.Goals as goal

pub loop-cell-preserved : goal.loop-cell-preserved
loop-cell-preserved g c =
    All-more (HasLearned c.args.commands) c.args.cells.now c.loop-cell.cell-index c.cell-item.result c.loop-cell-test.true c.loop-cell.invariant (subst (HasLearned c.args.commands) c.cell-item.is (c.has_learned.ensures.0 c.if-not-has_learned.false))

pub returns-clause-all : goal.returns-clause-all
returns-clause-all g c _ =
    let end : c.loop-cell.cell-index ≡ length c.args.cells.now = let a = c.loop-cell-test.false in let b = c.loop-cell.auto.cell-index-end in omega arith in
    subst (All (HasLearned c.args.commands)) (ap (λ i. take i c.args.cells.now) end ∙ take_whole c.args.cells.now) c.loop-cell.invariant

pub loop-cell-init : goal.loop-cell-init
loop-cell-init g c k d l = absurd (omega (arith, l))

pub returns-then-not-has_learned-clause-all : goal.returns-then-not-has_learned-clause-all
returns-then-not-has_learned-clause-all g c e = absurd cc

pub returns-then-not-has_learned-clause-some : goal.returns-then-not-has_learned-clause-some
returns-then-not-has_learned-clause-some g c e all =
    let has : HasLearned c.args.commands c.cell-item.result = subst (HasLearned c.args.commands) (sym c.cell-item.is) (all c.loop-cell.cell-index c.cell-item.result c.loop-cell-test.true) in
    let yes = c.has_learned.ensures.1 has in
    let no = c.if-not-has_learned.true in cc

pub returns-clause-some : goal.returns-clause-some
returns-clause-some g c e = absurd cc
