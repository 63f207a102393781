use Rattle.std.proofs.Common.{sym, subst, refl, inl, None, Some}
use Rattle.std.specs.List.{All}
use Rattle.gp_ending.specs.declared.ends.RunEnd.TheVariants.{Learned}
use Rattle.gp_cluster.specs.Cells.{HasLearned}
use Rattle.gp_cluster.specs.Closing.{Leaves}
use Rattle.gp_cluster.proofs.Standing.{all_cells}
use Rattle.gp_cluster.proofs.Leaving.{left_standing}
use Rattle.gp_cluster.proofs.settling.conclude.Goals as goal

pub close-requires-clause-all : goal.close-requires-clause-all
close-requires-clause-all g c = all_cells c.args.wire c.args.cells.items c.requires.cells

pub close-requires-then-have_learned-clause-all : goal.close-requires-then-have_learned-clause-all
close-requires-then-have_learned-clause-all g c = all_cells c.args.wire c.args.cells.items c.requires.cells

pub settle_and_close-requires-clause-up : goal.settle_and_close-requires-clause-up
settle_and_close-requires-clause-up g c = c.requires.up c.in-None.is

pub returns-in-Some-clause-left : goal.returns-in-Some-clause-left
returns-in-Some-clause-left g c =
    let e = c.close.ensures in
    subst (λ m. Leaves g.D.Disk.faults c.args.config c.args.commands c.args.cells.items m c.close.result.end c.close.result.posted c.close.result.logs.items) (sym c.in-Some.is)
    (left_standing g.D.Disk.faults c.args.config c.args.commands c.args.cells.items c.args.wire (Some c.in-Some.end) c.in-Some.end c.close.result.end c.close.result.posted c.close.result.logs.items c.requires.cells c.requires.config e.posted e.end e.logs e.known refl)

pub returns-then-have_learned-clause-left : goal.returns-then-have_learned-clause-left
returns-then-have_learned-clause-left g c =
    let e = c.close-then-have_learned.ensures in let r = c.close-then-have_learned.result in
    let all = subst (All (HasLearned c.args.commands)) c.deref.ensures.value (c.have_learned.ensures.all c.if-have_learned.true) in
    subst (λ m. Leaves g.D.Disk.faults c.args.config c.args.commands c.args.cells.items m r.end r.posted r.logs.items) (sym c.in-None.is)
    (left_standing g.D.Disk.faults c.args.config c.args.commands c.args.cells.items c.args.wire None Learned r.end r.posted r.logs.items c.requires.cells c.requires.config e.posted e.end e.logs e.known (inl (refl, all)))

pub returns-else-have_learned-clause-left : goal.returns-else-have_learned-clause-left
returns-else-have_learned-clause-left g c =
    let e = c.settle_and_close.ensures in let r = c.settle_and_close.result in
    subst (λ m. Leaves g.D.Disk.faults c.args.config c.args.commands c.args.cells.items m r.end r.posted r.logs.items) (sym c.in-None.is)
    (e.left c.args.commands (λ all. c.have_learned.ensures.some c.if-have_learned.false (subst (All (HasLearned c.args.commands)) (sym c.deref.ensures.value) all)))
