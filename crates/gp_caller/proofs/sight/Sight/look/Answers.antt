use Rattle.std.proofs.Common.{sym, subst, ◌∙◌}
use Rattle.gp_wire.specs.Lists.{Has}
use Rattle.gp_cell.specs.Cells.{CellState, IsSameBut}
use Rattle.gp_cell.proofs.Going.{goes_on}
use Rattle.gp_caller.proofs.sight.Sight.look.Goals as goal

same_on : {D : Type 0} (a b c : CellState D) → IsSameBut a b → IsSameBut b c → IsSameBut a c
same_on a b c p q = (q.0 ∙ p.0, q.1 ∙ p.1, q.2 ∙ p.2, q.3 ∙ p.3, q.4 ∙ p.4)

pub look_at_one-requires-clause-own : goal.look_at_one-requires-clause-own
look_at_one-requires-clause-own g c = c.loop.invariant.1.wire ∙ c.requires.own

pub look_at_one-requires-clause-holds : goal.look_at_one-requires-clause-holds
look_at_one-requires-clause-holds g c =
    let went = c.loop.invariant.1 in
    subst (Has c.loop.cell.pass.node) (sym went.holds) (subst (λ n. Has n c.args.cell.now.pass.holds) (sym went.node) c.requires.holds)

pub look_at_one-requires-clause-saw : goal.look_at_one-requires-clause-saw
look_at_one-requires-clause-saw g c = c.loop.invariant.4

pub loop-preserved : goal.loop-preserved
loop-preserved g c =
    let i = c.loop.invariant in let e = c.look_at_one.ensures in
    (same_on c.args.cell.now c.loop.cell c.look_at_one.new.cell i.0 e.rest, goes_on c.args.cell.now.pass c.loop.cell.pass c.look_at_one.new.cell.pass i.1 e.pass, e.own ∙ i.2, e.round ∙ i.3, e.saw)

pub returns-in_err-look_at_one-clause-rest : goal.returns-in_err-look_at_one-clause-rest
returns-in_err-look_at_one-clause-rest g c = same_on c.args.cell.now c.loop.cell c.look_at_one.new.cell c.loop.invariant.0 c.look_at_one.ensures.rest

pub returns-in_err-look_at_one-clause-pass : goal.returns-in_err-look_at_one-clause-pass
returns-in_err-look_at_one-clause-pass g c = goes_on c.args.cell.now.pass c.loop.cell.pass c.look_at_one.new.cell.pass c.loop.invariant.1 c.look_at_one.ensures.pass

pub returns-in_err-look_at_one-clause-own : goal.returns-in_err-look_at_one-clause-own
returns-in_err-look_at_one-clause-own g c = c.look_at_one.ensures.own ∙ c.loop.invariant.2

pub returns-in_err-look_at_one-clause-round : goal.returns-in_err-look_at_one-clause-round
returns-in_err-look_at_one-clause-round g c = c.look_at_one.ensures.round ∙ c.loop.invariant.3

pub returns-in_err-look_at_one-clause-saw : goal.returns-in_err-look_at_one-clause-saw
returns-in_err-look_at_one-clause-saw g c = c.look_at_one.ensures.saw

pub returns-then-not-branch-clause-rest : goal.returns-then-not-branch-clause-rest
returns-then-not-branch-clause-rest g c = same_on c.args.cell.now c.loop.cell c.look_at_one.new.cell c.loop.invariant.0 c.look_at_one.ensures.rest

pub returns-then-not-branch-clause-pass : goal.returns-then-not-branch-clause-pass
returns-then-not-branch-clause-pass g c = goes_on c.args.cell.now.pass c.loop.cell.pass c.look_at_one.new.cell.pass c.loop.invariant.1 c.look_at_one.ensures.pass

pub returns-then-not-branch-clause-own : goal.returns-then-not-branch-clause-own
returns-then-not-branch-clause-own g c = c.look_at_one.ensures.own ∙ c.loop.invariant.2

pub returns-then-not-branch-clause-round : goal.returns-then-not-branch-clause-round
returns-then-not-branch-clause-round g c = c.look_at_one.ensures.round ∙ c.loop.invariant.3

pub returns-then-not-branch-clause-saw : goal.returns-then-not-branch-clause-saw
returns-then-not-branch-clause-saw g c = c.look_at_one.ensures.saw
