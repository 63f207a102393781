use Rattle.std.proofs.Common.{◌≡◌, true, false, length, slice_get, refl, sym, ap, ◌∙◌, arith}
use Rattle.std.proofs.lemmas.Option.{slice_get_read}
use mathlib.Core.Logic.{dite}
use native.Mathlib.Decide.{ℕ_discrete}
use Rattle.gp_cell.specs.Cells.{CellState}
use Rattle.gp_stage.proofs.Places.{same_at, within}
use Rattle.gp_stage.proofs.finding.find.Goals as goal

pub loop-at-init : goal.loop-at-init
loop-at-init g c i x l e = absurd (omega (arith, l))

pub returns-then-is_node-clause-found : goal.returns-then-is_node-clause-found
returns-then-is_node-clause-found g c = (
  c.index-cells-at.result,
  slice_get_read c.args.cells.now (length c.args.cells.now) c.loop-at.at c.index-cells-at.result refl c.loop-at-test.true c.index-cells-at.is,
  sym c.node.ensures ∙ c.is_node.ensures.0 c.if-is_node.true,
)

pub loop-at-preserved : goal.loop-at-preserved
loop-at-preserved g c i x l e is = dite (ℕ_discrete i c.loop-at.at)
    (λ here.
    let at = slice_get_read c.args.cells.now (length c.args.cells.now) c.loop-at.at c.index-cells-at.result refl c.loop-at-test.true c.index-cells-at.is in
    let same : c.index-cells-at.result ≡ x = same_at c.args.cells.now c.loop-at.at c.index-cells-at.result x at (ap (λ k. slice_get c.args.cells.now k) (sym here) ∙ e) in
    let yes' : c.is_node.result ≡ true = c.is_node.ensures.1 (c.node.ensures ∙ ap (λ (y : CellState g.row.D.Denot). y.node) same ∙ is) in
    let wrong : true ≡ false = sym yes' ∙ c.if-is_node.false in cc)
    (λ other. c.loop-at.invariant i x (omega (arith, l, other)) e is)

pub returns-clause-none : goal.returns-clause-none
returns-clause-none g c h = c.loop-at.invariant h.0 h.1 (let w = within c.args.cells.now h.0 h.1 h.2 in let t = c.loop-at-test.false in omega (arith, w, t)) h.2 h.3
