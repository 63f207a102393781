use Rattle.std.proofs.Common.{◌≡◌, true, false, refl, sym, ◌∙◌, subst, arith}
use Rattle.std.specs.Prelude.{◌↔◌, IsTrue}
use Rattle.std.proofs.lemmas.Option.{slice_get_read}
use Rattle.gp_run.specs.Runs.{newest_first}
use Rattle.gp_stage.specs.Held.{HeldCells, whole_list}
use Rattle.gp_stage.specs.Bounds.{CanSettle, IsWithin}
use Rattle.gp_stage.proofs.Places.{within}
use Rattle.gp_stage.proofs.Telling.{can_settle_within, is_within, is_low, is_short}
use Rattle.gp_stage.proofs.cells.CellStage.can_settle.Goals as goal

pub returns-then-is_low-clause-within : goal.returns-then-is_low-clause-within
returns-then-is_low-clause-within g c =
    let i = c.self.inside in let k = c.self.invariant in let many = c.len-messages.ensures ∙ i.kinds.ok.0 in
    let at = slice_get_read i.cells.items _ i.holder c.index.result.now refl (within i.cells.items i.holder k.held.lead k.held.lead_is) c.index.ensures in
    subst (λ (h : HeldCells g.row.D.Denot). IsTrue c.is_short.result ↔ IsWithin h.config (newest_first (whole_list h))) c.self.view_is (
      λ t. is_within i.wire i.config i.cells.items i.holder i.kinds.items i.sent_top i.top k c.index.result.now c.len-messages.result c.seen-entries.result at many c.seen-entries.ensures (c.is_low.ensures.0 c.if-is_low.true) (c.is_short.ensures.0 t),
      λ w. c.is_short.ensures.1 (is_short i.wire i.config i.cells.items i.holder i.kinds.items i.sent_top i.top k c.index.result.now c.len-messages.result c.seen-entries.result at many c.seen-entries.ensures w),
    )

pub returns-else-is_low-clause-within : goal.returns-else-is_low-clause-within
returns-else-is_low-clause-within g c =
    let i = c.self.inside in let k = c.self.invariant in let many = c.len-messages.ensures ∙ i.kinds.ok.0 in
    let at = slice_get_read i.cells.items _ i.holder c.index.result.now refl (within i.cells.items i.holder k.held.lead k.held.lead_is) c.index.ensures in
    subst (λ (h : HeldCells g.row.D.Denot). IsTrue c.is_low.result ↔ IsWithin h.config (newest_first (whole_list h))) c.self.view_is (
      λ t. absurd (let wrong : false ≡ true = sym c.if-is_low.false ∙ t in cc),
      λ w. c.is_low.ensures.1 (is_low i.wire i.config i.cells.items i.holder i.kinds.items i.sent_top i.top k c.index.result.now c.len-messages.result c.seen-entries.result at many c.seen-entries.ensures w),
    )

pub returns-then-is_low-clause-can : goal.returns-then-is_low-clause-can
returns-then-is_low-clause-can g c t =
    let i = c.self.inside in let k = c.self.invariant in let a = c.acceptors.ensures in let o = c.coordinators.ensures in let l = c.learners.ensures in
    let many = c.len-messages.ensures ∙ i.kinds.ok.0 in
    let at = slice_get_read i.cells.items _ i.holder c.index.result.now refl (within i.cells.items i.holder k.held.lead k.held.lead_is) c.index.ensures in
    subst (λ (h : HeldCells g.row.D.Denot). CanSettle h.config (newest_first (whole_list h))) c.self.view_is
    (can_settle_within i.wire i.config i.cells.items i.holder i.kinds.items i.sent_top i.top k
    (record {
      three_acceptors = omega (arith, a.value, a.least);
      seven_acceptors = omega (arith, a.value, a.most);
      one_coordinator = omega (arith, o.value, o.least);
      five_coordinators = omega (arith, o.value, o.most);
      one_learner = omega (arith, l.value, l.least);
      four_learners = omega (arith, l.value, l.most);
    })
    (is_within i.wire i.config i.cells.items i.holder i.kinds.items i.sent_top i.top k c.index.result.now c.len-messages.result c.seen-entries.result at many c.seen-entries.ensures (c.is_low.ensures.0 c.if-is_low.true) (c.is_short.ensures.0 t)))
