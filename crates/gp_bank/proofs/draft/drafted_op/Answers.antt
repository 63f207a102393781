use Rattle.std.proofs.Common.{sym, ◌∙◌}
use Rattle.gp_bank.proofs.ReadingLemmas.{text_read}
use Rattle.gp_bank.proofs.draft.drafted_op.Goals as goal

pub is_draft_for-requires : goal.is_draft_for-requires
is_draft_for-requires c = sym c.body.ensures.value ∙ text_read c.body.result.now c.in_ok-op.op (sym c.in_ok-op.ensures)
