use Rattle.std.proofs.Common.{rules}
use Rattle.gp_store.proofs.DraftLemmas.{same_by_foot}
use Rattle.gp_bank.specs.Operations.{bank_draft_for}
use Rattle.gp_bank.proofs.draft.is_draft_for.Goals as goal

pub returns-then-is_checkpoint : goal.returns-then-is_checkpoint
returns-then-is_checkpoint c =
    same_by_foot c.args.draft.now (bank_draft_for c.args.op.now) c.eq.result
    c.requires
    (search rules)
    (rw (c.foot.ensures.value, c.as_slice.ensures, c.of.ensures) at c.eq.ensures)
