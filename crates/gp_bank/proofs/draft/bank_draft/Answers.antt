use Rattle.std.proofs.Common.{ℕ, List, ◌++◌, ap, ◌∙◌}
use Rattle.gp_words.specs.Tokens.{tokens_of}
use Rattle.gp_bank.specs.Operations.{bank_text}
use Rattle.gp_bank.proofs.ReadingLemmas.{spelled_read}
use Rattle.gp_bank.proofs.DraftLemmas.{draft_fits}
use Rattle.gp_bank.proofs.draft.bank_draft.Goals as goal

pub touching_draft-requires : goal.touching_draft-requires
touching_draft-requires c =
    let op = c.args.op in
    let range = (spelled_read (tokens_of (bank_text op)) op c.in_ok-write_bank_op.ensures.read_again).1 in
    let text = c.deref-else-is_checkpoint.ensures.value ∙ c.in_ok-write_bank_op.ensures.written ∙ ap (λ (t : List ℕ). t ++ bank_text op) c.new-text.ensures.items in
    rw (c.as_slice.ensures, c.of.ensures, text) (draft_fits op range)
