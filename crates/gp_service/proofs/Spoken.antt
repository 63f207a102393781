-- Which drafts are spoken.
use Rattle.std.proofs.Common.{◌≡◌, ℕ, List, Some, Ok, sym, ap, subst, ◌∙◌}
use Rattle.std.specs.Prelude.{◌↔◌}
use Rattle.gp_command.specs.Views.{DraftView}
use Rattle.gp_words.specs.Tokens.{tokens_of}
use Rattle.gp_store.specs.declared.op.Op.{Op}
use Rattle.gp_store.specs.Operations.{IsOp, draft_for}
use Rattle.gp_bank.specs.declared.op.BankOp.{BankOp}
use Rattle.gp_bank.specs.Operations.{IsBankOp, bank_draft_for}
use Rattle.gp_service.specs.Languages.{Language, IsLanguage, IsSpoken}
use Rattle.gp_service.specs.Stores.{store_language}
use Rattle.gp_service.specs.StoreLaws.{store_says, store_spoken}
use Rattle.gp_service.specs.Banks.{bank_language}
use Rattle.gp_service.specs.BankLaws.{bank_says, bank_spoken}

-- what words say is spoken
pub said_spoken : (language : Language) → IsLanguage language → (words : List (List ℕ)) (draft : DraftView) → language words ≡ Some (Ok draft) → IsSpoken language draft
said_spoken language spelled words draft says = ap language (sym (spelled words draft says).tokens) ∙ says

pub of_store : (draft : DraftView) → IsSpoken store_language draft ↔ ((op : Op) × IsOp op × (draft ≡ draft_for op))
of_store draft = (
  λ spoken. let s = store_says (tokens_of draft.body) draft spoken in (s.op, s.range, sym s.draft_of),
  λ (op, range, is). subst (IsSpoken store_language) (sym is) (store_spoken op range),
)

pub of_bank : (draft : DraftView) → IsSpoken bank_language draft ↔ ((op : BankOp) × IsBankOp op × (draft ≡ bank_draft_for op))
of_bank draft = (
  λ spoken. let s = bank_says (tokens_of draft.body) draft spoken in (s.op, s.range, sym s.draft_of),
  λ (op, range, is). subst (IsSpoken bank_language) (sym is) (bank_spoken op range),
)
