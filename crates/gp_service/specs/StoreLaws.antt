-- The key store's operations have one spelling.
use Rattle.std.proofs.Common.{◌≡◌, ℕ, List, Option, Some, None, Result, Ok, Err, refl, sym, ap, subst, ◌∙◌}
use Rattle.gp_command.specs.Views.{DraftView}
use Rattle.gp_store.specs.declared.op.Op.{Op}
use Rattle.gp_store.specs.declared.form.OpFault.{OpFault}
use Rattle.gp_store.specs.Operations.{IsOp, op_words, draft_for}
use Rattle.gp_store.specs.Forms.{OpForm, op_form, op_of_form}
use Rattle.gp_store.specs.Effects.{store_rules}
use Rattle.gp_store.proofs.SpellingLemmas.{words_some, tokens_again, text_feedless, text_short}
use Rattle.gp_store.proofs.ReadingLemmas.{form_again, op_again, op_read, words_read}
use Rattle.gp_service.specs.Languages.{IsSpelled, IsLanguage, IsSpoken}
use Rattle.gp_service.specs.Profiles.{IsProfileOf}
use Rattle.gp_service.specs.Stores.{some_drafted, store_said, store_language, store_profile}

-- the words are those of an operation with this draft
pub record OfStore (words : List (List ℕ)) (draft : DraftView) : Type 0 where
  pub op : Op
  pub range : IsOp op
  pub words_of : words ≡ op_words op
  pub draft_of : draft_for op ≡ draft

form_says : (words : List (List ℕ)) (draft : DraftView) (form : OpForm) (r : Result Op OpFault) → op_form words ≡ Some form → op_of_form form ≡ r → some_drafted r ≡ Ok draft → OfStore words draft
form_says words draft form (Ok op) is of e = record { op = op; range = (op_read form op of).range; words_of = words_read words form op is of; draft_of = cc }
form_says words draft form (Err fault) is of e = absurd cc

said_says : (words : List (List ℕ)) (draft : DraftView) (o : Option OpForm) → op_form words ≡ o → store_said o ≡ Some (Ok draft) → OfStore words draft
said_says words draft None is e = absurd cc
said_says words draft (Some form) is e = form_says words draft form (op_of_form form) is refl cc

-- words with a draft are those of an operation
pub store_says : (words : List (List ℕ)) (draft : DraftView) → store_language words ≡ Some (Ok draft) → OfStore words draft
unfolding store_language
store_says words draft e = said_says words draft (op_form words) refl e

op_spelled : (op : Op) → IsOp op → IsSpelled (op_words op) (draft_for op)
op_spelled op range = record {
  tokens = sym (tokens_again op range);
  some = words_some op range;
  feedless = text_feedless op range;
  short = text_short op range;
}

-- words that spell an operation are its one spelling
pub store_spelled : IsLanguage store_language
store_spelled words draft e =
    let s = store_says words draft e in
    subst (λ (d : DraftView). IsSpelled words d) s.draft_of (subst (λ (ws : List (List ℕ)). IsSpelled ws (draft_for s.op)) (sym s.words_of) (op_spelled s.op s.range))

-- the words of an operation are read as its draft
words_say : (op : Op) → IsOp op → store_language (op_words op) ≡ Some (Ok (draft_for op))
unfolding store_language
words_say op range = rw (form_again op, op_again op range) refl

-- the draft of an operation is read from its body
pub store_spoken : (op : Op) → IsOp op → IsSpoken store_language (draft_for op)
store_spoken op range = ap store_language (tokens_again op range) ∙ words_say op range

pub store_known : IsProfileOf store_rules store_profile
store_known = record { same_rules = refl; spelled = store_spelled }
