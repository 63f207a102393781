-- The operations on accounts have one spelling.
use Rattle.std.proofs.Common.{◌≡◌, ℕ, ◌<◌, ◌^◌, false, eqb, not, List, ◌∷◌, ◌++◌, length, Option, Some, None, Result, Ok, Err, refl, sym, ap, subst, ◌∙◌, arith}
use Rattle.std.specs.Prelude.{decimal, IsTrue}
use Rattle.std.proofs.lemmas.Bool.{and_from, ne_eqb}
use Rattle.std.proofs.lemmas.Fmt.{decimal_nonempty}
use Rattle.std.proofs.lemmas.List.Folds.{list_all-append}
use Rattle.gp_command.specs.Key.{is_key}
use Rattle.gp_command.specs.Views.{DraftView}
use Rattle.gp_words.specs.Bytes.{Lacks}
use Rattle.gp_words.specs.Lines.{is_line_feed}
use Rattle.gp_words.specs.Tokens.{has_empty}
use Rattle.gp_words.proofs.NumberLemmas.{decimal_feedless}
use Rattle.gp_store.specs.declared.form.OpFault.{OpFault}
use Rattle.gp_store.proofs.SpellingLemmas.{key_parts, key_feedless}
use Rattle.gp_bank.specs.declared.op.BankOp.{BankOp}
use Rattle.gp_bank.specs.declared.op.BankOp.TheVariants.{Deposit, Withdraw, Transfer, Balance, Checkpoint}
use Rattle.gp_bank.specs.Operations.{IsBankOp, bank_words, bank_text, bank_draft_for}
use Rattle.gp_bank.specs.Forms.{BankForm, bank_form, bank_op_of_form}
use Rattle.gp_bank.specs.Effects.{bank_rules}
use Rattle.gp_bank.proofs.SpellingLemmas.{tokens_again, text_short}
use Rattle.gp_bank.proofs.ReadingLemmas.{form_again, op_again, op_read, words_read}
use Rattle.gp_service.specs.Languages.{IsSpelled, IsLanguage, IsSpoken}
use Rattle.gp_service.specs.Profiles.{IsProfileOf}
use Rattle.gp_service.specs.Banks.{some_drafted, bank_said, bank_language, bank_profile}

-- ---- the words are not empty, and have no line feed

key_some : (key : List ℕ) → IsTrue (is_key key) → eqb (length key) 0 ≡ false
key_some key e = let some = (key_parts key e).some in ne_eqb (length key) 0 (λ none. omega arith)

amount_some : (amount : ℕ) → amount < 2 ^ 32 → eqb (length (decimal amount)) 0 ≡ false
amount_some amount lt = let some = decimal_nonempty amount (omega arith) in ne_eqb (length (decimal amount)) 0 (λ none. omega arith)

words_some : (op : BankOp) → IsBankOp op → has_empty (bank_words op) ≡ false
words_some (Deposit key amount) r = rw (key_some key r.0, amount_some amount r.1) refl
words_some (Withdraw key amount) r = rw (key_some key r.0, amount_some amount r.1) refl
words_some (Transfer from into amount) r = rw (key_some from r.0, key_some into r.1, amount_some amount r.2) refl
words_some (Balance key) r = rw (key_some key r) refl
words_some Checkpoint r = refl

feedless_behind : (word text : List ℕ) → Lacks is_line_feed word → Lacks is_line_feed text → Lacks is_line_feed (word ++ 32 ∷ text)
feedless_behind word text x y = list_all-append (λ b. not (is_line_feed b)) word (32 ∷ text) ∙ and_from _ _ x y

amount_feedless : (key : List ℕ) (amount : ℕ) → IsTrue (is_key key) → amount < 2 ^ 32 → Lacks is_line_feed (key ++ 32 ∷ decimal amount)
amount_feedless key amount e lt = feedless_behind key (decimal amount) (key_feedless key e) (decimal_feedless amount (omega arith))

text_feedless : (op : BankOp) → IsBankOp op → Lacks is_line_feed (bank_text op)
text_feedless (Deposit key amount) r = amount_feedless key amount r.0 r.1
text_feedless (Withdraw key amount) r = amount_feedless key amount r.0 r.1
text_feedless (Transfer from into amount) r = feedless_behind from (into ++ 32 ∷ decimal amount) (key_feedless from r.0) (amount_feedless into amount r.1 r.2)
text_feedless (Balance key) r = key_feedless key r
text_feedless Checkpoint r = refl

-- ---- what words mean

-- the words are those of an operation with this draft
pub record OfBank (words : List (List ℕ)) (draft : DraftView) : Type 0 where
  pub op : BankOp
  pub range : IsBankOp op
  pub words_of : words ≡ bank_words op
  pub draft_of : bank_draft_for op ≡ draft

form_says : (words : List (List ℕ)) (draft : DraftView) (form : BankForm) (r : Result BankOp OpFault) → bank_form words ≡ Some form → bank_op_of_form form ≡ r → some_drafted r ≡ Ok draft → OfBank words draft
form_says words draft form (Ok op) is of e = record { op = op; range = (op_read form op of).range; words_of = words_read words form op is of; draft_of = cc }
form_says words draft form (Err fault) is of e = absurd cc

said_says : (words : List (List ℕ)) (draft : DraftView) (o : Option BankForm) → bank_form words ≡ o → bank_said o ≡ Some (Ok draft) → OfBank words draft
said_says words draft None is e = absurd cc
said_says words draft (Some form) is e = form_says words draft form (bank_op_of_form form) is refl cc

-- words with a draft are those of an operation
pub bank_says : (words : List (List ℕ)) (draft : DraftView) → bank_language words ≡ Some (Ok draft) → OfBank words draft
unfolding bank_language
bank_says words draft e = said_says words draft (bank_form words) refl e

op_spelled : (op : BankOp) → IsBankOp op → IsSpelled (bank_words op) (bank_draft_for op)
op_spelled op range = record {
  tokens = sym (tokens_again op range);
  some = words_some op range;
  feedless = text_feedless op range;
  short = let short = text_short op range in omega arith;
}

-- words that spell an operation are its one spelling
pub bank_spelled : IsLanguage bank_language
bank_spelled words draft e =
    let s = bank_says words draft e in
    subst (λ (d : DraftView). IsSpelled words d) s.draft_of (subst (λ (ws : List (List ℕ)). IsSpelled ws (bank_draft_for s.op)) (sym s.words_of) (op_spelled s.op s.range))

-- the words of an operation are read as its draft
words_say : (op : BankOp) → IsBankOp op → bank_language (bank_words op) ≡ Some (Ok (bank_draft_for op))
unfolding bank_language
words_say op range = rw (form_again op, op_again op range) refl

-- the draft of an operation is read from its body
pub bank_spoken : (op : BankOp) → IsBankOp op → IsSpoken bank_language (bank_draft_for op)
bank_spoken op range = ap bank_language (tokens_again op range) ∙ words_say op range

pub bank_known : IsProfileOf bank_rules bank_profile
bank_known = record { same_rules = refl; spelled = bank_spelled }
