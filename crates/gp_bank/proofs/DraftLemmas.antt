-- The draft of an operation on accounts, and the operation of a draft.
use Rattle.std.proofs.Common.{◌≡◌, ◌≢◌, ℕ, ◌≤◌, true, List, [], length, Some, None, Option, refl, sym, ap, ◌∙◌, arith}
use Rattle.std.specs.Prelude.{IsTrue, IfSome}
use Rattle.std.specs.List.{AllByRecursion}
use Rattle.std.specs.Ordering.{ordering_reverse}
use Rattle.std.specs.declared.cmp.Ordering.{Ordering}
use Rattle.std.specs.declared.cmp.Ordering.TheVariants.{Less, Equal, Greater}
use Rattle.std.proofs.lemmas.Bool.{le-leb}
use Rattle.gp_command.specs.declared.command.Command.{Command}
use Rattle.gp_command.specs.declared.touch.Touch.{Touch}
use Rattle.gp_command.specs.Footprint.{first_unsorted}
use Rattle.gp_command.specs.Key.{is_key, key_cmp, key_cmp_total}
use Rattle.gp_command.specs.Refusal.{long_body, refusal}
use Rattle.gp_command.specs.Spelling.{IsDraft}
use Rattle.gp_command.specs.Views.{DraftView}
use Rattle.gp_words.specs.Tokens.{tokens_of}
use Rattle.gp_replica.specs.declared.reply.Reply.TheVariants.{Absent}
use Rattle.gp_store.proofs.DraftLemmas.{same_itself, body_fits}
use Rattle.gp_bank.specs.declared.op.BankOp.{BankOp}
use Rattle.gp_bank.specs.declared.op.BankOp.TheVariants.{Deposit, Withdraw, Transfer, Balance, Checkpoint}
use Rattle.gp_bank.specs.Operations.{IsBankOp, is_checkpoint, bank_text, bank_foot, transfer_foot, bank_draft_for}
use Rattle.gp_bank.specs.Forms.{bank_op_spelled}
use Rattle.gp_bank.specs.Drafts.{bank_op, drafted}
use Rattle.gp_bank.specs.Accounts.{Accounts}
use Rattle.gp_bank.specs.Effects.{bank_effect, bank_reply, effect_if_some, reply_if_some, after_command, reply_to_command}
use Rattle.gp_bank.proofs.SpellingLemmas.{text_short}
use Rattle.gp_bank.proofs.ReadingLemmas.{text_spells, spelled_read}

-- ---- the operation of a draft

-- the draft of an operation is of that operation
pub drafted_again : (op : BankOp) → IsBankOp op → bank_op (bank_draft_for op) ≡ Some op
unfolding bank_op
drafted_again op r = rw (text_spells op r, same_itself (bank_draft_for op)) refl

-- what is found in a draft is the operation whose draft it is
pub op_found : (d : DraftView) (op : BankOp) → bank_op d ≡ Some op → (d ≡ bank_draft_for op) × IsBankOp op
unfolding bank_op
op_found d op e =
    let found = drafted d (bank_op_spelled (tokens_of d.body)) op e in
    (found.1, (spelled_read (tokens_of d.body) op found.0).1)

-- no draft is of two operations
pub ops_apart : (a b : BankOp) → IsBankOp a → IsBankOp b → bank_draft_for a ≡ bank_draft_for b → a ≡ b
ops_apart a b x y e = let both = sym (drafted_again a x) ∙ ap bank_op e ∙ drafted_again b y in cc

-- ---- the ranges of a draft

bare : (op : BankOp) → is_checkpoint op ≡ true → bank_foot op ≡ []
bare (Deposit key amount) e = absurd cc
bare (Withdraw key amount) e = absurd cc
bare (Transfer from into amount) e = absurd cc
bare (Balance key) e = absurd cc
bare Checkpoint e = refl

transfer_few : (o : Ordering) (from into : List ℕ) → length (transfer_foot o from into) ≤ 2
transfer_few Less from into = omega arith
transfer_few Equal from into = omega arith
transfer_few Greater from into = omega arith

-- an operation touches two keys at most
foot_few : (op : BankOp) → length (bank_foot op) ≤ 2
foot_few (Deposit key amount) = omega arith
foot_few (Withdraw key amount) = omega arith
foot_few (Transfer from into amount) = transfer_few (key_cmp from into) from into
foot_few (Balance key) = omega arith
foot_few Checkpoint = omega arith

transfer_sorted : (o : Ordering) (from into : List ℕ) → key_cmp from into ≡ o → first_unsorted (transfer_foot o from into) ≡ None
transfer_sorted Less from into e = rw e refl
transfer_sorted Equal from into e = refl
transfer_sorted Greater from into e = rw (key_cmp_total.antisymm into from ∙ ap ordering_reverse e) refl

-- and it touches them in ascending order
foot_sorted : (op : BankOp) → first_unsorted (bank_foot op) ≡ None
foot_sorted (Deposit key amount) = refl
foot_sorted (Withdraw key amount) = refl
foot_sorted (Transfer from into amount) = transfer_sorted (key_cmp from into) from into refl
foot_sorted (Balance key) = refl
foot_sorted Checkpoint = refl

abbrev HaveKeys : List Touch → Type 0
HaveKeys foot = AllByRecursion (λ (t : Touch). is_key t.key ≡ true) foot

transfer_keys : (o : Ordering) (from into : List ℕ) → IsTrue (is_key from) → IsTrue (is_key into) → HaveKeys (transfer_foot o from into)
transfer_keys Less from into x y = (x, (y, tt))
transfer_keys Equal from into x y = (x, tt)
transfer_keys Greater from into x y = (y, (x, tt))

foot_keys : (op : BankOp) → IsBankOp op → HaveKeys (bank_foot op)
foot_keys (Deposit key amount) r = (r.0, tt)
foot_keys (Withdraw key amount) r = (r.0, tt)
foot_keys (Transfer from into amount) r = transfer_keys (key_cmp from into) from into r.0 r.1
foot_keys (Balance key) r = (r, tt)
foot_keys Checkpoint r = tt

-- the draft of an operation is in the ranges of every draft
pub draft_in_range : (op : BankOp) → IsBankOp op → IsDraft (bank_draft_for op)
draft_in_range op r = record {
  bare = bare op;
  few = let few = foot_few op in omega arith;
  sorted = foot_sorted op;
  keys = foot_keys op r;
  short = let short = text_short op r in omega arith;
}

-- the body of a checkpoint is not refused
pub text_fits : (op : BankOp) → IsBankOp op → long_body (bank_text op) ≡ None
text_fits op r = let short = text_short op r in body_fits (bank_text op) (omega arith)

-- and the draft of an operation is not refused
pub draft_fits : (op : BankOp) → IsBankOp op → refusal (bank_foot op) (bank_text op) ≡ None
draft_fits op r =
    let few = foot_few op in
    rw (foot_sorted op, le-leb (length (bank_foot op)) 8 (omega arith), text_fits op r) refl

-- ---- what `bank_op` answers

pub answer_found : (d : DraftView) (r : Option BankOp) → r ≡ bank_op d → IfSome r (λ op. IsBankOp op × (d ≡ bank_draft_for op))
answer_found d None e = tt
answer_found d (Some op) e = let found = op_found d op (sym e) in (found.1, found.0)

pub answer_only : (d : DraftView) (r : Option BankOp) → r ≡ bank_op d → (op : BankOp) → IsBankOp op → d ≡ bank_draft_for op → r ≡ Some op
answer_only d r e op range is = e ∙ ap bank_op is ∙ drafted_again op range

-- ---- commands

pub operation_done : (s : Accounts) (c : Command) (op : BankOp) → IsBankOp op → c.draft ≡ bank_draft_for op → (after_command s c ≡ bank_effect s op) × (reply_to_command s c ≡ bank_reply s op)
operation_done s c op range is =
    let found : bank_op c.draft ≡ Some op = ap bank_op is ∙ drafted_again op range in
    (ap (effect_if_some s) found, ap (reply_if_some s) found)

no_operation : (s : Accounts) (c : Command) (o : Option BankOp) → bank_op c.draft ≡ o → ((op : BankOp) → IsBankOp op → c.draft ≢ bank_draft_for op) → (effect_if_some s o ≡ s) × (reply_if_some s o ≡ Absent)
no_operation s c None e none = (refl, refl)
no_operation s c (Some op) e none = let found = op_found c.draft op e in absurd (none op found.1 found.0)

pub nothing_done : (s : Accounts) (c : Command) → ((op : BankOp) → IsBankOp op → c.draft ≢ bank_draft_for op) → (after_command s c ≡ s) × (reply_to_command s c ≡ Absent)
nothing_done s c none = no_operation s c (bank_op c.draft) refl none
