-- The operation of a draft.
use Rattle.std.specs.Prelude.{◌≡◌, true, false, cond, if◌then◌else◌, Bool, Option, Some, None, refl}
use Rattle.gp_command.specs.Views.{DraftView}
use Rattle.gp_words.specs.Tokens.{tokens_of}
use Rattle.gp_store.specs.Drafts.{same_draft}
use Rattle.gp_store.specs.DraftEquality.{drafts_equal}
use Rattle.std.proofs.Common.{ap, ◌∙◌}
use Rattle.gp_bank.specs.declared.op.BankOp.{BankOp}
use Rattle.gp_bank.specs.Operations.{bank_draft_for}
use Rattle.gp_bank.specs.Forms.{bank_op_spelled}

-- the operation, if the draft is its draft
abbrev pub if_drafted : DraftView → Option BankOp → Option BankOp
if_drafted draft None = None
if_drafted draft (Some op) = if same_draft draft (bank_draft_for op) then Some op else None

-- the operation that the body spells, if the draft is its draft
unfoldable pub bank_op : DraftView → Option BankOp
bank_op draft = if_drafted draft (bank_op_spelled (tokens_of draft.body))

if_same : (b : Bool) (op other : BankOp) → cond b (Some op) None ≡ Some other → (b ≡ true) × (op ≡ other)
if_same true op other e = (refl, cc)
if_same false op other e = absurd cc

-- if a draft has an operation, its body spells the operation, and it is the draft of the operation
pub drafted : (d : DraftView) (o : Option BankOp) (op : BankOp) → if_drafted d o ≡ Some op → (o ≡ Some op) × (d ≡ bank_draft_for op)
drafted d None op e = absurd cc
drafted d (Some x) op e =
    let found = if_same (same_draft d (bank_draft_for x)) x op e in
    (ap (λ (x : BankOp). Some x) found.1, drafts_equal d (bank_draft_for x) found.0 ∙ ap bank_draft_for found.1)

-- a draft that has an operation is the draft of the operation
pub op_drafted : (d : DraftView) (op : BankOp) → bank_op d ≡ Some op → d ≡ bank_draft_for op
unfolding bank_op
op_drafted d op e = (drafted d (bank_op_spelled (tokens_of d.body)) op e).1
