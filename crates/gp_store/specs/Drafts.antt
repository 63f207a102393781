-- The operation of a draft.
use Rattle.std.specs.Prelude.{Bool, if◌then◌else◌, Option, Some, None}
use Rattle.std.specs.Ordering.{eq_by_cmp}
use Rattle.gp_command.specs.Views.{DraftView}
use Rattle.gp_command.specs.Order.{draft_cmp}
use Rattle.gp_words.specs.Tokens.{tokens_of}
use Rattle.gp_store.specs.declared.op.Op.{Op}
use Rattle.gp_store.specs.Operations.{draft_for}
use Rattle.gp_store.specs.Forms.{op_spelled}

-- the two drafts are equal
abbrev pub same_draft : DraftView → DraftView → Bool
same_draft = eq_by_cmp draft_cmp

-- the operation, if the draft is its draft
abbrev pub if_drafted : DraftView → Option Op → Option Op
if_drafted draft None = None
if_drafted draft (Some op) = if same_draft draft (draft_for op) then Some op else None

-- the operation that the body spells, if the draft is its draft
unfoldable pub op_of : DraftView → Option Op
op_of draft = if_drafted draft (op_spelled (tokens_of draft.body))
