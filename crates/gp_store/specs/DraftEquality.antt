-- Equal drafts, the operation of a draft, and the keys that a copy touches.
use Rattle.std.proofs.Common.{◌≡◌, ◌≢◌, ℕ, Bool, true, false, cond, List, Option, Some, None, refl, ap, ◌∙◌, arith}
use Rattle.std.specs.Prelude.{Contains}
use Rattle.std.specs.FinMap.{slice_cmp-IsAntisymmetric, nat_cmp-IsAntisymmetric}
use Rattle.std.specs.Ordering.{is_eq}
use Rattle.std.specs.declared.cmp.Ordering.{Ordering}
use Rattle.std.specs.declared.cmp.Ordering.TheVariants.{Less, Equal, Greater}
use Rattle.gp_command.specs.declared.touch.Access.TheVariants.{Read, Write}
use Rattle.gp_command.specs.Key.{key_cmp}
use Rattle.gp_command.specs.Order.{draft_cmp}
use Rattle.gp_command.specs.Views.{DraftView, CommandView}
use Rattle.gp_command.proofs.Ties.{tied_command}
use Rattle.gp_words.specs.Tokens.{tokens_of}
use Rattle.gp_store.specs.declared.op.Op.{Op}
use Rattle.gp_store.specs.declared.op.Op.TheVariants.{Copy}
use Rattle.gp_store.specs.Operations.{op_foot, touch, copy_foot, draft_for}
use Rattle.gp_store.specs.Forms.{op_spelled}
use Rattle.gp_store.specs.Drafts.{same_draft, if_drafted, op_of}

pub tied : (o : Ordering) → is_eq o ≡ true → o ≡ Equal
tied Equal e = refl
tied Less e = absurd cc
tied Greater e = absurd cc

-- a command with the draft
abbrev command_with : DraftView → CommandView
command_with draft = record { id = record { proposer = 0; number = 0 }; draft = draft }

pub tied_drafts : (d e : DraftView) → draft_cmp d e ≡ Equal → d ≡ e
tied_drafts d e h = ap (λ (c : CommandView). c.draft) (tied_command (command_with d) (command_with e) h)

pub drafts_equal : (d e : DraftView) → same_draft d e ≡ true → d ≡ e
drafts_equal d e h = tied_drafts d e (tied (draft_cmp d e) h)

if_same : (b : Bool) (op other : Op) → cond b (Some op) None ≡ Some other → (b ≡ true) × (op ≡ other)
if_same true op other e = (refl, cc)
if_same false op other e = absurd cc

-- if a draft has an operation, its body spells the operation, and it is the draft of the operation
pub drafted : (d : DraftView) (o : Option Op) (op : Op) → if_drafted d o ≡ Some op → (o ≡ Some op) × (d ≡ draft_for op)
drafted d None op e = absurd cc
drafted d (Some x) op e =
    let found = if_same (same_draft d (draft_for x)) x op e in
    (ap (λ (x : Op). Some x) found.1, drafts_equal d (draft_for x) found.0 ∙ ap draft_for found.1)

-- a draft that has an operation is the draft of the operation
pub op_drafted : (d : DraftView) (op : Op) → op_of d ≡ Some op → d ≡ draft_for op
unfolding op_of
op_drafted d op e = (drafted d (op_spelled (tokens_of d.body)) op e).1

-- ---- copies

tied_keys : (a b : List ℕ) → key_cmp a b ≡ Equal → a ≡ b
tied_keys = slice_cmp-IsAntisymmetric nat_cmp-IsAntisymmetric

copy_reads : (o : Ordering) (from into : List ℕ) → key_cmp from into ≡ o → from ≢ into → Contains (copy_foot o from into) (touch from Read)
copy_reads Less from into e differ = (0, omega arith, refl)
copy_reads Equal from into e differ = absurd (differ (tied_keys from into e))
copy_reads Greater from into e differ = (1, omega arith, refl)

pub copy_read : (from into : List ℕ) → from ≢ into → Contains (op_foot (Copy from into)) (touch from Read)
copy_read from into differ = copy_reads (key_cmp from into) from into refl differ

copy_writes : (o : Ordering) (from into : List ℕ) → Contains (copy_foot o from into) (touch into Write)
copy_writes Less from into = (1, omega arith, refl)
copy_writes Equal from into = (0, omega arith, refl)
copy_writes Greater from into = (0, omega arith, refl)

pub copy_written : (from into : List ℕ) → Contains (op_foot (Copy from into)) (touch into Write)
copy_written from into = copy_writes (key_cmp from into) from into
