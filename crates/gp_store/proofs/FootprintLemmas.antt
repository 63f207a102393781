-- An operation keeps to its footprint, and a command does its operation.
use Rattle.std.proofs.Common.{◌≡◌, ◌≢◌, ℕ, Bool, true, false, List, [], ◌∷◌, Option, Some, None, refl, sym, ap, ◌∙◌, arith}
use Rattle.std.specs.Prelude.{Contains}
use Rattle.gp_command.specs.declared.touch.Access.{Access}
use Rattle.gp_command.specs.declared.touch.Access.TheVariants as access
use Rattle.gp_command.specs.declared.touch.Touch.{Touch}
use Rattle.gp_command.specs.declared.command.Command.{Command}
use Rattle.gp_command.specs.Conflict.{is_clash}
use Rattle.gp_replica.specs.declared.reply.Reply.TheVariants.{Absent}
use Rattle.gp_store.specs.declared.op.Op.{Op}
use Rattle.gp_store.specs.declared.op.Op.TheVariants.{Put, Add, Get, Del, Cas, Copy, Checkpoint}
use Rattle.gp_store.specs.Operations.{IsOp, op_foot, touch, draft_for}
use Rattle.gp_store.specs.Drafts.{op_of}
use Rattle.gp_store.specs.DraftEquality.{copy_read, copy_written}
use Rattle.gp_store.specs.Pairs.{Pairs, value_at}
use Rattle.gp_store.specs.Effects.{effect, reply, effect_if_some, reply_if_some, after_command, reply_to_command}
use Rattle.gp_store.specs.Changes.{same_key, tied_keys, target, answered, untouched}
use Rattle.gp_store.specs.Commuting.{access_of, changes, target_touched, still, differ}
use Rattle.gp_store.proofs.DraftLemmas.{op_again, op_found}

not_read : (a : Access) → is_clash access.Read a ≡ true → a ≢ access.Read
not_read access.Read e same = absurd cc
not_read access.Add e same = absurd cc
not_read access.Write e same = absurd cc

target_kept : (pairs : Pairs) (op : Op) (key : List ℕ) (x s : Bool) → changes op ≡ x → same_key key (target op) ≡ s → ((t : Touch) → Contains (op_foot op) t → t.access ≢ access.Read → t.key ≢ key) → value_at (effect pairs op) key ≡ value_at pairs key
target_kept pairs op key false s ex es outside = ap (λ (p : Pairs). value_at p key) (still pairs op ex)
target_kept pairs op key true false ex es outside = untouched pairs op key es
target_kept pairs op key true true ex es outside = absurd (outside (touch (target op) (access_of op)) (target_touched op ex) (not_read (access_of op) ex) (sym (tied_keys key (target op) es)))

-- only what an operation adds to or writes is changed
pub outside_kept : (pairs : Pairs) (op : Op) (key : List ℕ) → ((t : Touch) → Contains (op_foot op) t → t.access ≢ access.Read → t.key ≢ key) → value_at (effect pairs op) key ≡ value_at pairs key
outside_kept pairs op key outside = target_kept pairs op key (changes op) (same_key key (target op)) refl refl outside

abbrev AlikeAt : List Touch → Pairs → Pairs → Type 0
AlikeAt foot pairs other = (t : Touch) → Contains foot t → value_at pairs t.key ≡ value_at other t.key

copy_source_alike : (pairs other : Pairs) (from into : List ℕ) (s : Bool) → same_key from into ≡ s → AlikeAt (op_foot (Copy from into)) pairs other → value_at pairs from ≡ value_at other from
copy_source_alike pairs other from into true e alike =
    let same = tied_keys from into e in
    ap (value_at pairs) same ∙ alike (touch into access.Write) (copy_written from into) ∙ sym (ap (value_at other) same)
copy_source_alike pairs other from into false e alike = alike (touch from access.Read) (copy_read from into (differ from into e))

first_alike : (pairs other : Pairs) (t : Touch) → AlikeAt (t ∷ []) pairs other → value_at pairs t.key ≡ value_at other t.key
first_alike pairs other t alike = alike t (0, omega arith, refl)

-- a reply is of the values of what is touched
pub reply_alike : (pairs other : Pairs) (op : Op) → AlikeAt (op_foot op) pairs other → reply pairs op ≡ reply other op
reply_alike pairs other (Put key value) alike = refl
reply_alike pairs other (Add key value) alike = refl
reply_alike pairs other (Get key) alike = ap (answered (Get key)) (first_alike pairs other (touch key access.Read) alike)
reply_alike pairs other (Del key) alike = ap (answered (Del key)) (first_alike pairs other (touch key access.Write) alike)
reply_alike pairs other (Cas key old new) alike = ap (answered (Cas key old new)) (first_alike pairs other (touch key access.Write) alike)
reply_alike pairs other (Copy from into) alike = ap (answered (Copy from into)) (copy_source_alike pairs other from into (same_key from into) refl alike)
reply_alike pairs other Checkpoint alike = refl

-- ---- commands

pub operation_done : (pairs : Pairs) (c : Command) (op : Op) → IsOp op → c.draft ≡ draft_for op → (after_command pairs c ≡ effect pairs op) × (reply_to_command pairs c ≡ reply pairs op)
operation_done pairs c op range is =
    let found : op_of c.draft ≡ Some op = ap op_of is ∙ op_again op range in
    (ap (effect_if_some pairs) found, ap (reply_if_some pairs) found)

no_operation : (pairs : Pairs) (c : Command) (o : Option Op) → op_of c.draft ≡ o → ((op : Op) → IsOp op → c.draft ≢ draft_for op) → (effect_if_some pairs o ≡ pairs) × (reply_if_some pairs o ≡ Absent)
no_operation pairs c None e none = (refl, refl)
no_operation pairs c (Some op) e none = let found = op_found c.draft op e in absurd (none op found.1 found.0)

pub nothing_done : (pairs : Pairs) (c : Command) → ((op : Op) → IsOp op → c.draft ≢ draft_for op) → (after_command pairs c ≡ pairs) × (reply_to_command pairs c ≡ Absent)
nothing_done pairs c none = no_operation pairs c (op_of c.draft) refl none
