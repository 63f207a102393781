-- The draft of an operation, and the operation of a draft.
use Rattle.std.proofs.Common.{◌≡◌, ℕ, ◌≤◌, Bool, true, false, List, [], ◌∷◌, length, Some, None, Option, refl, sym, ap, ◌∙◌, arith}
use Rattle.std.specs.Prelude.{IsTrue, IfSome}
use Rattle.std.specs.Bool.{Decides}
use Rattle.std.specs.Cmp.{eq_by_cmp_equiv}
use Rattle.std.specs.Cmp.Lexicographic.{pointwise}
use Rattle.std.specs.List.{AllByRecursion}
use Rattle.std.specs.Ordering.{eq_by_cmp, ordering_reverse}
use Rattle.std.specs.declared.cmp.Ordering.{Ordering}
use Rattle.std.specs.declared.cmp.Ordering.TheVariants.{Less, Equal, Greater}
use Rattle.std.proofs.lemmas.Bool.{le-leb}
use Rattle.std.proofs.lemmas.Cmp.{tied_itself}
use Rattle.std.proofs.lemmas.Slice.Eq.{slice_eq-Decides}
use Rattle.gp_command.specs.declared.touch.Access.TheVariants.{Write}
use Rattle.gp_command.specs.declared.touch.Touch.{Touch}
use Rattle.gp_command.specs.Footprint.{first_unsorted}
use Rattle.gp_command.specs.Key.{is_key, key_cmp, key_cmp_total}
use Rattle.gp_command.specs.Order.{touch_cmp, touch_cmp_total, draft_cmp_total}
use Rattle.gp_command.specs.Refusal.{long_body, refusal}
use Rattle.gp_command.specs.Spelling.{IsDraft}
use Rattle.gp_command.specs.Views.{DraftView}
use Rattle.gp_words.specs.Tokens.{tokens_of}
use Rattle.gp_command.proofs.Truth.{iff_true}
use Rattle.gp_store.specs.declared.op.Op.{Op}
use Rattle.gp_store.specs.declared.op.Op.TheVariants.{Put, Add, Get, Del, Cas, Copy, Checkpoint}
use Rattle.gp_store.specs.Operations.{IsOp, is_checkpoint, op_text, op_foot, touch, copy_foot, draft_for}
use Rattle.gp_store.specs.Forms.{op_spelled}
use Rattle.gp_store.specs.Drafts.{same_draft, op_of}
use Rattle.gp_store.specs.DraftEquality.{tied, tied_drafts, drafts_equal, drafted}
use Rattle.gp_store.proofs.SpellingLemmas.{text_short}
use Rattle.gp_store.proofs.ReadingLemmas.{text_spells, spelled_read}

-- ---- equal drafts

pub same_itself : (d : DraftView) → same_draft d d ≡ true
same_itself d = (eq_by_cmp_equiv draft_cmp_total).refl d

abbrev touching_one : Touch → DraftView
touching_one t = record { checkpoint = false; foot = t ∷ []; body = [] }

touches_equal : (t u : Touch) → eq_by_cmp touch_cmp t u ≡ true → t ≡ u
touches_equal t u h =
    let same = tied_drafts (touching_one t) (touching_one u) (rw (tied (touch_cmp t u) h) refl) in
    let feet = ap (λ (d : DraftView). d.foot) same in
    cc

touch_itself : (t u : Touch) → t ≡ u → eq_by_cmp touch_cmp t u ≡ true
touch_itself t u e = rw (← e) ((eq_by_cmp_equiv touch_cmp_total).refl t)

feet_decided : (a b : List Touch) (t : Bool) → t ≡ pointwise (eq_by_cmp touch_cmp) a b → Decides t (a ≡ b)
feet_decided a b t e = slice_eq-Decides (λ t u. (touches_equal t u, touch_itself t u)) a b t e

-- drafts with one mark and one body are equal where their touches are
pub same_by_foot : (d e : DraftView) (t : Bool) → d.body ≡ e.body → d.checkpoint ≡ e.checkpoint → t ≡ pointwise (eq_by_cmp touch_cmp) d.foot e.foot → t ≡ same_draft d e
same_by_foot d e t body mark h =
    let feet = feet_decided d.foot e.foot t h in
    let equal : t ≡ true → d ≡ e = λ yes. λ i. record { checkpoint = mark i; foot = feet.0 yes i; body = body i } in
    iff_true t (same_draft d e) (λ yes. rw (← equal yes) (same_itself d)) (λ yes. feet.1 (ap (λ (d : DraftView). d.foot) (drafts_equal d e yes)))

-- ---- the operation of a draft

-- the draft of an operation is of that operation
pub op_again : (op : Op) → IsOp op → op_of (draft_for op) ≡ Some op
unfolding op_of
op_again op r = rw (text_spells op r, same_itself (draft_for op)) refl

-- what is found in a draft is the operation whose draft it is
pub op_found : (d : DraftView) (op : Op) → op_of d ≡ Some op → (d ≡ draft_for op) × IsOp op
unfolding op_of
op_found d op e =
    let found = drafted d (op_spelled (tokens_of d.body)) op e in
    (found.1, (spelled_read (tokens_of d.body) op found.0).1)

-- no draft is of two operations
pub ops_apart : (a b : Op) → IsOp a → IsOp b → draft_for a ≡ draft_for b → a ≡ b
ops_apart a b x y e = let both = sym (op_again a x) ∙ ap op_of e ∙ op_again b y in cc

-- ---- the ranges of a draft

bare : (op : Op) → is_checkpoint op ≡ true → op_foot op ≡ []
bare (Put key value) e = absurd cc
bare (Add key value) e = absurd cc
bare (Get key) e = absurd cc
bare (Del key) e = absurd cc
bare (Cas key old new) e = absurd cc
bare (Copy from into) e = absurd cc
bare Checkpoint e = refl

copy_few : (o : Ordering) (from into : List ℕ) → length (copy_foot o from into) ≤ 2
copy_few Less from into = omega arith
copy_few Equal from into = omega arith
copy_few Greater from into = omega arith

-- an operation touches two keys at most
pub foot_few : (op : Op) → length (op_foot op) ≤ 2
foot_few (Put key value) = omega arith
foot_few (Add key value) = omega arith
foot_few (Get key) = omega arith
foot_few (Del key) = omega arith
foot_few (Cas key old new) = omega arith
foot_few (Copy from into) = copy_few (key_cmp from into) from into
foot_few Checkpoint = omega arith

copy_sorted : (o : Ordering) (from into : List ℕ) → key_cmp from into ≡ o → first_unsorted (copy_foot o from into) ≡ None
copy_sorted Less from into e = rw e refl
copy_sorted Equal from into e = refl
copy_sorted Greater from into e = rw (key_cmp_total.antisymm into from ∙ ap ordering_reverse e) refl

-- and it touches them in ascending order
pub foot_sorted : (op : Op) → first_unsorted (op_foot op) ≡ None
foot_sorted (Put key value) = refl
foot_sorted (Add key value) = refl
foot_sorted (Get key) = refl
foot_sorted (Del key) = refl
foot_sorted (Cas key old new) = refl
foot_sorted (Copy from into) = copy_sorted (key_cmp from into) from into refl
foot_sorted Checkpoint = refl

abbrev HaveKeys : List Touch → Type 0
HaveKeys foot = AllByRecursion (λ (t : Touch). is_key t.key ≡ true) foot

copy_keys : (o : Ordering) (from into : List ℕ) → IsTrue (is_key from) → IsTrue (is_key into) → HaveKeys (copy_foot o from into)
copy_keys Less from into x y = (x, (y, tt))
copy_keys Equal from into x y = (y, tt)
copy_keys Greater from into x y = (y, (x, tt))

foot_keys : (op : Op) → IsOp op → HaveKeys (op_foot op)
foot_keys (Put key value) r = (r.0, tt)
foot_keys (Add key value) r = (r.0, tt)
foot_keys (Get key) r = (r, tt)
foot_keys (Del key) r = (r, tt)
foot_keys (Cas key old new) r = (r.0, tt)
foot_keys (Copy from into) r = copy_keys (key_cmp from into) from into r.0 r.1
foot_keys Checkpoint r = tt

-- the draft of an operation is in the ranges of every draft
pub draft_in_range : (op : Op) → IsOp op → IsDraft (draft_for op)
draft_in_range op r = record {
  bare = bare op;
  few = let few = foot_few op in omega arith;
  sorted = foot_sorted op;
  keys = foot_keys op r;
  short = let short = text_short op r in omega arith;
}

pub body_fits : (body : List ℕ) → length body ≤ 64 → long_body body ≡ None
body_fits body le = rw (le-leb (length body) 64 le) refl

-- the body of a checkpoint is not refused
pub text_fits : (op : Op) → IsOp op → long_body (op_text op) ≡ None
text_fits op r = let short = text_short op r in body_fits (op_text op) (omega arith)

-- and the draft of an operation is not refused
pub draft_fits : (op : Op) → IsOp op → refusal (op_foot op) (op_text op) ≡ None
draft_fits op r =
    let few = foot_few op in
    rw (foot_sorted op, le-leb (length (op_foot op)) 8 (omega arith), text_fits op r) refl

-- ---- what `op_of` answers

pub answer_found : (d : DraftView) (r : Option Op) → r ≡ op_of d → IfSome r (λ op. IsOp op × (d ≡ draft_for op))
answer_found d None e = tt
answer_found d (Some op) e = let found = op_found d op (sym e) in (found.1, found.0)

pub answer_only : (d : DraftView) (r : Option Op) → r ≡ op_of d → (op : Op) → IsOp op → d ≡ draft_for op → r ≡ Some op
answer_only d r e op range is = e ∙ ap op_of is ∙ op_again op range

-- ---- copies

pub copy_alone : (key : List ℕ) → op_foot (Copy key key) ≡ touch key Write ∷ []
copy_alone key = ap (λ (o : Ordering). copy_foot o key key) (tied_itself key_cmp_total key)
