-- Operations whose footprints do not conflict commute, and so do commands that do not conflict.
use Rattle.std.proofs.Common.{◌≡◌, ◌≢◌, ℕ, Bool, true, false, not, ◌&&◌, ◌||◌, List, Option, Some, None, refl, sym, ap, ◌∙◌, arith}
use Rattle.std.specs.Prelude.{Contains}
use Rattle.std.specs.Cmp.{eq_by_cmp_equiv}
use Rattle.std.specs.List.{list_any}
use Rattle.std.proofs.lemmas.List.Folds.{list_any_at}
use Rattle.gp_command.specs.declared.touch.Access.{Access}
use Rattle.gp_command.specs.declared.touch.Access.TheVariants as access
use Rattle.gp_command.specs.declared.touch.Touch.{Touch}
use Rattle.gp_command.specs.declared.command.Command.{Command}
use Rattle.gp_command.specs.Key.{key_cmp_total}
use Rattle.gp_command.specs.Conflict.{same, is_clash, touches_clash, conflict}
use Rattle.gp_command.proofs.ConflictLemmas.{conflict_symm, same_symm}
use Rattle.gp_replica.specs.Machines.{Commute, AreIndependent, state_after}
use Rattle.gp_store.specs.declared.op.Op.{Op}
use Rattle.gp_store.specs.declared.op.Op.TheVariants.{Put, Add, Get, Del, Cas, Copy, Checkpoint}
use Rattle.gp_store.specs.Operations.{op_foot, touch}
use Rattle.gp_store.specs.Drafts.{op_of}
use Rattle.gp_store.specs.Pairs.{Pairs}
use Rattle.gp_store.specs.Effects.{effect, reply, effect_if_some, reply_if_some, store_rules}
use Rattle.gp_store.specs.DraftEquality.{op_drafted, copy_read, copy_written}
use Rattle.gp_store.specs.Changes.{same_key, tied_keys, turned, source, target, reply_untouched, AreApart, apart_commute, sums_commute}

-- some touch of the first conflicts with one of the second
abbrev pub do_clash : List Touch → List Touch → Bool
do_clash first second = list_any (λ t. list_any (touches_clash t) second) first

module _ {X : Type 0} (p : X → Bool) where
  fails_at : (xs : List X) (x : X) (b : Bool) → p x ≡ b → Contains xs x → list_any p xs ≡ false → b ≡ false
  fails_at xs x false e there none = refl
  fails_at xs x true e there none = absurd (let found = list_any_at p xs there.0 x there.1 (ap p there.2 ∙ e) in cc)

  fails : (xs : List X) (x : X) → Contains xs x → list_any p xs ≡ false → p x ≡ false
  fails xs x there none = fails_at xs x (p x) refl there none

first_fails : (a b : Bool) → (a && b) ≡ false → b ≡ true → a ≡ false
first_fails false b e h = refl
first_fails true b e h = absurd cc

-- if operations do not conflict, touches of them whose accesses conflict are of different keys
far : (first second : List Touch) (t u : Touch) → do_clash first second ≡ false → Contains first t → Contains second u → is_clash t.access u.access ≡ true → same_key t.key u.key ≡ false
far first second t u apart here there clash =
    let row = fails (λ (t : Touch). list_any (touches_clash t) second) first t here apart in
    first_fails (same_key t.key u.key) (is_clash t.access u.access) (fails (touches_clash t) second u there row) clash

-- ---- what operations touch

-- the access of an operation to its target
abbrev pub access_of : Op → Access
access_of (Put key value) = access.Write
access_of (Add key value) = access.Add
access_of (Get key) = access.Read
access_of (Del key) = access.Write
access_of (Cas key old new) = access.Write
access_of (Copy from into) = access.Write
access_of Checkpoint = access.Read

-- it may change its target
abbrev pub changes : Op → Bool
changes op = is_clash access.Read (access_of op)

pub target_touched : (op : Op) → changes op ≡ true → Contains (op_foot op) (touch (target op) (access_of op))
target_touched (Put key value) e = (0, omega arith, refl)
target_touched (Add key value) e = (0, omega arith, refl)
target_touched (Get key) e = absurd cc
target_touched (Del key) e = (0, omega arith, refl)
target_touched (Cas key old new) e = (0, omega arith, refl)
target_touched (Copy from into) e = copy_written from into
target_touched Checkpoint e = absurd cc

pub differ : (a b : List ℕ) → same_key a b ≡ false → a ≢ b
differ a b e same =
    let equal : same_key a a ≡ true = (eq_by_cmp_equiv key_cmp_total).refl a in
    absurd (let e = sym equal ∙ ap (same_key a) same ∙ e in cc)

-- a copy that does not conflict with an operation reads another key than the operation changes
copy_source_far : (from into : List ℕ) (b : Op) (s : Bool) → same_key from into ≡ s → changes b ≡ true → do_clash (op_foot (Copy from into)) (op_foot b) ≡ false → same_key into (target b) ≡ false → same_key from (target b) ≡ false
copy_source_far from into b true e writes apart targets = ap (λ (k : List ℕ). same_key k (target b)) (tied_keys from into e) ∙ targets
copy_source_far from into b false e writes apart targets =
    far (op_foot (Copy from into)) (op_foot b) (touch from access.Read) (touch (target b) (access_of b)) apart (copy_read from into (differ from into e)) (target_touched b writes) writes

source_far : (a b : Op) → changes a ≡ true → changes b ≡ true → do_clash (op_foot a) (op_foot b) ≡ false → same_key (target a) (target b) ≡ false → same_key (source a) (target b) ≡ false
source_far (Put key value) b x y apart targets = targets
source_far (Add key value) b x y apart targets = targets
source_far (Get key) b x y apart targets = targets
source_far (Del key) b x y apart targets = targets
source_far (Cas key old new) b x y apart targets = targets
source_far (Copy from into) b x y apart targets = copy_source_far from into b (same_key from into) refl y apart targets
source_far Checkpoint b x y apart targets = targets

-- ---- operations commute

-- both orders give the same pairs, and the second has the same reply without the first
pub record Swap (pairs : Pairs) (a b : Op) : Type 0 where
  pub state : effect (effect pairs a) b ≡ effect (effect pairs b) a
  pub reply : reply (effect pairs a) b ≡ reply pairs b

pub still : (pairs : Pairs) (op : Op) → changes op ≡ false → effect pairs op ≡ pairs
still pairs (Put key value) e = absurd cc
still pairs (Add key value) e = absurd cc
still pairs (Get key) e = refl
still pairs (Del key) e = absurd cc
still pairs (Cas key old new) e = absurd cc
still pairs (Copy from into) e = absurd cc
still pairs Checkpoint e = refl

-- the reply of an operation that changes nothing is the same after an operation that does not conflict with it
still_reply : (pairs : Pairs) (a b : Op) → changes a ≡ true → changes b ≡ false → do_clash (op_foot b) (op_foot a) ≡ false → reply (effect pairs a) b ≡ reply pairs b
still_reply pairs a (Put key value) x y apart = absurd cc
still_reply pairs a (Add key value) x y apart = absurd cc
still_reply pairs a (Get key) x y apart =
    reply_untouched pairs a (Get key) (far (op_foot (Get key)) (op_foot a) (touch key access.Read) (touch (target a) (access_of a)) apart (0, omega arith, refl) (target_touched a x) x)
still_reply pairs a (Del key) x y apart = absurd cc
still_reply pairs a (Cas key old new) x y apart = absurd cc
still_reply pairs a (Copy from into) x y apart = absurd cc
still_reply pairs a Checkpoint x y apart = refl

swap_first_still : (pairs : Pairs) (a b : Op) → changes a ≡ false → Swap pairs a b
swap_first_still pairs a b x = record {
  state = ap (λ (p : Pairs). effect p b) (still pairs a x) ∙ sym (still (effect pairs b) a x);
  reply = ap (λ (p : Pairs). reply p b) (still pairs a x);
}

swap_second_still : (pairs : Pairs) (a b : Op) → changes a ≡ true → changes b ≡ false → do_clash (op_foot b) (op_foot a) ≡ false → Swap pairs a b
swap_second_still pairs a b x y apart = record {
  state = still (effect pairs a) b y ∙ ap (λ (p : Pairs). effect p a) (sym (still pairs b y));
  reply = still_reply pairs a b x y apart;
}

swap_apart : (pairs : Pairs) (a b : Op) → AreApart a b → Swap pairs a b
swap_apart pairs a b h = record { state = apart_commute pairs a b h; reply = reply_untouched pairs a b h.second }

swap_changes : (pairs : Pairs) (a b : Op) → changes a ≡ true → changes b ≡ true → do_clash (op_foot a) (op_foot b) ≡ false → do_clash (op_foot b) (op_foot a) ≡ false → same_key (target a) (target b) ≡ false → Swap pairs a b
swap_changes pairs a b x y apart back targets = swap_apart pairs a b (record {
  targets = targets;
  first = source_far a b x y apart targets;
  second = source_far b a y x back (turned (target a) (target b) targets);
})

swap_sums : (pairs : Pairs) (k : List ℕ) (v : ℕ) (j : List ℕ) (w : ℕ) (s : Bool) → same_key k j ≡ s → Swap pairs (Add k v) (Add j w)
swap_sums pairs k v j w false e = swap_apart pairs (Add k v) (Add j w) (record { targets = e; first = e; second = turned k j e })
swap_sums pairs k v j w true e = record {
  state = rw (← tied_keys k j e) (sums_commute pairs k v w);
  reply = refl;
}

-- accesses of operations that change their targets conflict, except those of two additions
swap_no_clash : (pairs : Pairs) (a b : Op) → changes a ≡ true → changes b ≡ true → is_clash (access_of a) (access_of b) ≡ false → Swap pairs a b
swap_no_clash pairs (Add k v) (Add j w) x y e = swap_sums pairs k v j w (same_key k j) refl
swap_no_clash pairs a b x y e = absurd cc

swap_by : (pairs : Pairs) (a b : Op) (x y c : Bool) → changes a ≡ x → changes b ≡ y → is_clash (access_of a) (access_of b) ≡ c → do_clash (op_foot a) (op_foot b) ≡ false → do_clash (op_foot b) (op_foot a) ≡ false → Swap pairs a b
swap_by pairs a b false y c ex ey ec apart back = swap_first_still pairs a b ex
swap_by pairs a b true false c ex ey ec apart back = swap_second_still pairs a b ex ey back
swap_by pairs a b true true true ex ey ec apart back =
    swap_changes pairs a b ex ey apart back (far (op_foot a) (op_foot b) (touch (target a) (access_of a)) (touch (target b) (access_of b)) apart (target_touched a ex) (target_touched b ey) ec)
swap_by pairs a b true true false ex ey ec apart back = swap_no_clash pairs a b ex ey ec

-- operations whose footprints do not conflict commute
pub operations_commute : (pairs : Pairs) (a b : Op) → do_clash (op_foot a) (op_foot b) ≡ false → do_clash (op_foot b) (op_foot a) ≡ false → Swap pairs a b
operations_commute pairs a b apart back = swap_by pairs a b (changes a) (changes b) (is_clash (access_of a) (access_of b)) refl refl refl apart back

-- ---- commands commute

last_false : (a b c : Bool) → (a || (b || c)) ≡ false → c ≡ false
last_false false false c e = e
last_false false true c e = absurd cc
last_false true b c e = absurd cc

no_clash : (c d : Command) → same c d ≡ false → conflict c d ≡ false → do_clash c.draft.foot d.draft.foot ≡ false
unfolding conflict
no_clash c d apart none =
    let clash = do_clash c.draft.foot d.draft.foot in
    last_false c.draft.checkpoint d.draft.checkpoint clash (sym (ap (λ (b : Bool). not b && (c.draft.checkpoint || (d.draft.checkpoint || clash))) apart) ∙ none)

feet_apart : (c d : Command) (a b : Op) → op_of c.draft ≡ Some a → op_of d.draft ≡ Some b → same c d ≡ false → conflict c d ≡ false → do_clash (op_foot a) (op_foot b) ≡ false
feet_apart c d a b ea eb apart none =
    let first = op_drafted c.draft a ea in
    let second = op_drafted d.draft b eb in
    sym (λ i. do_clash (first i).foot (second i).foot) ∙ no_clash c d apart none

-- the same for operations that may be missing
swap_options : (pairs : Pairs) (a b : Option Op) → ((x y : Op) → a ≡ Some x → b ≡ Some y → Swap pairs x y) → (effect_if_some (effect_if_some pairs a) b ≡ effect_if_some (effect_if_some pairs b) a) × (reply_if_some (effect_if_some pairs a) b ≡ reply_if_some pairs b)
swap_options pairs None None h = (refl, refl)
swap_options pairs None (Some y) h = (refl, refl)
swap_options pairs (Some x) None h = (refl, refl)
swap_options pairs (Some x) (Some y) h = let swap = h x y refl refl in (swap.state, swap.reply)

-- commands that do not conflict commute
pub commands_commute : (pairs : Pairs) (c d : Command) → same c d ≡ false → conflict c d ≡ false → Commute store_rules pairs c d
commands_commute pairs c d apart none =
    let both = swap_options pairs (op_of c.draft) (op_of d.draft) (λ x y ex ey. operations_commute pairs x y (feet_apart c d x y ex ey apart none) (feet_apart d c y x ey ex (same_symm d c ∙ apart) (conflict_symm d c ∙ none))) in
    record { state = both.0; reply = both.1 }

pub independent : AreIndependent store_rules
independent cs c d apart none = commands_commute (state_after store_rules cs) c d apart none
