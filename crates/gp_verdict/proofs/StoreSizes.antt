-- How much a key store holds and replies.
use Rattle.std.proofs.Common.{◌≡◌, ℕ, ◌+◌, ◌<◌, ◌≤◌, ◌^◌, ◌%◌, Bool, true, false, cond, not, List, [], ◌∷◌, length, Option, Some, None, Ordering, Less, Equal, Greater, refl, sym, ap, subst, ◌∙◌, arith, inl, inr}
use Rattle.std.specs.Prelude.{nat_le, ◌&&◌}
use Rattle.std.specs.List.{list_all}
use Rattle.std.specs.Ordering.{eq_by_cmp}
use Rattle.std.specs.FinMap.{empty, entries, insert, remove, from_sorted, entries-insert, entries-from_sorted, get-from_sorted, get-entries, get-remove, get-empty, same_map, nat_cmp-IsAntisymmetric, slice_cmp-IsAntisymmetric}
use Rattle.std.specs.FinMap.Entries.{by_order, put, where_key, find, is_sorted-where_key, find-where_key}
use Rattle.std.specs.FinMap.{entries_sorted}
use Rattle.std.proofs.Math.Nat.{mod-lt}
use Rattle.std.proofs.lemmas.Bool.{and_parts, leb-true}
use Rattle.gp_command.specs.declared.command.Command.{Command}
use Rattle.gp_command.specs.Key.{key_cmp, key_cmp_total, is_key, is_key_byte}
use Rattle.gp_words.proofs.NumberLemmas.{decimal_short}
use Rattle.gp_store.specs.declared.op.Op.{Op}
use Rattle.gp_store.specs.declared.op.Op.TheVariants.{Put, Add, Get, Del, Cas, Copy, Checkpoint}
use Rattle.gp_store.specs.Operations.{IsOp}
use Rattle.gp_store.specs.Drafts.{op_of}
use Rattle.gp_store.specs.Pairs.{Pairs, value_at, count_at}
use Rattle.gp_store.specs.Effects.{is_value, put_found, effect, reply, shown, done_if_there, effect_if_some, reply_if_some, after_command, reply_to_command, store_rules}
use Rattle.gp_store.proofs.DraftLemmas.{op_found}
use Rattle.gp_replica.specs.declared.reply.Reply.TheVariants.{Yes, No}
use Rattle.gp_replica.specs.Machines.{state_from}
use Rattle.gp_report.specs.Texts.{reply_text}
use Rattle.gp_script.proofs.Steps.{some_or_else}

-- ---- pairs

key_short : (key : List ℕ) → is_key key ≡ true → length key ≤ 16
key_short key e =
    let sized = and_parts (nat_le 1 (length key) && nat_le (length key) 16) (list_all is_key_byte key) e in
    leb-true (length key) 16 (and_parts (nat_le 1 (length key)) (nat_le (length key) 16) sized.0).1

-- a key has at most 16 bytes, and a value 64 bits
abbrev pub AreSmall : List (List ℕ × ℕ) → Type 0
AreSmall [] = Unit {0}
AreSmall (pair ∷ pairs) = ((length pair.0 ≤ 16) × (pair.1 < 2 ^ 64)) × AreSmall pairs

order_small : (o : Ordering) (a b c : List (List ℕ × ℕ)) → AreSmall a → AreSmall b → AreSmall c → AreSmall (by_order o a b c)
order_small Less a b c x y z = x
order_small Equal a b c x y z = y
order_small Greater a b c x y z = z

order_few : (o : Ordering) (a b c : List (List ℕ × ℕ)) (n : ℕ) → length a ≤ n → length b ≤ n → length c ≤ n → length (by_order o a b c) ≤ n
order_few Less a b c n x y z = x
order_few Equal a b c n x y z = y
order_few Greater a b c n x y z = z

put_small : (key : List ℕ) (value : ℕ) (es : List (List ℕ × ℕ)) → length key ≤ 16 → value < 2 ^ 64 → AreSmall es → AreSmall (put key_cmp key value es)
put_small key value [] short low all = ((short, low), tt)
put_small key value (e ∷ es) short low all =
    order_small (key_cmp key e.0) ((key, value) ∷ e ∷ es) ((e.0, value) ∷ es) (e ∷ put key_cmp key value es)
    ((short, low), all) ((all.0.0, low), all.1) (all.0, put_small key value es short low all.1)

put_few : (key : List ℕ) (value : ℕ) (es : List (List ℕ × ℕ)) → length (put key_cmp key value es) ≤ length es + 1
put_few key value [] = omega arith
put_few key value (e ∷ es) =
    let rest = put_few key value es in
    order_few (key_cmp key e.0) ((key, value) ∷ e ∷ es) ((e.0, value) ∷ es) (e ∷ put key_cmp key value es) (length (e ∷ es) + 1) (omega arith) (omega arith) (omega (arith, rest))

kept_small : (stays : Bool) (e : List ℕ × ℕ) (es : List (List ℕ × ℕ)) → AreSmall (e ∷ es) → AreSmall (cond stays (e ∷ es) es)
kept_small true e es all = all
kept_small false e es all = all.1

where_small : (p : List ℕ → Bool) (es : List (List ℕ × ℕ)) → AreSmall es → AreSmall (where_key key_cmp p es)
where_small p [] all = tt
where_small p (e ∷ es) all = kept_small (p e.0) e (where_key key_cmp p es) (all.0, where_small p es all.1)

kept_few : (stays : Bool) (e : List ℕ × ℕ) (es : List (List ℕ × ℕ)) → length (cond stays (e ∷ es) es) ≤ length es + 1
kept_few true e es = omega arith
kept_few false e es = omega arith

where_few : (p : List ℕ → Bool) (es : List (List ℕ × ℕ)) → length (where_key key_cmp p es) ≤ length es
where_few p [] = omega arith
where_few p (e ∷ es) = let rest = where_few p es in let one = kept_few (p e.0) e (where_key key_cmp p es) in omega (arith, rest, one)

find_small : (key : List ℕ) (es : List (List ℕ × ℕ)) (value : ℕ) → AreSmall es → find key_cmp key es ≡ Some value → value < 2 ^ 64
find_small key [] value all e = absurd cc
find_small key (pair ∷ es) value all e = elim (some_or_else (eq_by_cmp key_cmp key pair.0) pair.1 value (find key_cmp key es) e) [
  | inl is ↦ subst (λ n. n < 2 ^ 64) is.1 all.0.1
  | inr rest ↦ find_small key es value all.1 rest
]

-- ---- what a removal leaves

other_key : List ℕ → List ℕ → Bool
other_key key q = not (eq_by_cmp key_cmp q key)

unless : (b : Bool) (found : Option ℕ) → cond (not b) found None ≡ cond b None found
unless true found = refl
unless false found = refl

removed : (pairs : Pairs) (key : List ℕ) → entries (remove pairs key) ≡ where_key key_cmp (other_key key) (entries pairs)
unfolding other_key
removed pairs key =
    let rest = where_key key_cmp (other_key key) (entries pairs) in
    let sorted = is_sorted-where_key key_cmp (other_key key) (entries pairs) (entries_sorted pairs) in
    let apart = slice_cmp-IsAntisymmetric nat_cmp-IsAntisymmetric in
    let same : remove pairs key ≡ from_sorted {R = key_cmp} rest =
    same_map key_cmp_total apart (remove pairs key) (from_sorted {R = key_cmp} rest) (λ q.
    get-remove key_cmp_total pairs key q ∙ sym (get-from_sorted key_cmp rest q sorted
    ∙ find-where_key key_cmp (other_key key) q (λ x tie. ap (other_key key) (sym (apart q x tie))) (entries pairs)
    ∙ unless (eq_by_cmp key_cmp q key) (find key_cmp q (entries pairs)) ∙ ap (cond (eq_by_cmp key_cmp q key) None) (sym (get-entries pairs q)))) in
    ap entries same ∙ entries-from_sorted key_cmp rest sorted

-- ---- states

-- the pairs are small, and no more than this
pub record IsBounded (pairs : Pairs) (most : ℕ) : Type 0 where
  pub small : AreSmall (entries pairs)
  pub few : length (entries pairs) ≤ most

one_more : (pairs : Pairs) (most : ℕ) → IsBounded pairs most → IsBounded pairs (most + 1)
one_more pairs most b = let n = b.few in record { small = b.small; few = omega (arith, n) }

insert_bounded : (pairs : Pairs) (most : ℕ) (key : List ℕ) (value : ℕ) → IsBounded pairs most → length key ≤ 16 → value < 2 ^ 64 → IsBounded (insert pairs key value) (most + 1)
insert_bounded pairs most key value b short low =
    let is = entries-insert key_cmp_total pairs key value in
    let n = b.few in
    let grown = put_few key value (entries pairs) in
    let size = ap length is in
    record { small = subst AreSmall (sym is) (put_small key value (entries pairs) short low b.small); few = omega (arith, n, grown, size) }

remove_bounded : (pairs : Pairs) (most : ℕ) (key : List ℕ) → IsBounded pairs most → IsBounded (remove pairs key) (most + 1)
remove_bounded pairs most key b =
    let is = removed pairs key in
    let n = b.few in
    let left = where_few (other_key key) (entries pairs) in
    let size = ap length is in
    record { small = subst AreSmall (sym is) (where_small (other_key key) (entries pairs) b.small); few = omega (arith, n, left, size) }

value_small : (pairs : Pairs) (most : ℕ) (key : List ℕ) (value : ℕ) → IsBounded pairs most → value_at pairs key ≡ Some value → value < 2 ^ 64
value_small pairs most key value b e = find_small key (entries pairs) value b.small (sym (get-entries pairs key) ∙ e)

put_if : (yes_it_is : Bool) (pairs : Pairs) (most : ℕ) (key : List ℕ) (value : ℕ) → IsBounded pairs most → length key ≤ 16 → value < 2 ^ 64 → IsBounded (cond yes_it_is (insert pairs key value) pairs) (most + 1)
put_if true pairs most key value b short low = insert_bounded pairs most key value b short low
put_if false pairs most key value b short low = one_more pairs most b

copy_bounded : (pairs : Pairs) (most : ℕ) (from into : List ℕ) (found : Option ℕ) → value_at pairs from ≡ found → IsBounded pairs most → length into ≤ 16 → IsBounded (put_found pairs into found) (most + 1)
copy_bounded pairs most from into None e b short = one_more pairs most b
copy_bounded pairs most from into (Some value) e b short = insert_bounded pairs most into value b short (value_small pairs most from value b e)

effect_bounded : (pairs : Pairs) (most : ℕ) (op : Op) → IsOp op → IsBounded pairs most → IsBounded (effect pairs op) (most + 1)
effect_bounded pairs most (Put key value) is b = insert_bounded pairs most key value b (key_short key is.0) is.1
effect_bounded pairs most (Add key value) is b = insert_bounded pairs most key ((count_at pairs key + value) % 2 ^ 64) b (key_short key is.0) (mod-lt (count_at pairs key + value) (omega arith))
effect_bounded pairs most (Get key) is b = one_more pairs most b
effect_bounded pairs most (Del key) is b = remove_bounded pairs most key b
effect_bounded pairs most (Cas key old new) is b = put_if (is_value (value_at pairs key) old) pairs most key new b (key_short key is.0) is.2
effect_bounded pairs most (Copy from into) is b = copy_bounded pairs most from into (value_at pairs from) refl b (key_short into is.1)
effect_bounded pairs most Checkpoint is b = one_more pairs most b

found_bounded : (pairs : Pairs) (most : ℕ) (command : Command) (found : Option Op) → op_of command.draft ≡ found → IsBounded pairs most → IsBounded (effect_if_some pairs found) (most + 1)
found_bounded pairs most command None e b = one_more pairs most b
found_bounded pairs most command (Some op) e b = effect_bounded pairs most op (op_found command.draft op e).1 b

pub after_bounded : (pairs : Pairs) (most : ℕ) (command : Command) → IsBounded pairs most → IsBounded (after_command pairs command) (most + 1)
after_bounded pairs most command b = found_bounded pairs most command (op_of command.draft) refl b

pub state_bounded : (commands : List Command) (pairs : Pairs) (most : ℕ) → IsBounded pairs most → IsBounded (state_from store_rules pairs commands) (most + length commands)
state_bounded [] pairs most b = let n = b.few in record { small = b.small; few = omega (arith, n) }
state_bounded (command ∷ commands) pairs most b =
    let s = state_bounded commands (after_command pairs command) (most + 1) (after_bounded pairs most command b) in
    let n = s.few in
    record { small = s.small; few = omega (arith, n) }

pub empty_bounded : IsBounded empty 0
empty_bounded = record { small = subst AreSmall (sym nothing) tt; few = let size = ap length nothing in omega (arith, size) }
  where
    nothing : entries {X = ℕ} {R = key_cmp} empty ≡ []
    nothing = ap entries (sym empty_is) ∙ entries-from_sorted key_cmp [] tt
      where
        empty_is : from_sorted {X = ℕ} {R = key_cmp} [] ≡ empty
        empty_is = same_map key_cmp_total (slice_cmp-IsAntisymmetric nat_cmp-IsAntisymmetric) (from_sorted {R = key_cmp} []) empty (λ q. get-from_sorted key_cmp [] q tt ∙ sym (get-empty key_cmp q))

-- ---- replies

shown_short : (found : Option ℕ) → ((value : ℕ) → found ≡ Some value → value < 2 ^ 64) → length (reply_text (shown found)) ≤ 20
shown_short None small = omega arith
shown_short (Some value) small = decimal_short value (small value refl)

done_short : (found : Option ℕ) → length (reply_text (done_if_there found)) ≤ 20
done_short None = omega arith
done_short (Some value) = omega arith

choice_short : (b : Bool) → length (reply_text (cond b Yes No)) ≤ 20
choice_short true = omega arith
choice_short false = omega arith

reply_short : (pairs : Pairs) (most : ℕ) (op : Op) → IsBounded pairs most → length (reply_text (reply pairs op)) ≤ 20
reply_short pairs most (Put key value) b = omega arith
reply_short pairs most (Add key value) b = omega arith
reply_short pairs most (Get key) b = shown_short (value_at pairs key) (λ value e. value_small pairs most key value b e)
reply_short pairs most (Del key) b = done_short (value_at pairs key)
reply_short pairs most (Cas key old new) b = choice_short (is_value (value_at pairs key) old)
reply_short pairs most (Copy from into) b = done_short (value_at pairs from)
reply_short pairs most Checkpoint b = omega arith

found_short : (pairs : Pairs) (most : ℕ) (found : Option Op) → IsBounded pairs most → length (reply_text (reply_if_some pairs found)) ≤ 20
found_short pairs most None b = omega arith
found_short pairs most (Some op) b = reply_short pairs most op b

pub command_short : (pairs : Pairs) (most : ℕ) (command : Command) → IsBounded pairs most → length (reply_text (reply_to_command pairs command)) ≤ 20
command_short pairs most command b = found_short pairs most (op_of command.draft) b
