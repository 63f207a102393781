-- What an operation changes and reads: it reads one key, and changes at most one key.
use Rattle.std.proofs.Common.{◌≡◌, ℕ, ◌+◌, ◌%◌, ◌^◌, Bool, true, false, cond, List, [], Option, Some, None, refl, sym, ap, ◌∙◌, arith}
use Rattle.std.specs.Prelude.{unwrap_or}
use Rattle.std.specs.FinMap.{insert, get-insert, get-remove, same_map, slice_cmp-IsAntisymmetric, nat_cmp-IsAntisymmetric}
use Rattle.std.specs.Ordering.{eq_by_cmp}
use Rattle.std.specs.Cmp.{eq_by_cmp_equiv}
use Rattle.std.proofs.lemmas.Map.Views.{tells_apart}
use Rattle.std.proofs.Math.Nat.{mod-add-mod}
use Rattle.std.specs.Option.{option_or}
use Rattle.gp_command.specs.Key.{key_cmp, key_cmp_total}
use Rattle.gp_replica.specs.declared.reply.Reply.{Reply}
use Rattle.gp_replica.specs.declared.reply.Reply.TheVariants.{Done, Yes, No}
use Rattle.gp_store.specs.declared.op.Op.{Op}
use Rattle.gp_store.specs.declared.op.Op.TheVariants.{Put, Add, Get, Del, Cas, Copy, Checkpoint}
use Rattle.gp_store.specs.Pairs.{Pairs, value_at, count_at}
use Rattle.gp_store.specs.Effects.{effect, reply, is_value, put_found, shown, done_if_there}

-- pairs with the same value at each key are equal
pub same_pairs : (a b : Pairs) → ((key : List ℕ) → value_at a key ≡ value_at b key) → a ≡ b
same_pairs = same_map key_cmp_total (slice_cmp-IsAntisymmetric nat_cmp-IsAntisymmetric)

abbrev pub same_key : List ℕ → List ℕ → Bool
same_key = eq_by_cmp key_cmp

-- the key that an operation reads
abbrev pub source : Op → List ℕ
source (Put key value) = key
source (Add key value) = key
source (Get key) = key
source (Del key) = key
source (Cas key old new) = key
source (Copy from into) = from
source Checkpoint = []

-- the key whose value it may change
abbrev pub target : Op → List ℕ
target (Put key value) = key
target (Add key value) = key
target (Get key) = key
target (Del key) = key
target (Cas key old new) = key
target (Copy from into) = into
target Checkpoint = []

-- what is at the target after the operation, given what was at the source and at the target
abbrev pub written : Op → Option ℕ → Option ℕ → Option ℕ
written (Put key value) read kept = Some value
written (Add key value) read kept = Some ((unwrap_or kept 0 + value) % 2 ^ 64)
written (Get key) read kept = kept
written (Del key) read kept = None
written (Cas key old new) read kept = cond (is_value read old) (Some new) kept
written (Copy from into) read kept = option_or read kept
written Checkpoint read kept = kept

-- what it replies, given what was at the source
abbrev pub answered : Op → Option ℕ → Reply
answered (Put key value) read = Done
answered (Add key value) read = Done
answered (Get key) read = shown read
answered (Del key) read = done_if_there read
answered (Cas key old new) read = cond (is_value read old) Yes No
answered (Copy from into) read = done_if_there read
answered Checkpoint read = Done

pub reply_by_source : (pairs : Pairs) (op : Op) → reply pairs op ≡ answered op (value_at pairs (source op))
reply_by_source pairs (Put key value) = refl
reply_by_source pairs (Add key value) = refl
reply_by_source pairs (Get key) = refl
reply_by_source pairs (Del key) = refl
reply_by_source pairs (Cas key old new) = refl
reply_by_source pairs (Copy from into) = refl
reply_by_source pairs Checkpoint = refl

-- ---- equal keys

pub tied_keys : (a b : List ℕ) → same_key a b ≡ true → a ≡ b
tied_keys a b = tells_apart (slice_cmp-IsAntisymmetric nat_cmp-IsAntisymmetric) a b

pub turned : (a b : List ℕ) → same_key a b ≡ false → same_key b a ≡ false
turned a b e = (eq_by_cmp_equiv key_cmp_total).symm b a ∙ e

put_value : (pairs : Pairs) (key : List ℕ) (value : ℕ) (q : List ℕ) → value_at (insert pairs key value) q ≡ cond (same_key q key) (Some value) (value_at pairs q)
put_value pairs key value q = get-insert key_cmp_total pairs key value q

-- the value at an equal key is the same
kept_value : (pairs : Pairs) (q key : List ℕ) (b : Bool) → same_key q key ≡ b → value_at pairs q ≡ cond b (value_at pairs key) (value_at pairs q)
kept_value pairs q key true e = ap (value_at pairs) (tied_keys q key e)
kept_value pairs q key false e = refl

cas_value : (pairs : Pairs) (key : List ℕ) (new : ℕ) (q : List ℕ) (b : Bool) → value_at (cond b (insert pairs key new) pairs) q ≡ cond (same_key q key) (cond b (Some new) (value_at pairs key)) (value_at pairs q)
cas_value pairs key new q true = put_value pairs key new q
cas_value pairs key new q false = kept_value pairs q key (same_key q key) refl

copy_value : (pairs : Pairs) (into : List ℕ) (q : List ℕ) (read : Option ℕ) → value_at (put_found pairs into read) q ≡ cond (same_key q into) (option_or read (value_at pairs into)) (value_at pairs q)
copy_value pairs into q None = kept_value pairs q into (same_key q into) refl
copy_value pairs into q (Some found) = put_value pairs into found q

-- what is at each key after an operation
pub value_behind : (pairs : Pairs) (op : Op) (q : List ℕ) → value_at (effect pairs op) q ≡ cond (same_key q (target op)) (written op (value_at pairs (source op)) (value_at pairs (target op))) (value_at pairs q)
value_behind pairs (Put key value) q = put_value pairs key value q
value_behind pairs (Add key value) q = put_value pairs key ((count_at pairs key + value) % 2 ^ 64) q
value_behind pairs (Get key) q = kept_value pairs q key (same_key q key) refl
value_behind pairs (Del key) q = get-remove key_cmp_total pairs key q
value_behind pairs (Cas key old new) q = cas_value pairs key new q (is_value (value_at pairs key) old)
value_behind pairs (Copy from into) q = copy_value pairs into q (value_at pairs from)
value_behind pairs Checkpoint q = kept_value pairs q [] (same_key q []) refl

-- no other key than the target is changed
pub untouched : (pairs : Pairs) (op : Op) (q : List ℕ) → same_key q (target op) ≡ false → value_at (effect pairs op) q ≡ value_at pairs q
untouched pairs op q e = value_behind pairs op q ∙ ap (λ (b : Bool). cond b (written op (value_at pairs (source op)) (value_at pairs (target op))) (value_at pairs q)) e

-- so a reply stays the same if another key is changed
pub reply_untouched : (pairs : Pairs) (a b : Op) → same_key (source b) (target a) ≡ false → reply (effect pairs a) b ≡ reply pairs b
reply_untouched pairs a b e = reply_by_source (effect pairs a) b ∙ ap (answered b) (untouched pairs a (source b) e) ∙ sym (reply_by_source pairs b)

-- ---- operations apart

-- neither changes the key that the other reads or changes
pub record AreApart (a b : Op) : Type 0 where
  pub targets : same_key (target a) (target b) ≡ false
  pub first : same_key (source a) (target b) ≡ false
  pub second : same_key (source b) (target a) ≡ false

-- what the operation leaves at its target
abbrev left : Pairs → Op → Option ℕ
left pairs op = written op (value_at pairs (source op)) (value_at pairs (target op))

behind_both : (pairs : Pairs) (a b : Op) (q : List ℕ) → same_key (source b) (target a) ≡ false → same_key (target b) (target a) ≡ false → value_at (effect (effect pairs a) b) q ≡ cond (same_key q (target b)) (left pairs b) (cond (same_key q (target a)) (left pairs a) (value_at pairs q))
behind_both pairs a b q read changed =
    value_behind (effect pairs a) b q
    ∙ (λ i. cond (same_key q (target b)) (written b (untouched pairs a (source b) read i) (untouched pairs a (target b) changed i)) (value_behind pairs a q i))

either_first : (s t : Bool) (x y z : Option ℕ) → (s ≡ true → t ≡ true → ⊥) → cond s x (cond t y z) ≡ cond t y (cond s x z)
either_first true true x y z apart = absurd (apart refl refl)
either_first true false x y z apart = refl
either_first false t x y z apart = refl

not_both : (q a b : List ℕ) → same_key a b ≡ false → same_key q a ≡ true → same_key q b ≡ true → ⊥
not_both q a b differ here there =
    let same = sym (tied_keys q a here) ∙ tied_keys q b there in
    let equal : same_key a a ≡ true = (eq_by_cmp_equiv key_cmp_total).refl a in
    absurd (let e = sym equal ∙ ap (same_key a) same ∙ differ in cc)

pub apart_commute : (pairs : Pairs) (a b : Op) → AreApart a b → effect (effect pairs a) b ≡ effect (effect pairs b) a
apart_commute pairs a b h = same_pairs (effect (effect pairs a) b) (effect (effect pairs b) a) (λ q.
    behind_both pairs a b q h.second (turned (target a) (target b) h.targets)
    ∙ either_first (same_key q (target b)) (same_key q (target a)) (left pairs b) (left pairs a) (value_at pairs q) (λ s t. not_both q (target a) (target b) h.targets t s)
    ∙ sym (behind_both pairs b a q h.first h.targets))

-- ---- sums at one key

sum_twice : (count v w : ℕ) → ((count + v) % 2 ^ 64 + w) % 2 ^ 64 ≡ ((count + w) % 2 ^ 64 + v) % 2 ^ 64
sum_twice count v w =
    let turned : (count + v) + w ≡ (count + w) + v = omega arith in
    mod-add-mod (count + v) (2 ^ 64) w ∙ ap (λ (n : ℕ). n % 2 ^ 64) turned ∙ sym (mod-add-mod (count + w) (2 ^ 64) v)

same_test : (b : Bool) (x y z : Option ℕ) → cond b x (cond b y z) ≡ cond b x z
same_test true x y z = refl
same_test false x y z = refl

count_behind : (pairs : Pairs) (key : List ℕ) (v : ℕ) → count_at (effect pairs (Add key v)) key ≡ (count_at pairs key + v) % 2 ^ 64
count_behind pairs key v =
    ap (λ (o : Option ℕ). unwrap_or o 0) (value_behind pairs (Add key v) key
    ∙ ap (λ (b : Bool). cond b (Some ((count_at pairs key + v) % 2 ^ 64)) (value_at pairs key)) ((eq_by_cmp_equiv key_cmp_total).refl key))

behind_sums : (pairs : Pairs) (key : List ℕ) (v w : ℕ) (q : List ℕ) → value_at (effect (effect pairs (Add key v)) (Add key w)) q ≡ cond (same_key q key) (Some (((count_at pairs key + v) % 2 ^ 64 + w) % 2 ^ 64)) (value_at pairs q)
behind_sums pairs key v w q =
    value_behind (effect pairs (Add key v)) (Add key w) q
    ∙ (λ i. cond (same_key q key) (Some ((count_behind pairs key v i + w) % 2 ^ 64)) (value_behind pairs (Add key v) q i))
    ∙ same_test (same_key q key) (Some (((count_at pairs key + v) % 2 ^ 64 + w) % 2 ^ 64)) (Some ((count_at pairs key + v) % 2 ^ 64)) (value_at pairs q)

pub sums_commute : (pairs : Pairs) (key : List ℕ) (v w : ℕ) → effect (effect pairs (Add key v)) (Add key w) ≡ effect (effect pairs (Add key w)) (Add key v)
sums_commute pairs key v w = same_pairs (effect (effect pairs (Add key v)) (Add key w)) (effect (effect pairs (Add key w)) (Add key v)) (λ q.
    behind_sums pairs key v w q
    ∙ ap (λ (n : ℕ). cond (same_key q key) (Some n) (value_at pairs q)) (sum_twice (count_at pairs key) v w)
    ∙ sym (behind_sums pairs key w v q))
