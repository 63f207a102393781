-- Operations whose footprints do not conflict commute, and so do commands that do not conflict.
use Rattle.std.proofs.Common.{◌≡◌, ℕ, ◌+◌, ◌-◌, ◌^◌, Bool, true, false, not, ◌&&◌, ◌||◌, List, Option, Some, None, refl, sym, ap, ◌∙◌, inl, inr, ◌⊎◌, arith}
use Rattle.std.specs.Prelude.{Contains, unwrap_or, min, nat_le}
use Rattle.std.specs.Cmp.{eq_by_cmp_equiv}
use Rattle.std.specs.List.{list_any}
use Rattle.std.proofs.lemmas.List.Folds.{list_any_at}
use Rattle.gp_command.specs.declared.touch.Access.{Access}
use Rattle.gp_command.specs.declared.touch.Access.TheVariants as access
use Rattle.gp_command.specs.declared.touch.Touch.{Touch}
use Rattle.gp_command.specs.declared.command.Command.{Command}
use Rattle.gp_command.specs.Key.{key_cmp, key_cmp_total}
use Rattle.gp_command.specs.Conflict.{same, is_clash, touches_clash, conflict}
use Rattle.gp_command.proofs.ConflictLemmas.{conflict_symm, same_symm}
use Rattle.gp_replica.specs.declared.reply.Reply.TheVariants.{Value}
use Rattle.gp_replica.specs.Machines.{Commute, AreIndependent, state_after}
use Rattle.gp_store.specs.Operations.{touch}
use Rattle.gp_store.specs.Pairs.{value_at}
use Rattle.gp_store.specs.Changes.{same_key, same_pairs}
use Rattle.gp_store.specs.Commuting.{do_clash}
use Rattle.gp_bank.specs.declared.op.BankOp.{BankOp}
use Rattle.gp_bank.specs.declared.op.BankOp.TheVariants.{Deposit, Withdraw, Transfer, Balance, Checkpoint}
use Rattle.gp_bank.specs.Operations.{bank_foot}
use Rattle.gp_bank.specs.Drafts.{bank_op, op_drafted}
use Rattle.gp_bank.specs.Accounts.{Accounts}
use Rattle.gp_bank.specs.Effects.{granted, bank_effect, bank_reply, effect_if_some, reply_if_some, bank_rules}
use Rattle.gp_bank.specs.Changes.{credit, step, holds_in, value_behind, Use, Idle, Adds, Writes, use_of, transfer_writes}

-- ---- touches that do not conflict

module _ {X : Type 0} (p : X → Bool) where
  fails_at : (xs : List X) (x : X) (b : Bool) → p x ≡ b → Contains xs x → list_any p xs ≡ false → b ≡ false
  fails_at xs x false e there none = refl
  fails_at xs x true e there none = absurd (let found = list_any_at p xs there.0 x there.1 (ap p there.2 ∙ e) in cc)

  fails : (xs : List X) (x : X) → Contains xs x → list_any p xs ≡ false → p x ≡ false
  fails xs x there none = fails_at xs x (p x) refl there none

-- footprints that do not conflict do not both touch one key with accesses that conflict
apart_at : (first second : List Touch) (q : List ℕ) (x y : Access) → do_clash first second ≡ false → Contains first (touch q x) → Contains second (touch q y) → is_clash x y ≡ true → ⊥
apart_at first second q x y apart here there clash =
    let row = fails (λ (t : Touch). list_any (touches_clash t) second) first (touch q x) here apart in
    let none = fails (touches_clash (touch q x)) second (touch q y) there row in
    let same : same_key q q ≡ true = (eq_by_cmp_equiv key_cmp_total).refl q in
    absurd (let e : true ≡ false = sym (λ i. same i && clash i) ∙ none in cc)

-- ---- at one key

credits_commute : (v w : ℕ) (o : Option ℕ) → credit w (credit v o) ≡ credit v (credit w o)
credits_commute v w o =
    let n = unwrap_or o 0 in
    let same : min (min (n + v) (2 ^ 64 - 1) + w) (2 ^ 64 - 1) ≡ min (min (n + w) (2 ^ 64 - 1) + v) (2 ^ 64 - 1) = omega arith in
    ap (λ (n : ℕ). Some n) same

abbrev AddOne : (Option ℕ → Option ℕ) → Type 0
AddOne f = ((o : Option ℕ) → f o ≡ o) ⊎ ((amount : ℕ) × ((o : Option ℕ) → f o ≡ credit amount o))

sums_commute : (f g : Option ℕ → Option ℕ) → AddOne f → AddOne g → (o : Option ℕ) → g (f o) ≡ f (g o)
sums_commute f g (inl still) y o = ap g (still o) ∙ sym (still (g o))
sums_commute f g (inr x) (inl still) o = still (f o) ∙ sym (ap f (still o))
sums_commute f g (inr x) (inr y) o = ap g (x.1 o) ∙ y.1 (credit x.0 o) ∙ credits_commute x.0 y.0 o ∙ sym (x.1 (credit y.0 o)) ∙ sym (ap f (y.1 o))

module _ (a b : BankOp) (apart : do_clash (bank_foot a) (bank_foot b) ≡ false) where
  steps_commute : (q : List ℕ) (x y : Bool) (o : Option ℕ) → Use a q → Use b q → step b y q (step a x q o) ≡ step a x q (step b y q o)
  steps_commute q x y o (Idle still) other = ap (step b y q) (still x o) ∙ sym (still x (step b y q o))
  steps_commute q x y o (Adds here more) (Idle still) = still y (step a x q o) ∙ sym (ap (step a x q) (still y o))
  steps_commute q x y o (Adds here more) (Adds there sums) = sums_commute (step a x q) (step b y q) (more x) (sums y) o
  steps_commute q x y o (Adds here more) (Writes there) = absurd (apart_at (bank_foot a) (bank_foot b) q access.Add access.Write apart here there refl)
  steps_commute q x y o (Writes here) (Idle still) = still y (step a x q o) ∙ sym (ap (step a x q) (still y o))
  steps_commute q x y o (Writes here) (Adds there sums) = absurd (apart_at (bank_foot a) (bank_foot b) q access.Write access.Add apart here there refl)
  steps_commute q x y o (Writes here) (Writes there) = absurd (apart_at (bank_foot a) (bank_foot b) q access.Write access.Write apart here there refl)

  -- the first operation does not change what the second one reads
  kept_by : (s : Accounts) (q : List ℕ) (y : Access) → is_clash access.Add y ≡ true → is_clash access.Write y ≡ true → Contains (bank_foot b) (touch q y) → Use a q → value_at (bank_effect s a) q ≡ value_at s q
  kept_by s q y add write there (Idle still) = value_behind s a q ∙ still (holds_in s a) (value_at s q)
  kept_by s q y add write there (Adds here more) = absurd (apart_at (bank_foot a) (bank_foot b) q access.Add y apart here there add)
  kept_by s q y add write there (Writes here) = absurd (apart_at (bank_foot a) (bank_foot b) q access.Write y apart here there write)

-- ---- operations commute

-- the first operation changes neither the test of the second one nor its reply
test_kept : (a b : BankOp) → do_clash (bank_foot a) (bank_foot b) ≡ false → (s : Accounts) → (holds_in (bank_effect s a) b ≡ holds_in s b) × (bank_reply (bank_effect s a) b ≡ bank_reply s b)
test_kept a (Deposit key amount) apart s = (refl, refl)
test_kept a (Withdraw key amount) apart s =
    let kept = kept_by a (Withdraw key amount) apart s key access.Write refl refl (0, omega arith, refl) (use_of a key) in
    (ap (λ (o : Option ℕ). nat_le amount (unwrap_or o 0)) kept, ap (λ (o : Option ℕ). granted (nat_le amount (unwrap_or o 0))) kept)
test_kept a (Transfer from into amount) apart s =
    let kept = kept_by a (Transfer from into amount) apart s from access.Write refl refl (transfer_writes (key_cmp from into) from into) (use_of a from) in
    (ap (λ (o : Option ℕ). nat_le amount (unwrap_or o 0)) kept, ap (λ (o : Option ℕ). granted (nat_le amount (unwrap_or o 0))) kept)
test_kept a (Balance key) apart s =
    let kept = kept_by a (Balance key) apart s key access.Read refl refl (0, omega arith, refl) (use_of a key) in
    (refl, ap (λ (o : Option ℕ). Value (unwrap_or o 0)) kept)
test_kept a Checkpoint apart s = (refl, refl)

-- both orders give the same accounts, and the second has the same reply without the first
pub record Swap (s : Accounts) (a b : BankOp) : Type 0 where
  pub state : bank_effect (bank_effect s a) b ≡ bank_effect (bank_effect s b) a
  pub reply : bank_reply (bank_effect s a) b ≡ bank_reply s b

behind_both : (a b : BankOp) → do_clash (bank_foot a) (bank_foot b) ≡ false → (s : Accounts) (q : List ℕ) → value_at (bank_effect (bank_effect s a) b) q ≡ step b (holds_in s b) q (step a (holds_in s a) q (value_at s q))
behind_both a b apart s q =
    value_behind (bank_effect s a) b q ∙ (λ i. step b ((test_kept a b apart s).0 i) q (value_behind s a q i))

-- operations whose footprints do not conflict commute
pub operations_commute : (s : Accounts) (a b : BankOp) → do_clash (bank_foot a) (bank_foot b) ≡ false → do_clash (bank_foot b) (bank_foot a) ≡ false → Swap s a b
operations_commute s a b apart back = record {
  state = same_pairs (bank_effect (bank_effect s a) b) (bank_effect (bank_effect s b) a) (λ q.
      behind_both a b apart s q ∙ steps_commute a b apart q (holds_in s a) (holds_in s b) (value_at s q) (use_of a q) (use_of b q) ∙ sym (behind_both b a back s q));
  reply = (test_kept a b apart s).1;
}

-- ---- commands commute

last_false : (a b c : Bool) → (a || (b || c)) ≡ false → c ≡ false
last_false false false c e = e
last_false false true c e = absurd cc
last_false true b c e = absurd cc

no_clash : (c d : Command) → same c d ≡ false → conflict c d ≡ false → do_clash c.draft.foot d.draft.foot ≡ false
unfolding conflict
no_clash c d apart none =
    let clash = do_clash c.draft.foot d.draft.foot in
    last_false c.draft.checkpoint d.draft.checkpoint clash (sym (ap (λ (b : Bool). not b && (c.draft.checkpoint || (d.draft.checkpoint || clash))) apart) ∙ none)

feet_apart : (c d : Command) (a b : BankOp) → bank_op c.draft ≡ Some a → bank_op d.draft ≡ Some b → same c d ≡ false → conflict c d ≡ false → do_clash (bank_foot a) (bank_foot b) ≡ false
feet_apart c d a b ea eb apart none =
    let first = op_drafted c.draft a ea in
    let second = op_drafted d.draft b eb in
    sym (λ i. do_clash (first i).foot (second i).foot) ∙ no_clash c d apart none

-- the same for operations that may be missing
swap_options : (s : Accounts) (a b : Option BankOp) → ((x y : BankOp) → a ≡ Some x → b ≡ Some y → Swap s x y) → (effect_if_some (effect_if_some s a) b ≡ effect_if_some (effect_if_some s b) a) × (reply_if_some (effect_if_some s a) b ≡ reply_if_some s b)
swap_options s None None h = (refl, refl)
swap_options s None (Some y) h = (refl, refl)
swap_options s (Some x) None h = (refl, refl)
swap_options s (Some x) (Some y) h = let swap = h x y refl refl in (swap.state, swap.reply)

-- commands that do not conflict commute
pub commands_commute : (s : Accounts) (c d : Command) → same c d ≡ false → conflict c d ≡ false → Commute bank_rules s c d
commands_commute s c d apart none =
    let both = swap_options s (bank_op c.draft) (bank_op d.draft) (λ x y ex ey. operations_commute s x y (feet_apart c d x y ex ey apart none) (feet_apart d c y x ey ex (same_symm d c ∙ apart) (conflict_symm d c ∙ none))) in
    record { state = both.0; reply = both.1 }

pub independent : AreIndependent bank_rules
independent cs c d apart none = commands_commute (state_after bank_rules cs) c d apart none
