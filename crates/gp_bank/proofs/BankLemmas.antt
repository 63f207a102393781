-- How balances change, and what an operation leaves alone.
use Rattle.std.proofs.Common.{◌≡◌, ◌≢◌, ℕ, ◌+◌, ◌-◌, ◌≤◌, ◌^◌, Bool, true, false, cond, not, List, [], ◌∷◌, Option, Some, None, refl, sym, ap, ◌∙◌, arith}
use Rattle.std.specs.Prelude.{Contains, unwrap_or, min, nat_le}
use Rattle.std.specs.Cmp.{eq_by_cmp_equiv}
use Rattle.std.specs.declared.cmp.Ordering.{Ordering}
use Rattle.std.proofs.lemmas.Bool.{le-leb}
use Rattle.std.proofs.lemmas.Cmp.{tied_itself}
use Rattle.gp_command.specs.declared.touch.Access.TheVariants.{Read, Add, Write}
use Rattle.gp_command.specs.declared.touch.Touch.{Touch}
use Rattle.gp_command.specs.Key.{key_cmp, key_cmp_total}
use Rattle.gp_store.specs.Operations.{touch}
use Rattle.gp_store.specs.Pairs.{value_at}
use Rattle.gp_store.specs.Changes.{same_key, tied_keys}
use Rattle.gp_history.proofs.Tests.{turned_false}
use Rattle.gp_bank.specs.declared.op.BankOp.{BankOp}
use Rattle.gp_bank.specs.declared.op.BankOp.TheVariants.{Deposit, Withdraw, Transfer}
use Rattle.gp_bank.specs.Operations.{bank_foot, transfer_foot}
use Rattle.gp_bank.specs.Accounts.{Accounts, balance_at, credited, debited}
use Rattle.gp_bank.specs.Effects.{covers, moved, bank_effect}
use Rattle.gp_bank.specs.Changes.{credit, debit, holds_in, credited_value, debited_value, moved_value, value_behind, Use, Idle, Adds, Writes, use_of, transfer_adds}

-- ---- keys

pub same_itself : (key : List ℕ) → same_key key key ≡ true
same_itself key = (eq_by_cmp_equiv key_cmp_total).refl key

apart_by : (a b : List ℕ) (s : Bool) → same_key a b ≡ s → a ≢ b → s ≡ false
apart_by a b true e differ = absurd (differ (tied_keys a b e))
apart_by a b false e differ = refl

pub apart : (a b : List ℕ) → a ≢ b → same_key a b ≡ false
apart a b differ = apart_by a b (same_key a b) refl differ

pub transfer_adds_to : (from into : List ℕ) → from ≢ into → Contains (transfer_foot (key_cmp from into) from into) (touch into Add)
transfer_adds_to from into differ = transfer_adds (key_cmp from into) from into refl (apart from into differ)

pub transfer_alone : (key : List ℕ) (amount : ℕ) → bank_foot (Transfer key key amount) ≡ touch key Write ∷ []
transfer_alone key amount = ap (λ (o : Ordering). transfer_foot o key key) (tied_itself key_cmp_total key)

-- ---- balances

at_itself : (key : List ℕ) (x y : Option ℕ) → cond (same_key key key) x y ≡ x
at_itself key x y = ap (λ (b : Bool). cond b x y) (same_itself key)

less : (amount : ℕ) (o : Option ℕ) → unwrap_or (debit amount o) 0 ≡ unwrap_or o 0 - amount
less amount None = omega arith
less amount (Some balance) = refl

abbrev shown : Option ℕ → ℕ
shown o = unwrap_or o 0

pub deposited : (a : Accounts) (key : List ℕ) (amount : ℕ) → balance_at (bank_effect a (Deposit key amount)) key ≡ min (balance_at a key + amount) (2 ^ 64 - 1)
deposited a key amount = ap shown (credited_value a key amount key ∙ at_itself key (credit amount (value_at a key)) (value_at a key))

withdraws : (a : Accounts) (key : List ℕ) (amount : ℕ) → amount ≤ balance_at a key → bank_effect a (Withdraw key amount) ≡ debited a key amount
withdraws a key amount le = ap (λ (b : Bool). cond b (debited a key amount) a) (le-leb amount (balance_at a key) le)

pub withdrawn : (a : Accounts) (key : List ℕ) (amount : ℕ) → amount ≤ balance_at a key → balance_at (bank_effect a (Withdraw key amount)) key ≡ balance_at a key - amount
withdrawn a key amount le =
    ap (λ (b : Accounts). balance_at b key) (withdraws a key amount le)
    ∙ ap shown (debited_value a key amount key ∙ at_itself key (debit amount (value_at a key)) (value_at a key))
    ∙ less amount (value_at a key)

moves : (a : Accounts) (from into : List ℕ) (amount : ℕ) → from ≢ into → amount ≤ balance_at a from → bank_effect a (Transfer from into amount) ≡ moved a from into amount
moves a from into amount differ le =
    λ i. cond (apart from into differ i) a (cond (le-leb amount (balance_at a from) le i) (moved a from into amount) a)

pub sent : (a : Accounts) (from into : List ℕ) (amount : ℕ) → from ≢ into → amount ≤ balance_at a from → balance_at (bank_effect a (Transfer from into amount)) from ≡ balance_at a from - amount
sent a from into amount differ le =
    ap (λ (b : Accounts). balance_at b from) (moves a from into amount differ le)
    ∙ ap shown (moved_value a from into amount from (apart from into differ) ∙ at_itself from (debit amount (value_at a from)) (cond (same_key from into) (credit amount (value_at a from)) (value_at a from)))
    ∙ less amount (value_at a from)

pub received : (a : Accounts) (from into : List ℕ) (amount : ℕ) → from ≢ into → amount ≤ balance_at a from → balance_at (bank_effect a (Transfer from into amount)) into ≡ min (balance_at a into + amount) (2 ^ 64 - 1)
received a from into amount differ le =
    let back : same_key into from ≡ false = apart into from (λ same. differ (sym same)) in
    ap (λ (b : Accounts). balance_at b into) (moves a from into amount differ le)
    ∙ ap shown (moved_value a from into amount into (apart from into differ)
    ∙ ap (λ (b : Bool). cond b (debit amount (value_at a into)) (cond (same_key into into) (credit amount (value_at a into)) (value_at a into))) back
    ∙ at_itself into (credit amount (value_at a into)) (value_at a into))

pub to_itself : (a : Accounts) (key : List ℕ) (amount : ℕ) → bank_effect a (Transfer key key amount) ≡ a
to_itself a key amount = ap (λ (b : Bool). cond b a (cond (covers a key amount) (moved a key key amount) a)) (same_itself key)

-- ---- footprints

outside : (a : Accounts) (op : BankOp) (key : List ℕ) → ((t : Touch) → Contains (bank_foot op) t → t.access ≢ Read → t.key ≢ key) → Use op key → value_at (bank_effect a op) key ≡ value_at a key
outside a op key far (Idle still) = value_behind a op key ∙ still (holds_in a op) (value_at a key)
outside a op key far (Adds here more) = absurd (far (touch key Add) here (λ e. cc) refl)
outside a op key far (Writes here) = absurd (far (touch key Write) here (λ e. cc) refl)

-- only what an operation adds to or writes is changed
pub outside_kept : (a : Accounts) (op : BankOp) (key : List ℕ) → ((t : Touch) → Contains (bank_foot op) t → t.access ≢ Read → t.key ≢ key) → value_at (bank_effect a op) key ≡ value_at a key
outside_kept a op key far = outside a op key far (use_of op key)

-- an account that covers an amount does so behind a credit to another
pub still_covers : (a : Accounts) (from into : List ℕ) (amount : ℕ) → not (same_key from into) ≡ true → amount ≤ balance_at a from → covers (credited a into amount) from amount ≡ true
still_covers a from into amount differ le =
    ap (λ (o : Option ℕ). nat_le amount (shown o)) (credited_value a into amount from ∙ ap (λ (b : Bool). cond b (credit amount (value_at a from)) (value_at a from)) (turned_false (same_key from into) differ))
    ∙ le-leb amount (balance_at a from) le
