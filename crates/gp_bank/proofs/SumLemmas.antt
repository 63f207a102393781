-- The sum of the balances, and how operations change it.
use Rattle.std.proofs.Common.{◌≡◌, ℕ, suc, ◌+◌, ◌-◌, ◌*◌, ◌^◌, ◌≤◌, ◌<◌, Bool, true, false, cond, ◌&&◌, List, [], ◌∷◌, length, Option, Some, None, refl, sym, ap, ◌∙◌, arith}
use Rattle.std.specs.Prelude.{T, unwrap_or, min}
use Rattle.std.specs.List.{sum_by}
use Rattle.std.specs.Option.{is_some}
use Rattle.std.specs.FinMap.{entries, entries_sorted, insert, empty, entries-insert, get-insert, get-entries, len-empty, len-entries, find, put, is_sorted}
use Rattle.std.specs.FinMap.Entries.{by_order, below_all, length-put}
use Rattle.std.specs.Ordering.{is_eq}
use Rattle.std.specs.declared.cmp.Ordering.TheVariants.{Less, Equal, Greater}
use Rattle.std.proofs.lemmas.Bool.{leb-true}
use Rattle.std.proofs.lemmas.List.Sums.{sum_by-cons}
use Rattle.gp_command.specs.declared.command.Command.{Command}
use Rattle.gp_command.specs.Key.{key_cmp, key_cmp_total}
use Rattle.gp_replica.specs.declared.reply.Reply.{Reply}
use Rattle.gp_replica.specs.Machines.{state_from, replies_from, state_after, replies_to}
use Rattle.gp_store.specs.Pairs.{value_at}
use Rattle.gp_store.specs.Effects.{put_found}
use Rattle.gp_store.specs.Changes.{same_key}
use Rattle.gp_bank.specs.declared.op.BankOp.{BankOp}
use Rattle.gp_bank.specs.declared.op.BankOp.TheVariants.{Deposit, Withdraw, Transfer, Balance, Checkpoint}
use Rattle.gp_bank.specs.Operations.{IsBankOp}
use Rattle.gp_bank.specs.Drafts.{bank_op}
use Rattle.gp_bank.specs.Accounts.{Accounts, balance_at, credited, debited}
use Rattle.gp_bank.specs.Effects.{covers, granted, moved, bank_effect, bank_reply, bank_rules, effect_if_some, reply_if_some}
use Rattle.gp_bank.specs.Changes.{debit}
use Rattle.gp_bank.specs.Sums.{held, brought, taken, deposits, withdrawals}
use Rattle.gp_bank.proofs.DraftLemmas.{op_found}

abbrev Entries : Type 0
Entries = List (List ℕ × ℕ)

abbrev total : Entries → ℕ
total es = sum_by (λ e. e.1) es

-- ---- one balance is put

second : (a b : Bool) → T (a && b) → T b
second true b p = p
second false b p = absurd p

-- where the list grew, there was nothing
grown : (n : ℕ) (o : Option ℕ) → suc n ≡ cond (is_some o) n (n + 1) → unwrap_or o 0 ≡ 0
grown n None e = refl
grown n (Some x) e = absurd (omega arith)

put_total : (k : List ℕ) (v : ℕ) (es : Entries) → T (is_sorted key_cmp es) → total (put key_cmp k v es) + unwrap_or (find key_cmp k es) 0 ≡ total es + v
put_total k v [] sorted = omega arith
put_total k v (e ∷ es) sorted =
    elim (key_cmp k e.0) as (λ o. length (by_order o ((k, v) ∷ e ∷ es) ((e.0, v) ∷ es) (e ∷ put key_cmp k v es)) ≡ cond (is_some (cond (is_eq o) (Some e.1) (find key_cmp k es))) (suc (length es)) (suc (length es) + 1) → total (by_order o ((k, v) ∷ e ∷ es) ((e.0, v) ∷ es) (e ∷ put key_cmp k v es)) + unwrap_or (cond (is_eq o) (Some e.1) (find key_cmp k es)) 0 ≡ total (e ∷ es) + v) [
      | Less ↦ λ more. let none = grown (suc (length es)) (find key_cmp k es) more in let sum = sum_by-cons (λ (e : List ℕ × ℕ). e.1) (k, v) (e ∷ es) in omega arith
      | Equal ↦ λ more. let before = sum_by-cons (λ (e : List ℕ × ℕ). e.1) e es in let behind = sum_by-cons (λ (e : List ℕ × ℕ). e.1) (e.0, v) es in omega arith
      | Greater ↦ λ more. let before = sum_by-cons (λ (e : List ℕ × ℕ). e.1) e es in let behind = sum_by-cons (λ (e : List ℕ × ℕ). e.1) e (put key_cmp k v es) in let rest = put_total k v es (second (below_all key_cmp e.0 es) (is_sorted key_cmp es) sorted) in omega arith
    ] (length-put key_cmp key_cmp_total k v (e ∷ es) sorted)

pub insert_held : (a : Accounts) (k : List ℕ) (v : ℕ) → held (insert a k v) + balance_at a k ≡ held a + v
insert_held a k v =
    (λ i. total (entries-insert key_cmp_total a k v i) + unwrap_or (get-entries a k i) 0)
    ∙ put_total k v (entries a) (entries_sorted a)

balance_held : (a : Accounts) (k : List ℕ) → balance_at a k ≤ held a
balance_held a k = let h = insert_held a k 0 in omega arith

no_total : (es : Entries) → length es ≡ 0 → total es ≡ 0
no_total [] e = refl
no_total (e ∷ es) n = absurd (omega arith)

pub empty_held : held (empty {R = key_cmp}) ≡ 0
empty_held = no_total (entries (empty {R = key_cmp})) (sym (len-entries (empty {R = key_cmp})) ∙ len-empty key_cmp ℕ)

-- ---- amounts come and go

credited_held : (a : Accounts) (k : List ℕ) (v : ℕ) → balance_at a k + v ≤ 2 ^ 64 - 1 → held (credited a k v) ≡ held a + v
credited_held a k v fits = let h = insert_held a k (min (balance_at a k + v) (2 ^ 64 - 1)) in omega arith

put_back : (a : Accounts) (k : List ℕ) (v : ℕ) (o : Option ℕ) → value_at a k ≡ o → v ≤ unwrap_or o 0 → held (put_found a k (debit v o)) + v ≡ held a
put_back a k v None e le = omega arith
put_back a k v (Some balance) e le =
    let h = insert_held a k (balance - v) in
    let is : balance_at a k ≡ balance = ap (λ (o : Option ℕ). unwrap_or o 0) e in
    omega arith

debited_held : (a : Accounts) (k : List ℕ) (v : ℕ) → v ≤ balance_at a k → held (debited a k v) + v ≡ held a
debited_held a k v le = put_back a k v (value_at a k) refl le

other_balance : (a : Accounts) (k : List ℕ) (v : ℕ) (q : List ℕ) → same_key q k ≡ false → balance_at (insert a k v) q ≡ balance_at a q
other_balance a k v q apart = ap (λ (o : Option ℕ). unwrap_or o 0) (get-insert key_cmp_total a k v q ∙ ap (λ (b : Bool). cond b (Some v) (value_at a q)) apart)

-- two accounts hold no more than all
two_balances : (a : Accounts) (from into : List ℕ) → same_key from into ≡ false → balance_at a into + balance_at a from ≤ held a
two_balances a from into apart =
    let first = insert_held a into 0 in
    let still = other_balance a into 0 from apart in
    let rest = balance_held (insert a into 0) from in
    omega arith

moved_held : (a : Accounts) (from into : List ℕ) (v : ℕ) → same_key from into ≡ false → v ≤ balance_at a from → held a ≤ 2 ^ 64 - 1 → held (moved a from into v) ≡ held a
moved_held a from into v apart le fits =
    let both = two_balances a from into apart in
    let first = credited_held a into v (omega arith) in
    let still = other_balance a into (min (balance_at a into + v) (2 ^ 64 - 1)) from apart in
    let last = debited_held (credited a into v) from v (omega arith) in
    omega arith

-- ---- operations

withdrawn_held : (a : Accounts) (k : List ℕ) (v : ℕ) (b : Bool) → covers a k v ≡ b → held (cond b (debited a k v) a) + taken (Some (Withdraw k v)) (granted b) ≡ held a
withdrawn_held a k v true e = debited_held a k v (leb-true v (balance_at a k) e)
withdrawn_held a k v false e = omega arith

transferred_held : (a : Accounts) (from into : List ℕ) (v : ℕ) (s b : Bool) → same_key from into ≡ s → covers a from v ≡ b → held a ≤ 2 ^ 64 - 1 → held (cond s a (cond b (moved a from into v) a)) ≡ held a
transferred_held a from into v true b es eb fits = refl
transferred_held a from into v false true es eb fits = moved_held a from into v es (leb-true v (balance_at a from) eb) fits
transferred_held a from into v false false es eb fits = refl

-- what was brought is held or was taken
op_held : (a : Accounts) (op : BankOp) → held a + brought (Some op) ≤ 2 ^ 64 - 1 → held (bank_effect a op) + taken (Some op) (bank_reply a op) ≡ held a + brought (Some op)
op_held a (Deposit k v) fits = let le = balance_held a k in let h = credited_held a k v (omega arith) in omega arith
op_held a (Withdraw k v) fits = let h = withdrawn_held a k v (covers a k v) refl in omega arith
op_held a (Transfer from into v) fits = let h = transferred_held a from into v (same_key from into) (covers a from v) refl refl (omega arith) in omega arith
op_held a (Balance k) fits = omega arith
op_held a Checkpoint fits = omega arith

option_held : (a : Accounts) (o : Option BankOp) → held a + brought o ≤ 2 ^ 64 - 1 → held (effect_if_some a o) + taken o (reply_if_some a o) ≡ held a + brought o
option_held a None fits = omega arith
option_held a (Some op) fits = op_held a op fits

-- ---- sequences

abbrev bring : Command → ℕ
bring c = brought (bank_op c.draft)

abbrev take_away : Command × Reply → ℕ
take_away r = taken (bank_op r.0.draft) r.1

run_held : (a : Accounts) (cs : List Command) → held a + deposits cs ≤ 2 ^ 64 - 1 → held (state_from bank_rules a cs) + withdrawals (replies_from bank_rules a cs) ≡ held a + deposits cs
run_held a [] fits = omega arith
run_held a (c ∷ cs) fits =
    let o = bank_op c.draft in
    let next = effect_if_some a o in
    let reply = reply_if_some a o in
    let came = sum_by-cons bring c cs in
    let gone = sum_by-cons take_away (c, reply) (replies_from bank_rules next cs) in
    let one = option_held a o (omega arith) in
    let rest = run_held next cs (omega arith) in
    omega arith

op_small : (o : Option BankOp) → ((op : BankOp) → o ≡ Some op → IsBankOp op) → brought o ≤ 4294967295
op_small None range = omega arith
op_small (Some (Deposit k v)) range = let r = range (Deposit k v) refl in let lt = r.1 in omega arith
op_small (Some (Withdraw k v)) range = omega arith
op_small (Some (Transfer from into v)) range = omega arith
op_small (Some (Balance k)) range = omega arith
op_small (Some Checkpoint) range = omega arith

pub deposits_small : (cs : List Command) → deposits cs ≤ length cs * 4294967295
deposits_small [] = omega arith
deposits_small (c ∷ cs) =
    let came = sum_by-cons bring c cs in
    let one = op_small (bank_op c.draft) (λ op e. (op_found c.draft op e).1) in
    let rest = deposits_small cs in
    omega arith

-- what fewer than 2^32 commands brought is held or was taken
pub conserved : (cs : List Command) → length cs < 2 ^ 32 → held (state_after bank_rules cs) + withdrawals (replies_to bank_rules cs) ≡ deposits cs
conserved cs few =
    let small = deposits_small cs in
    let none = empty_held in
    let run = run_held (empty {R = key_cmp}) cs (omega arith) in
    omega arith
