-- What an operation does at each key, and how it touches the key there.
use Rattle.std.proofs.Common.{◌≡◌, ℕ, ◌+◌, ◌-◌, ◌^◌, Bool, true, false, cond, List, Option, Some, None, refl, sym, ap, ◌∙◌, inl, inr, ◌⊎◌, arith}
use Rattle.std.specs.Prelude.{Contains, unwrap_or, min}
use Rattle.std.specs.Option.{option_map}
use Rattle.std.specs.FinMap.{get-insert}
use Rattle.std.specs.declared.cmp.Ordering.{Ordering}
use Rattle.std.specs.declared.cmp.Ordering.TheVariants.{Less, Equal, Greater}
use Rattle.gp_command.specs.declared.touch.Access.TheVariants as access
use Rattle.gp_command.specs.Key.{key_cmp, key_cmp_total}
use Rattle.gp_store.specs.Operations.{touch}
use Rattle.gp_store.specs.Pairs.{value_at}
use Rattle.gp_store.specs.Effects.{put_found}
use Rattle.gp_store.specs.Changes.{same_key, tied_keys}
use Rattle.gp_bank.specs.declared.op.BankOp.{BankOp}
use Rattle.gp_bank.specs.declared.op.BankOp.TheVariants.{Deposit, Withdraw, Transfer, Balance, Checkpoint}
use Rattle.gp_bank.specs.Operations.{bank_foot, transfer_foot}
use Rattle.gp_bank.specs.Accounts.{Accounts, credited, debited}
use Rattle.gp_bank.specs.Effects.{covers, moved, bank_effect}

-- a balance with the amount added
abbrev pub credit : ℕ → Option ℕ → Option ℕ
credit amount o = Some (min (unwrap_or o 0 + amount) (2 ^ 64 - 1))

-- a balance with the amount subtracted
abbrev pub debit : ℕ → Option ℕ → Option ℕ
debit amount o = option_map (λ balance. balance - amount) o

-- what is at the key after the operation, given what was there and whether the operation's test holds
abbrev pub step : BankOp → Bool → List ℕ → Option ℕ → Option ℕ
step (Deposit key amount) holds q o = cond (same_key q key) (credit amount o) o
step (Withdraw key amount) holds q o = cond holds (cond (same_key q key) (debit amount o) o) o
step (Transfer from into amount) holds q o = cond (same_key from into) o (cond holds (cond (same_key q from) (debit amount o) (cond (same_key q into) (credit amount o) o)) o)
step (Balance key) holds q o = o
step Checkpoint holds q o = o

-- the operation's test holds
abbrev pub holds_in : Accounts → BankOp → Bool
holds_in accounts (Deposit key amount) = true
holds_in accounts (Withdraw key amount) = covers accounts key amount
holds_in accounts (Transfer from into amount) = covers accounts from amount
holds_in accounts (Balance key) = true
holds_in accounts Checkpoint = true

-- ---- what is at each key after an operation

-- the value at a key is the value at an equal key
at_tied : (a : Accounts) (q key : List ℕ) (f : Option ℕ → Option ℕ) (z : Option ℕ) (b : Bool) → same_key q key ≡ b → cond b (f (value_at a key)) z ≡ cond b (f (value_at a q)) z
at_tied a q key f z true e = ap (λ (k : List ℕ). f (value_at a k)) (sym (tied_keys q key e))
at_tied a q key f z false e = refl

pub credited_value : (a : Accounts) (key : List ℕ) (amount : ℕ) (q : List ℕ) → value_at (credited a key amount) q ≡ cond (same_key q key) (credit amount (value_at a q)) (value_at a q)
credited_value a key amount q = get-insert key_cmp_total a key _ q ∙ at_tied a q key (credit amount) (value_at a q) (same_key q key) refl

absent_at : (a : Accounts) (q key : List ℕ) (b : Bool) → same_key q key ≡ b → value_at a key ≡ None → value_at a q ≡ cond b None (value_at a q)
absent_at a q key true e none = ap (value_at a) (tied_keys q key e) ∙ none
absent_at a q key false e none = refl

found_value : (a : Accounts) (key : List ℕ) (amount : ℕ) (q : List ℕ) (o : Option ℕ) → value_at a key ≡ o → value_at (put_found a key (debit amount o)) q ≡ cond (same_key q key) (debit amount o) (value_at a q)
found_value a key amount q None e = absent_at a q key (same_key q key) refl e
found_value a key amount q (Some balance) e = get-insert key_cmp_total a key (balance - amount) q

pub debited_value : (a : Accounts) (key : List ℕ) (amount : ℕ) (q : List ℕ) → value_at (debited a key amount) q ≡ cond (same_key q key) (debit amount (value_at a q)) (value_at a q)
debited_value a key amount q = found_value a key amount q (value_at a key) refl ∙ at_tied a q key (debit amount) (value_at a q) (same_key q key) refl

withdrawn_value : (a : Accounts) (key : List ℕ) (amount : ℕ) (q : List ℕ) (b : Bool) → value_at (cond b (debited a key amount) a) q ≡ cond b (cond (same_key q key) (debit amount (value_at a q)) (value_at a q)) (value_at a q)
withdrawn_value a key amount q true = debited_value a key amount q
withdrawn_value a key amount q false = refl

clear_of : (q from into : List ℕ) (b : Bool) (x y : Option ℕ) → same_key from into ≡ false → same_key q from ≡ b → cond b (cond (same_key q into) x y) y ≡ y
clear_of q from into true x y apart e = ap (λ (k : List ℕ). cond (same_key k into) x y) (tied_keys q from e) ∙ ap (λ (b : Bool). cond b x y) apart
clear_of q from into false x y apart e = refl

-- at the first key nothing was added, since it is not the second
first_alone : (q from into : List ℕ) (amount : ℕ) (o : Option ℕ) (b : Bool) → same_key from into ≡ false → same_key q from ≡ b → cond b (debit amount (cond (same_key q into) (credit amount o) o)) (cond (same_key q into) (credit amount o) o) ≡ cond b (debit amount o) (cond (same_key q into) (credit amount o) o)
first_alone q from into amount o true apart e = ap (debit amount) (clear_of q from into true (credit amount o) o apart e)
first_alone q from into amount o false apart e = refl

pub moved_value : (a : Accounts) (from into : List ℕ) (amount : ℕ) (q : List ℕ) → same_key from into ≡ false → value_at (moved a from into amount) q ≡ cond (same_key q from) (debit amount (value_at a q)) (cond (same_key q into) (credit amount (value_at a q)) (value_at a q))
moved_value a from into amount q apart =
    debited_value (credited a into amount) from amount q
    ∙ ap (λ (o : Option ℕ). cond (same_key q from) (debit amount o) o) (credited_value a into amount q)
    ∙ first_alone q from into amount (value_at a q) (same_key q from) apart refl

transferred_value : (a : Accounts) (from into : List ℕ) (amount : ℕ) (q : List ℕ) (s b : Bool) → same_key from into ≡ s → value_at (cond s a (cond b (moved a from into amount) a)) q ≡ cond s (value_at a q) (cond b (cond (same_key q from) (debit amount (value_at a q)) (cond (same_key q into) (credit amount (value_at a q)) (value_at a q))) (value_at a q))
transferred_value a from into amount q true b e = refl
transferred_value a from into amount q false true e = moved_value a from into amount q e
transferred_value a from into amount q false false e = refl

-- what is at each key after an operation depends on what was at that key, and on whether the operation's test holds
pub value_behind : (a : Accounts) (op : BankOp) (q : List ℕ) → value_at (bank_effect a op) q ≡ step op (holds_in a op) q (value_at a q)
value_behind a (Deposit key amount) q = credited_value a key amount q
value_behind a (Withdraw key amount) q = withdrawn_value a key amount q (covers a key amount)
value_behind a (Transfer from into amount) q = transferred_value a from into amount q (same_key from into) (covers a from amount) refl
value_behind a (Balance key) q = refl
value_behind a Checkpoint q = refl

-- ---- how an operation touches a key

-- it does not change what is at the key
abbrev pub IsIdle : BankOp → List ℕ → Type 0
IsIdle op q = (holds : Bool) (o : Option ℕ) → step op holds q o ≡ o

-- it adds to what is at the key, or does not change it
abbrev pub AddsAt : BankOp → List ℕ → Type 0
AddsAt op q = (holds : Bool) → ((o : Option ℕ) → step op holds q o ≡ o) ⊎ ((amount : ℕ) × ((o : Option ℕ) → step op holds q o ≡ credit amount o))

-- how an operation uses a key, and the touch that declares this
pub data Use (op : BankOp) (q : List ℕ) : Type 0 where
  Idle : IsIdle op q → Use op q
  Adds : Contains (bank_foot op) (touch q access.Add) → AddsAt op q → Use op q
  Writes : Contains (bank_foot op) (touch q access.Write) → Use op q

pub transfer_writes : (o : Ordering) (from into : List ℕ) → Contains (transfer_foot o from into) (touch from access.Write)
transfer_writes Less from into = (0, omega arith, refl)
transfer_writes Equal from into = (0, omega arith, refl)
transfer_writes Greater from into = (1, omega arith, refl)

pub transfer_adds : (o : Ordering) (from into : List ℕ) → key_cmp from into ≡ o → same_key from into ≡ false → Contains (transfer_foot o from into) (touch into access.Add)
transfer_adds Less from into e apart = (1, omega arith, refl)
transfer_adds Equal from into e apart = absurd (let same : true ≡ false = sym (ap (λ (o : Ordering). elim o [ Less ↦ false | Equal ↦ true | Greater ↦ false ]) e) ∙ apart in cc)
transfer_adds Greater from into e apart = (0, omega arith, refl)

deposit_use : (key : List ℕ) (amount : ℕ) (q : List ℕ) (b : Bool) → same_key q key ≡ b → Use (Deposit key amount) q
deposit_use key amount q true e = Adds (rw (tied_keys q key e) (0, omega arith, refl)) (λ holds. inr (amount, λ o. ap (λ (b : Bool). cond b (credit amount o) o) e))
deposit_use key amount q false e = Idle (λ holds o. ap (λ (b : Bool). cond b (credit amount o) o) e)

either_way : (b : Bool) (o : Option ℕ) → cond b o o ≡ o
either_way true o = refl
either_way false o = refl

withdraw_use : (key : List ℕ) (amount : ℕ) (q : List ℕ) (b : Bool) → same_key q key ≡ b → Use (Withdraw key amount) q
withdraw_use key amount q true e = Writes (rw (tied_keys q key e) (0, omega arith, refl))
withdraw_use key amount q false e = Idle (λ holds o. ap (λ (b : Bool). cond holds (cond b (debit amount o) o) o) e ∙ either_way holds o)

-- what a transfer makes of the value at a key, given whether its two keys are equal, whether its test holds, and whether the key is its first or its second one
abbrev transfer_step : Bool → Bool → Bool → Bool → ℕ → Option ℕ → Option ℕ
transfer_step s holds first second amount o = cond s o (cond holds (cond first (debit amount o) (cond second (credit amount o) o)) o)

transfer_added : (from into : List ℕ) (amount : ℕ) (q : List ℕ) → same_key from into ≡ false → same_key q from ≡ false → same_key q into ≡ true → AddsAt (Transfer from into amount) q
transfer_added from into amount q s f t true = inr (amount, λ o i. transfer_step (s i) true (f i) (t i) amount o)
transfer_added from into amount q s f t false = inl (λ o i. transfer_step (s i) false (f i) (t i) amount o)

transfer_use : (from into : List ℕ) (amount : ℕ) (q : List ℕ) (s f t : Bool) → same_key from into ≡ s → same_key q from ≡ f → same_key q into ≡ t → Use (Transfer from into amount) q
transfer_use from into amount q true f t es ef et = Idle (λ holds o i. transfer_step (es i) holds (same_key q from) (same_key q into) amount o)
transfer_use from into amount q false true t es ef et = Writes (rw (tied_keys q from ef) (transfer_writes (key_cmp from into) from into))
transfer_use from into amount q false false true es ef et =
    Adds (rw (tied_keys q into et) (transfer_adds (key_cmp from into) from into refl es)) (transfer_added from into amount q es ef et)
transfer_use from into amount q false false false es ef et = Idle (λ holds o. (λ i. transfer_step (es i) holds (ef i) (et i) amount o) ∙ either_way holds o)

pub use_of : (op : BankOp) (q : List ℕ) → Use op q
use_of (Deposit key amount) q = deposit_use key amount q (same_key q key) refl
use_of (Withdraw key amount) q = withdraw_use key amount q (same_key q key) refl
use_of (Transfer from into amount) q = transfer_use from into amount q (same_key from into) (same_key q from) (same_key q into) refl refl refl
use_of (Balance key) q = Idle (λ holds o. refl)
use_of Checkpoint q = Idle (λ holds o. refl)
