-- Reading an operation on accounts from its words, and from nothing else.
use Rattle.std.proofs.Common.{◌≡◌, ℕ, ◌<◌, ◌^◌, Bool, true, false, cond, List, [], ◌∷◌, Some, None, Option, Result, Ok, Err, refl, sym, ap, ◌∙◌, inl, inr, ◌⊎◌, arith}
use Rattle.std.specs.Prelude.{decimal, codes, OnOk, nat_lt}
use Rattle.std.specs.Str.{bytes_eq}
use Rattle.std.proofs.lemmas.Slice.Eq.{bytes_eq-Decides}
use Rattle.std.proofs.lemmas.Bool.{lt-ltb, ltb-true}
use Rattle.gp_words.specs.Numbers.{number_of}
use Rattle.gp_memory.specs.Results.{◌>>=◌}
use Rattle.gp_words.specs.Spacing.{joined}
use Rattle.gp_words.specs.Tokens.{tokens_of}
use Rattle.gp_words.proofs.NumberLemmas.{number_again, number_spelled}
use Rattle.gp_words.proofs.TokenLemmas.{joined_tokens}
use Rattle.gp_store.specs.declared.form.OpFault.{OpFault}
use Rattle.gp_store.specs.declared.form.OpFault.TheVariants.{BadNumber}
use Rattle.gp_store.specs.Forms.{key_of}
use Rattle.gp_store.proofs.ReadingLemmas.{bound, key_again, key_read}
use Rattle.gp_bank.specs.declared.op.BankOp.{BankOp}
use Rattle.gp_bank.specs.declared.op.BankOp.TheVariants.{Deposit, Withdraw, Transfer, Balance, Checkpoint}
use Rattle.gp_bank.specs.Operations.{IsBankOp, bank_words, bank_text}
use Rattle.gp_bank.specs.Forms.{BankForm, DepositForm, WithdrawForm, TransferForm, BalanceForm, CheckpointForm, form_for, form_of_name, form_of_key, form_of_amount, form_of_transfer, bank_form, amount_of, amount_or_fault, bank_op_of_form, faultless, op_said, bank_op_spelled}
use Rattle.gp_bank.proofs.SpellingLemmas.{tokens_again}

-- ---- what is written is read again

pub form_again : (op : BankOp) → bank_form (bank_words op) ≡ Some (form_for op)
form_again (Deposit key amount) = refl
form_again (Withdraw key amount) = refl
form_again (Transfer from into amount) = refl
form_again (Balance key) = refl
form_again Checkpoint = refl

amount_again : (amount : ℕ) → amount < 2 ^ 32 → amount_of (decimal amount) ≡ Ok amount
unfolding amount_of
amount_again amount lt = rw (number_again amount (omega arith), lt-ltb amount (2 ^ 32) lt) refl

pub op_again : (op : BankOp) → IsBankOp op → bank_op_of_form (form_for op) ≡ Ok op
unfolding bank_op_of_form
op_again (Deposit key amount) r = rw (key_again key r.0, amount_again amount r.1) refl
op_again (Withdraw key amount) r = rw (key_again key r.0, amount_again amount r.1) refl
op_again (Transfer from into amount) r = rw (key_again from r.0, key_again into r.1, amount_again amount r.2) refl
op_again (Balance key) r = rw (key_again key r) refl
op_again Checkpoint r = refl

-- the words of an operation spell it
words_spell : (op : BankOp) → IsBankOp op → bank_op_spelled (bank_words op) ≡ Some op
unfolding bank_op_spelled
words_spell op r = ap op_said (form_again op) ∙ ap faultless (op_again op r)

-- and so does its spelling
pub text_spells : (op : BankOp) → IsBankOp op → bank_op_spelled (tokens_of (bank_text op)) ≡ Some op
text_spells op r = ap bank_op_spelled (tokens_again op r) ∙ words_spell op r

pub text_spells_on_ok : {E : Type 0} (r : Result (Unit {0}) E) (op : BankOp) → OnOk r (IsBankOp op) → OnOk r (bank_op_spelled (tokens_of (bank_text op)) ≡ Some op)
text_spells_on_ok (Ok done) op range = text_spells op range
text_spells_on_ok (Err e) op range = tt

-- ---- what is read is written so

amount_if : (b : Bool) (n amount : ℕ) → cond b (Ok n) (Err BadNumber) ≡ Ok amount → (n ≡ amount) × (b ≡ true)
amount_if true n amount e = (cc, refl)
amount_if false n amount e = absurd cc

amount_found : (o : Option ℕ) (amount : ℕ) → amount_or_fault o ≡ Ok amount → (o ≡ Some amount) × (amount < 2 ^ 32)
amount_found (Some n) amount e =
    let found = amount_if (nat_lt n (2 ^ 32)) n amount e in
    let lt = ltb-true n (2 ^ 32) found.1 in
    let is = found.0 in
    (ap Some is, omega arith)
amount_found None amount e = absurd cc

amount_read : (token : List ℕ) (amount : ℕ) → amount_of token ≡ Ok amount → (token ≡ decimal amount) × (amount < 2 ^ 32)
unfolding amount_of
amount_read token amount e =
    let found = amount_found (number_of token) amount e in
    ((number_spelled token amount found.0).0, found.1)

-- the operation is in range, and the form is the one of its words
pub record IsRead (form : BankForm) (op : BankOp) : Type 0 where
  pub same : form ≡ form_for op
  pub range : IsBankOp op

read_as : (form : BankForm) (made op : BankOp) → made ≡ op → form ≡ form_for made → IsBankOp made → IsRead form op
read_as form made op e same range = record { same = same ∙ ap form_for e; range = rw (← e) range }

made_is : (op other : BankOp) → ◌≡◌ {A = Result BankOp OpFault} (Ok op) (Ok other) → op ≡ other
made_is op other e = cc

pub op_read : (form : BankForm) (op : BankOp) → bank_op_of_form form ≡ Ok op → IsRead form op
unfolding bank_op_of_form
op_read (DepositForm key amount) op e =
    let first = bound (key_of key) (λ k. amount_of amount >>= λ v. Ok (Deposit k v)) op e in
    let second = bound (amount_of amount) (λ v. Ok (Deposit first.0 v)) op first.2 in
    let k = key_read key first.0 first.1 in
    let v = amount_read amount second.0 second.1 in
    read_as (DepositForm key amount) (Deposit first.0 second.0) op (made_is _ _ second.2) (cc (k.0, v.0)) (k.1, v.1)
op_read (WithdrawForm key amount) op e =
    let first = bound (key_of key) (λ k. amount_of amount >>= λ v. Ok (Withdraw k v)) op e in
    let second = bound (amount_of amount) (λ v. Ok (Withdraw first.0 v)) op first.2 in
    let k = key_read key first.0 first.1 in
    let v = amount_read amount second.0 second.1 in
    read_as (WithdrawForm key amount) (Withdraw first.0 second.0) op (made_is _ _ second.2) (cc (k.0, v.0)) (k.1, v.1)
op_read (TransferForm from into amount) op e =
    let first = bound (key_of from) (λ k. key_of into >>= λ j. amount_of amount >>= λ v. Ok (Transfer k j v)) op e in
    let second = bound (key_of into) (λ j. amount_of amount >>= λ v. Ok (Transfer first.0 j v)) op first.2 in
    let third = bound (amount_of amount) (λ v. Ok (Transfer first.0 second.0 v)) op second.2 in
    let k = key_read from first.0 first.1 in
    let j = key_read into second.0 second.1 in
    let v = amount_read amount third.0 third.1 in
    read_as (TransferForm from into amount) (Transfer first.0 second.0 third.0) op (made_is _ _ third.2) (cc (k.0, j.0, v.0)) (k.1, j.1, v.1)
op_read (BalanceForm key) op e =
    let first = bound (key_of key) (λ k. Ok (Balance k)) op e in
    let k = key_read key first.0 first.1 in
    read_as (BalanceForm key) (Balance first.0) op (made_is _ _ first.2) (ap BalanceForm k.0) k.1
op_read CheckpointForm op e = read_as CheckpointForm Checkpoint op (made_is _ _ e) refl tt

-- the tokens of a form
abbrev form_words : BankForm → List (List ℕ)
form_words (DepositForm key amount) = codes "deposit" ∷ key ∷ amount ∷ []
form_words (WithdrawForm key amount) = codes "withdraw" ∷ key ∷ amount ∷ []
form_words (TransferForm from into amount) = codes "transfer" ∷ from ∷ into ∷ amount ∷ []
form_words (BalanceForm key) = codes "balance" ∷ key ∷ []
form_words CheckpointForm = codes "checkpoint" ∷ []

own_words : (op : BankOp) → form_words (form_for op) ≡ bank_words op
own_words (Deposit key amount) = refl
own_words (Withdraw key amount) = refl
own_words (Transfer from into amount) = refl
own_words (Balance key) = refl
own_words Checkpoint = refl

chosen : (b : Bool) (x form : BankForm) (rest : Option BankForm) → cond b (Some x) rest ≡ Some form → ((b ≡ true) × (x ≡ form)) ⊎ (rest ≡ Some form)
chosen true x form rest e = inl (refl, cc)
chosen false x form rest e = inr e

-- the form has this name, or is one of the rest
named : (name word : List ℕ) (x form : BankForm) (rest : Option BankForm) → cond (bytes_eq name word) (Some x) rest ≡ Some form → ((name ≡ word) × (x ≡ form)) ⊎ (rest ≡ Some form)
named name word x form rest e =
    elim (chosen (bytes_eq name word) x form rest e) [
      | inl found ↦ inl ((bytes_eq-Decides name word).0 found.0, found.1)
      | inr other ↦ inr other
    ]

name_words : (name : List ℕ) (form : BankForm) → form_of_name name ≡ Some form → name ∷ [] ≡ form_words form
name_words name form e =
    elim (named name (codes "checkpoint") CheckpointForm form None e) [
      | inl found ↦ rw (← found.1) (ap (λ n. n ∷ []) found.0)
      | inr none ↦ absurd cc
    ]

key_words : (name key : List ℕ) (form : BankForm) → form_of_key name key ≡ Some form → name ∷ key ∷ [] ≡ form_words form
key_words name key form e =
    elim (named name (codes "balance") (BalanceForm key) form None e) [
      | inl found ↦ rw (← found.1) (ap (λ n. n ∷ key ∷ []) found.0)
      | inr none ↦ absurd cc
    ]

amount_words : (name key amount : List ℕ) (form : BankForm) → form_of_amount name key amount ≡ Some form → name ∷ key ∷ amount ∷ [] ≡ form_words form
amount_words name key amount form e =
    elim (named name (codes "deposit") (DepositForm key amount) form _ e) [
      | inl found ↦ rw (← found.1) (ap (λ n. n ∷ key ∷ amount ∷ []) found.0)
      | inr other ↦ elim (named name (codes "withdraw") (WithdrawForm key amount) form None other) [
        | inl found ↦ rw (← found.1) (ap (λ n. n ∷ key ∷ amount ∷ []) found.0)
        | inr none ↦ absurd cc
      ]
    ]

transfer_words : (name from into amount : List ℕ) (form : BankForm) → form_of_transfer name from into amount ≡ Some form → name ∷ from ∷ into ∷ amount ∷ [] ≡ form_words form
transfer_words name from into amount form e =
    elim (named name (codes "transfer") (TransferForm from into amount) form None e) [
      | inl found ↦ rw (← found.1) (ap (λ n. n ∷ from ∷ into ∷ amount ∷ []) found.0)
      | inr none ↦ absurd cc
    ]

form_read : (tokens : List (List ℕ)) (form : BankForm) → bank_form tokens ≡ Some form → tokens ≡ form_words form
form_read [] form e = absurd cc
form_read (name ∷ []) form e = name_words name form e
form_read (name ∷ key ∷ []) form e = key_words name key form e
form_read (name ∷ key ∷ amount ∷ []) form e = amount_words name key amount form e
form_read (name ∷ from ∷ into ∷ amount ∷ []) form e = transfer_words name from into amount form e
form_read (name ∷ from ∷ into ∷ amount ∷ more ∷ others) form e = absurd cc

-- tokens that are read as an operation are its words
pub words_read : (tokens : List (List ℕ)) (form : BankForm) (op : BankOp) → bank_form tokens ≡ Some form → bank_op_of_form form ≡ Ok op → tokens ≡ bank_words op
words_read tokens form op e f = form_read tokens form e ∙ ap form_words (op_read form op f).same ∙ own_words op

without_fault : (r : Result BankOp OpFault) (op : BankOp) → faultless r ≡ Some op → r ≡ Ok op
without_fault (Ok x) op e = cc
without_fault (Err fault) op e = absurd cc

said : (o : Option BankForm) (op : BankOp) → op_said o ≡ Some op → (form : BankForm) × (o ≡ Some form) × (bank_op_of_form form ≡ Ok op)
said None op e = absurd cc
said (Some form) op e = (form, refl, without_fault (bank_op_of_form form) op e)

pub spelled_read : (tokens : List (List ℕ)) (op : BankOp) → bank_op_spelled tokens ≡ Some op → (tokens ≡ bank_words op) × IsBankOp op
unfolding bank_op_spelled
spelled_read tokens op e =
    let found = said (bank_form tokens) op e in
    (words_read tokens found.0 op found.1 found.2, (op_read found.0 op found.2).range)

-- a text that is read as an operation is its spelling
pub text_read : (text : List ℕ) (op : BankOp) → bank_op_spelled (tokens_of text) ≡ Some op → text ≡ bank_text op
text_read text op e = sym (joined_tokens text) ∙ ap joined (spelled_read (tokens_of text) op e).0
