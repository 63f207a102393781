-- The spelling of an operation: its words, and how long it is.
use Rattle.std.proofs.Common.{◌≡◌, ◌≢◌, ℕ, ◌<◌, ◌≤◌, ◌^◌, List, [], ◌∷◌, ◌++◌, length, refl, arith, length-append}
use Rattle.std.specs.Prelude.{decimal, IsTrue}
use Rattle.std.specs.List.{AllByRecursion}
use Rattle.std.proofs.lemmas.Fmt.{length-decimal-le}
use Rattle.gp_command.specs.Key.{is_key}
use Rattle.gp_words.specs.Bytes.{Lacks}
use Rattle.gp_words.specs.Tokens.{is_space, tokens_of}
use Rattle.gp_words.proofs.NumberLemmas.{decimal_spaceless}
use Rattle.gp_words.proofs.TokenLemmas.{tokens_split}
use Rattle.gp_store.proofs.SpellingLemmas.{key_parts, key_spaceless}
use Rattle.gp_bank.specs.declared.op.BankOp.{BankOp}
use Rattle.gp_bank.specs.declared.op.BankOp.TheVariants.{Deposit, Withdraw, Transfer, Balance, Checkpoint}
use Rattle.gp_bank.specs.Operations.{IsBankOp, bank_words, bank_text}

-- the words have no spaces
words_spaceless : (op : BankOp) → IsBankOp op → AllByRecursion (Lacks is_space) (bank_words op)
words_spaceless (Deposit key amount) r = (refl, (key_spaceless key r.0, (decimal_spaceless amount (omega (arith, r.1)), tt)))
words_spaceless (Withdraw key amount) r = (refl, (key_spaceless key r.0, (decimal_spaceless amount (omega (arith, r.1)), tt)))
words_spaceless (Transfer from into amount) r = (refl, (key_spaceless from r.0, (key_spaceless into r.1, (decimal_spaceless amount (omega (arith, r.2)), tt))))
words_spaceless (Balance key) r = (refl, (key_spaceless key r, tt))
words_spaceless Checkpoint r = (refl, tt)

words_there : (op : BankOp) → bank_words op ≢ []
words_there (Deposit key amount) e = cc
words_there (Withdraw key amount) e = cc
words_there (Transfer from into amount) e = cc
words_there (Balance key) e = cc
words_there Checkpoint e = cc

-- the tokens of the spelling are its words
pub tokens_again : (op : BankOp) → IsBankOp op → tokens_of (bank_text op) ≡ bank_words op
tokens_again op r = tokens_split (bank_words op) (words_there op) (words_spaceless op r)

with_amount_short : (key : List ℕ) (amount : ℕ) → IsTrue (is_key key) → amount < 2 ^ 32 → length (key ++ 32 ∷ decimal amount) ≤ 27
with_amount_short key amount is lt =
    let sum = length-append key (32 ∷ decimal amount) in
    let k = (key_parts key is).short in
    let v = length-decimal-le 10 amount (omega arith) (omega arith) (omega arith) in
    omega arith

-- the spelling has at most 53 bytes
pub text_short : (op : BankOp) → IsBankOp op → length (bank_text op) ≤ 53
text_short (Deposit key amount) r = let s = with_amount_short key amount r.0 r.1 in omega arith
text_short (Withdraw key amount) r = let s = with_amount_short key amount r.0 r.1 in omega arith
text_short (Transfer from into amount) r =
    let sum = length-append from (32 ∷ into ++ 32 ∷ decimal amount) in
    let k = (key_parts from r.0).short in
    let s = with_amount_short into amount r.1 r.2 in
    omega arith
text_short (Balance key) r = let s = (key_parts key r).short in omega arith
text_short Checkpoint r = omega arith
