-- The spelling, the footprint and the draft of an operation on accounts.
use Rattle.std.specs.Prelude.{ℕ, ◌<◌, ◌^◌, Bool, true, false, List, [], ◌∷◌, IsTrue, codes, decimal}
use Rattle.std.specs.declared.cmp.Ordering.{Ordering}
use Rattle.std.specs.declared.cmp.Ordering.TheVariants.{Less, Equal, Greater}
use Rattle.gp_command.specs.declared.touch.Access.TheVariants as access
use Rattle.gp_command.specs.declared.touch.Touch.{Touch}
use Rattle.gp_command.specs.Key.{is_key, key_cmp}
use Rattle.gp_command.specs.Views.{DraftView}
use Rattle.gp_words.specs.Spacing.{joined}
use Rattle.gp_store.specs.Operations.{touch}
use Rattle.gp_bank.specs.declared.op.BankOp.{BankOp}
use Rattle.gp_bank.specs.declared.op.BankOp.TheVariants.{Deposit, Withdraw, Transfer, Balance, Checkpoint}

-- its keys are valid, and its amount is below 2^32
abbrev pub IsBankOp : BankOp → Type 0
IsBankOp (Deposit key amount) = IsTrue (is_key key) × (amount < 2 ^ 32)
IsBankOp (Withdraw key amount) = IsTrue (is_key key) × (amount < 2 ^ 32)
IsBankOp (Transfer from into amount) = IsTrue (is_key from) × IsTrue (is_key into) × (amount < 2 ^ 32)
IsBankOp (Balance key) = IsTrue (is_key key)
IsBankOp Checkpoint = Unit {0}

-- the words of its spelling
abbrev pub bank_words : BankOp → List (List ℕ)
bank_words (Deposit key amount) = codes "deposit" ∷ key ∷ decimal amount ∷ []
bank_words (Withdraw key amount) = codes "withdraw" ∷ key ∷ decimal amount ∷ []
bank_words (Transfer from into amount) = codes "transfer" ∷ from ∷ into ∷ decimal amount ∷ []
bank_words (Balance key) = codes "balance" ∷ key ∷ []
bank_words Checkpoint = codes "checkpoint" ∷ []

-- its spelling
abbrev pub bank_text : BankOp → List ℕ
bank_text op = joined (bank_words op)

-- it is ordered before or after every other command
abbrev pub is_checkpoint : BankOp → Bool
is_checkpoint Checkpoint = true
is_checkpoint op = false

-- the first key is written and the second one is added to; if they are equal, the key is only written
abbrev pub transfer_foot : Ordering → List ℕ → List ℕ → List Touch
transfer_foot Less from into = touch from access.Write ∷ touch into access.Add ∷ []
transfer_foot Equal from into = touch from access.Write ∷ []
transfer_foot Greater from into = touch into access.Add ∷ touch from access.Write ∷ []

-- the keys that it touches, in ascending order
abbrev pub bank_foot : BankOp → List Touch
bank_foot (Deposit key amount) = touch key access.Add ∷ []
bank_foot (Withdraw key amount) = touch key access.Write ∷ []
bank_foot (Transfer from into amount) = transfer_foot (key_cmp from into) from into
bank_foot (Balance key) = touch key access.Read ∷ []
bank_foot Checkpoint = []

-- the draft of a command that does it
abbrev pub bank_draft_for : BankOp → DraftView
bank_draft_for op = record { checkpoint = is_checkpoint op; foot = bank_foot op; body = bank_text op }
