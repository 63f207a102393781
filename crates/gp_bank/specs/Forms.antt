-- Reading an operation on accounts from tokens.
use Rattle.std.specs.Prelude.{ℕ, ◌^◌, nat_lt, List, [], ◌∷◌, if◌then◌else◌, codes, decimal, Option, Some, None, Result, Ok, Err}
use Rattle.std.specs.Str.{bytes_eq}
use Rattle.gp_words.specs.Numbers.{number_of}
use Rattle.gp_memory.specs.Results.{◌>>=◌}
use Rattle.gp_store.specs.declared.form.OpFault.{OpFault}
use Rattle.gp_store.specs.declared.form.OpFault.TheVariants.{BadNumber}
use Rattle.gp_store.specs.Forms.{key_of}
use Rattle.gp_bank.specs.declared.op.BankOp.{BankOp}
use Rattle.gp_bank.specs.declared.op.BankOp.TheVariants.{Deposit, Withdraw, Transfer, Balance, Checkpoint}

-- an operation's name, and the tokens of its keys and its amount
pub data BankForm : Type 0 where
  DepositForm : List ℕ → List ℕ → BankForm
  WithdrawForm : List ℕ → List ℕ → BankForm
  TransferForm : List ℕ → List ℕ → List ℕ → BankForm
  BalanceForm : List ℕ → BankForm
  CheckpointForm : BankForm

-- a name alone
abbrev pub form_of_name : List ℕ → Option BankForm
form_of_name name = if bytes_eq name (codes "checkpoint") then Some CheckpointForm else None

-- a name and a key
abbrev pub form_of_key : List ℕ → List ℕ → Option BankForm
form_of_key name key = if bytes_eq name (codes "balance") then Some (BalanceForm key) else None

-- a name, a key and an amount
abbrev pub form_of_amount : List ℕ → List ℕ → List ℕ → Option BankForm
form_of_amount name key amount = if bytes_eq name (codes "deposit") then Some (DepositForm key amount)
    else if bytes_eq name (codes "withdraw") then Some (WithdrawForm key amount)
    else None

-- a name, two keys and an amount
abbrev pub form_of_transfer : List ℕ → List ℕ → List ℕ → List ℕ → Option BankForm
form_of_transfer name from into amount = if bytes_eq name (codes "transfer") then Some (TransferForm from into amount) else None

-- the form that has this name and this number of tokens, if there is one
abbrev pub bank_form : List (List ℕ) → Option BankForm
bank_form (name ∷ []) = form_of_name name
bank_form (name ∷ key ∷ []) = form_of_key name key
bank_form (name ∷ key ∷ amount ∷ []) = form_of_amount name key amount
bank_form (name ∷ from ∷ into ∷ amount ∷ []) = form_of_transfer name from into amount
bank_form _ = None

-- a fault if there is no number below 2^32
abbrev pub amount_or_fault : Option ℕ → Result ℕ OpFault
amount_or_fault (Some n) = if nat_lt n (2 ^ 32) then Ok n else Err BadNumber
amount_or_fault None = Err BadNumber

-- the amount that the token spells
unfoldable pub amount_of : List ℕ → Result ℕ OpFault
amount_of token = amount_or_fault (number_of token)

-- the tokens are read from left to right, and the first fault is the result
unfoldable pub bank_op_of_form : BankForm → Result BankOp OpFault
bank_op_of_form (DepositForm key amount) = do
  k ← key_of key
  v ← amount_of amount
  Ok (Deposit k v)
bank_op_of_form (WithdrawForm key amount) = do
  k ← key_of key
  v ← amount_of amount
  Ok (Withdraw k v)
bank_op_of_form (TransferForm from into amount) = do
  k ← key_of from
  j ← key_of into
  v ← amount_of amount
  Ok (Transfer k j v)
bank_op_of_form (BalanceForm key) = do
  k ← key_of key
  Ok (Balance k)
bank_op_of_form CheckpointForm = Ok Checkpoint

-- the operation, if there is no fault
abbrev pub faultless : Result BankOp OpFault → Option BankOp
faultless (Ok op) = Some op
faultless (Err fault) = None

-- the operation of a form, if there is one
abbrev pub op_said : Option BankForm → Option BankOp
op_said None = None
op_said (Some form) = faultless (bank_op_of_form form)

-- the operation that these tokens spell, if they spell one
unfoldable pub bank_op_spelled : List (List ℕ) → Option BankOp
bank_op_spelled tokens = op_said (bank_form tokens)

-- the form whose tokens are the operation's own words
abbrev pub form_for : BankOp → BankForm
form_for (Deposit key amount) = DepositForm key (decimal amount)
form_for (Withdraw key amount) = WithdrawForm key (decimal amount)
form_for (Transfer from into amount) = TransferForm from into (decimal amount)
form_for (Balance key) = BalanceForm key
form_for Checkpoint = CheckpointForm
