-- Accounts as a service.
use Rattle.std.specs.Prelude.{ℕ, List, ◌++◌, Option, Some, None, Result, Ok, Err, codes, decimal}
use Rattle.gp_command.specs.declared.command.Command.{Command}
use Rattle.gp_command.specs.Views.{DraftView}
use Rattle.gp_history.specs.Sequence.{history_of}
use Rattle.gp_replica.specs.Machines.{state_of, replies_to}
use Rattle.gp_store.specs.declared.form.OpFault.{OpFault}
use Rattle.gp_bank.specs.declared.op.BankOp.{BankOp}
use Rattle.gp_bank.specs.Operations.{bank_draft_for}
use Rattle.gp_bank.specs.Forms.{BankForm, bank_form, bank_op_of_form}
use Rattle.gp_bank.specs.Accounts.{Accounts}
use Rattle.gp_bank.specs.Effects.{bank_rules}
use Rattle.gp_bank.specs.Sums.{held, deposits, withdrawals}
use Rattle.gp_service.specs.Languages.{Language}
use Rattle.gp_service.specs.Profiles.{Profile}

-- the draft of the operation, if there is no fault
abbrev pub some_drafted : Result BankOp OpFault → Result DraftView OpFault
some_drafted (Ok op) = Ok (bank_draft_for op)
some_drafted (Err fault) = Err fault

-- the same for a form, if there is one
abbrev pub bank_said : Option BankForm → Option (Result DraftView OpFault)
bank_said None = None
bank_said (Some form) = Some (some_drafted (bank_op_of_form form))

-- the operations on accounts by their words
unfoldable pub bank_language : Language
bank_language words = bank_said (bank_form words)

-- a name and its amount
unfoldable pub amount_text : List ℕ → ℕ → List ℕ
amount_text name amount = name ++ decimal amount

-- the line with the sum that all accounts hold, and the sums that were deposited and withdrawn
abbrev pub totals_line : ℕ → ℕ → ℕ → ℕ → List ℕ
totals_line learner total brought taken =
    codes "l" ++ decimal learner ++ amount_text (codes " total ") total ++ amount_text (codes " deposits ") brought ++ amount_text (codes " withdrawals ") taken ++ codes "\n"

-- the line of a learner whose replica ran these commands
unfoldable pub bank_totals : ℕ → List Command → List ℕ
bank_totals learner ran = totals_line learner (held (state_of bank_rules (history_of ran))) (deposits ran) (withdrawals (replies_to bank_rules ran))

-- the pairs are the accounts with their balances
abbrev pub bank_profile : Profile Accounts
bank_profile = record { language = bank_language; rules = bank_rules; pairs = λ accounts. accounts; totals = bank_totals }
