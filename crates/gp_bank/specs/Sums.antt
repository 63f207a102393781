-- Sums of balances, and of the amounts that commands deposited and withdrew.
use Rattle.std.specs.Prelude.{ℕ, List, Option, Some}
use Rattle.std.specs.FinMap.{entries}
use Rattle.std.specs.List.{sum_by}
use Rattle.gp_command.specs.declared.command.Command.{Command}
use Rattle.gp_replica.specs.declared.reply.Reply.{Reply}
use Rattle.gp_replica.specs.declared.reply.Reply.TheVariants.{Yes}
use Rattle.gp_bank.specs.declared.op.BankOp.{BankOp}
use Rattle.gp_bank.specs.declared.op.BankOp.TheVariants.{Deposit, Withdraw}
use Rattle.gp_bank.specs.Drafts.{bank_op}
use Rattle.gp_bank.specs.Accounts.{Accounts}

-- the sum of all balances
abbrev pub held : Accounts → ℕ
held accounts = sum_by (λ e. e.1) (entries accounts)

-- the amount of a deposit
abbrev pub brought : Option BankOp → ℕ
brought (Some (Deposit key amount)) = amount
brought op = 0

-- the amount of a withdrawal that was granted
abbrev pub taken : Option BankOp → Reply → ℕ
taken (Some (Withdraw key amount)) Yes = amount
taken op reply = 0

-- the sum of the deposits among these commands
abbrev pub deposits : List Command → ℕ
deposits cs = sum_by (λ c. brought (bank_op c.draft)) cs

-- the sum of the withdrawals that were granted, by these commands and their replies
abbrev pub withdrawals : List (Command × Reply) → ℕ
withdrawals rs = sum_by (λ r. taken (bank_op r.0.draft) r.1) rs
