-- What an operation does to accounts and what it replies, and the same for a command.
use Rattle.std.specs.Prelude.{ℕ, Bool, nat_le, if◌then◌else◌, List, Option, Some, None}
use Rattle.std.specs.FinMap.{empty}
use Rattle.std.specs.Ordering.{eq_by_cmp}
use Rattle.gp_command.specs.declared.command.Command.{Command}
use Rattle.gp_command.specs.Key.{key_cmp}
use Rattle.gp_replica.specs.declared.reply.Reply.{Reply}
use Rattle.gp_replica.specs.declared.reply.Reply.TheVariants.{Done, Absent, Yes, No, Value}
use Rattle.gp_replica.specs.Machines.{Rules}
use Rattle.gp_bank.specs.declared.op.BankOp.{BankOp}
use Rattle.gp_bank.specs.declared.op.BankOp.TheVariants.{Deposit, Withdraw, Transfer, Balance, Checkpoint}
use Rattle.gp_bank.specs.Drafts.{bank_op}
use Rattle.gp_bank.specs.Accounts.{Accounts, balance_at, credited, debited}

-- the account has at least this amount
abbrev pub covers : Accounts → List ℕ → ℕ → Bool
covers accounts key amount = nat_le amount (balance_at accounts key)

-- the accounts after the amount went from the first account to the second
abbrev pub moved : Accounts → List ℕ → List ℕ → ℕ → Accounts
moved accounts from into amount = debited (credited accounts into amount) from amount

-- the accounts after an operation
abbrev pub bank_effect : Accounts → BankOp → Accounts
bank_effect accounts (Deposit key amount) = credited accounts key amount
bank_effect accounts (Withdraw key amount) = if covers accounts key amount then debited accounts key amount else accounts
bank_effect accounts (Transfer from into amount) =
    if eq_by_cmp key_cmp from into then accounts
    else if covers accounts from amount then moved accounts from into amount
    else accounts
bank_effect accounts (Balance key) = accounts
bank_effect accounts Checkpoint = accounts

-- it was granted, or not
abbrev pub granted : Bool → Reply
granted is = if is then Yes else No

-- what an operation on these accounts replies
abbrev pub bank_reply : Accounts → BankOp → Reply
bank_reply accounts (Deposit key amount) = Done
bank_reply accounts (Withdraw key amount) = granted (covers accounts key amount)
bank_reply accounts (Transfer from into amount) = granted (covers accounts from amount)
bank_reply accounts (Balance key) = Value (balance_at accounts key)
bank_reply accounts Checkpoint = Done

-- the effect of an operation; if there is none, nothing changes
abbrev pub effect_if_some : Accounts → Option BankOp → Accounts
effect_if_some accounts None = accounts
effect_if_some accounts (Some op) = bank_effect accounts op

-- the reply of an operation; if there is none, the reply of an absent key
abbrev pub reply_if_some : Accounts → Option BankOp → Reply
reply_if_some accounts None = Absent
reply_if_some accounts (Some op) = bank_reply accounts op

-- the accounts after a command
abbrev pub after_command : Accounts → Command → Accounts
after_command accounts command = effect_if_some accounts (bank_op command.draft)

-- what a command on these accounts replies
abbrev pub reply_to_command : Accounts → Command → Reply
reply_to_command accounts command = reply_if_some accounts (bank_op command.draft)

-- the bank as a machine, which has no account at first
abbrev pub bank_rules : Rules Accounts
bank_rules = record { opening = empty; after = after_command; reply = reply_to_command }
