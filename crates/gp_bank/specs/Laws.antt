-- Definitions that the laws of accounts use.
use Rattle.std.specs.Prelude.{◌≡◌, ◌≢◌, ◌≤◌, ◌++◌, ◌∷◌, ℕ, List, Some, Contains, IsTrue}
use Rattle.gp_command.specs.declared.command.Command.{Command}
use Rattle.gp_command.specs.declared.touch.Access.TheVariants.{Read}
use Rattle.gp_command.specs.declared.touch.Touch.{Touch}
use Rattle.gp_history.specs.History.{History, IsHistory}
use Rattle.gp_history.specs.Sequence.{history_of, no_repeat}
use Rattle.gp_history.specs.Canonical.{canonical}
use Rattle.gp_replica.specs.Machines.{state_after, reply_to}
use Rattle.gp_bank.specs.declared.op.BankOp.{BankOp}
use Rattle.gp_bank.specs.Operations.{bank_foot}
use Rattle.gp_bank.specs.Accounts.{Accounts, balance_at}
use Rattle.gp_bank.specs.Effects.{covers, granted, bank_rules}

-- the operation neither adds to the key nor writes it
abbrev pub LeavesAlone : BankOp → List ℕ → Type 0
LeavesAlone op key = (t : Touch) → Contains (bank_foot op) t → t.access ≢ Read → t.key ≢ key

-- the first account has the amount, and the second is another account
abbrev pub CanMove : Accounts → List ℕ → List ℕ → ℕ → Type 0
CanMove accounts from into amount = (from ≢ into) × (amount ≤ balance_at accounts from)

-- the command is between these in the canonical order of the history
abbrev pub StandsBetween : History → List Command → Command → List Command → Type 0
StandsBetween h before c behind = IsHistory h × (canonical h ≡ before ++ c ∷ behind)

-- the reply to the command in the history says whether the account has the amount after the commands before
abbrev pub IsGrantBehind : History → List Command → Command → List ℕ → ℕ → Type 0
IsGrantBehind h before c key amount = reply_to bank_rules h c ≡ Some (granted (covers (state_after bank_rules before) key amount))

-- the two sequences are linear orders of one history
abbrev pub AreOrdersOfOne : List Command → List Command → Type 0
AreOrdersOfOne cs ds = IsTrue (no_repeat cs) × IsTrue (no_repeat ds) × (history_of cs ≡ history_of ds)
