-- What contracts see of a bank.
use Rattle.std.specs.Prelude.{ℕ, ◌+◌, ◌-◌, ◌^◌, min, List}
use Rattle.std.specs.Option.{option_map}
use Rattle.std.specs.FinMap.{insert}
use Rattle.gp_store.specs.Pairs.{Pairs, value_at, count_at}
use Rattle.gp_store.specs.Effects.{put_found}

-- the accounts that are there, each a key with its balance, in ascending order of the keys
abbrev pub Accounts : Type 0
Accounts = Pairs

-- the balance of an account, or 0 if the account is absent
abbrev pub balance_at : Accounts → List ℕ → ℕ
balance_at accounts key = count_at accounts key

-- the accounts with the amount added to the balance, which is at most 2^64 - 1
abbrev pub credited : Accounts → List ℕ → ℕ → Accounts
credited accounts key amount = insert accounts key (min (balance_at accounts key + amount) (2 ^ 64 - 1))

-- the accounts with the amount subtracted from the balance, if the account is there
abbrev pub debited : Accounts → List ℕ → ℕ → Accounts
debited accounts key amount = put_found accounts key (option_map (λ balance. balance - amount) (value_at accounts key))
