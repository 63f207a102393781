-- Faults and their count.
use Rattle.std.specs.Prelude.{ℕ, ◌+◌, ◌-◌, ◌^◌, ◌≡◌, ◌<◌, ◌≤◌, List, length, min, Result, Ok, Err}
use Rattle.gp_edge.specs.declared.refusal.Refused.{Refused}
use Rattle.gp_edge.specs.declared.refusal.Refused.TheVariants.{Failed, NoMemory}

-- the next number, or the last one, 2^64 - 1
abbrev pub one_more : ℕ → ℕ
one_more n = min (n + 1) (2 ^ 64 - 1)

-- the count has increased, or is at its last value
abbrev pub Rose : ℕ → ℕ → Type 0
Rose before now = one_more before ≤ now

-- the call was refused, and not because memory ran out
abbrev pub HasFailed : {T : Type 0} → Result T Refused → Type 0
HasFailed (Ok x) = ⊥
HasFailed (Err Failed) = Unit {0}
HasFailed (Err NoMemory) = ⊥

-- the call took nothing of a piece that is not empty
abbrev pub TakesNothing : List ℕ → Result ℕ Refused → Type 0
TakesNothing piece (Ok n) = (n ≡ 0) × (0 < length piece)
TakesNothing piece (Err e) = ⊥
