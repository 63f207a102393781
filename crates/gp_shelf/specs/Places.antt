-- Which disk belongs to which node.
use Rattle.std.specs.Prelude.{◌≢◌, ℕ, ◌+◌, ◌-◌, ◌<◌, nat_lt, cond}
use Rattle.gp_round.specs.Counts.{Counts}

-- how many nodes have a log
abbrev pub logged : Counts → ℕ
logged n = n.acceptors + n.coordinators

-- the place of the disk of node k of these, the acceptors before the coordinators
abbrev pub place_at : Counts → ℕ → ℕ
place_at n k = cond (nat_lt k n.acceptors) k (7 + (k - n.acceptors))

-- the disk at this place is of no node
abbrev pub IsOther : Counts → ℕ → Type 0
IsOther n i = (k : ℕ) → k < logged n → i ≢ place_at n k
