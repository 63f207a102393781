-- Configurations: which numbers are refused, the sizes of quorums, and who owns a round.
use Rattle.std.specs.Prelude.{ℕ, ◌+◌, ◌*◌, ◌/◌, Bool, cond, ◌&&◌, nat_lt, nat_le, nat_eq, Option, Some, None}
use Rattle.gp_round.specs.declared.round.Mode.{Mode}
use Rattle.gp_round.specs.declared.round.Mode.TheVariants.{Single, Multi, Fast}
use Rattle.gp_round.specs.declared.round.Round.{Round}
use Rattle.gp_round.specs.declared.config.TheConstants.{LAST_COUNT}
use Rattle.gp_round.specs.declared.config.BadCount.{BadCount}
use Rattle.gp_round.specs.declared.config.Which.TheVariants.{Acceptors, Coordinators, Learners}
use Rattle.gp_round.specs.Counts.{Counts}

abbrev pub counts : ℕ → ℕ → ℕ → Counts
counts a c l = record { acceptors = a; coordinators = c; learners = l }

abbrev pub is_between : ℕ → ℕ → ℕ → Bool
is_between low high n = nat_le low n && nat_le n high

-- the first number that is out of range
abbrev pub bad_count : ℕ → ℕ → ℕ → Option BadCount
bad_count a c l =
    cond (is_between 3 7 a)
    (cond (is_between 1 5 c)
    (cond (is_between 1 4 l) None (Some (record { which = Learners; given = l })))
    (Some (record { which = Coordinators; given = c })))
    (Some (record { which = Acceptors; given = a }))

-- more than half
abbrev pub majority : ℕ → ℕ
majority n = n / 2 + 1

-- three quarters, rounded up
abbrev pub three_quarters : ℕ → ℕ
three_quarters n = (3 * n + 3) / 4

-- the least size of a quorum of n acceptors
abbrev pub quorum_size : ℕ → Mode → ℕ
quorum_size n Single = majority n
quorum_size n Multi = majority n
quorum_size n Fast = three_quarters n

-- the least size of a quorum of n coordinators
abbrev pub coordinator_quorum_size : ℕ → Mode → ℕ
coordinator_quorum_size n Single = 1
coordinator_quorum_size n Multi = majority n
coordinator_quorum_size n Fast = 1

-- the lead of a round that coordinator c begins
abbrev pub lead_of : Mode → ℕ → ℕ
lead_of Single c = c
lead_of Multi c = 0
lead_of Fast c = c

-- the round of this count and mode for this coordinator
abbrev pub round_of : ℕ → ℕ → Mode → Round
round_of coordinator count mode = record { count = count; mode = mode; lead = lead_of mode coordinator }

-- coordinator c of n may begin the round
abbrev pub is_owner : ℕ → ℕ → Round → Bool
is_owner n c r = is_between 1 LAST_COUNT r.count && nat_lt c n && nat_eq r.lead (lead_of r.mode c)
