-- Which round a run begins next.
use Rattle.std.specs.Prelude.{ℕ, ◌+◌, Bool, cond, ◌&&◌, nat_eq, nat_lt, Option, Some, None}
use Rattle.gp_round.specs.declared.round.Mode.TheVariants.{Single, Multi}
use Rattle.gp_round.specs.declared.round.Round.{Round}
use Rattle.gp_caller.specs.declared.policy.TheConstants.{LEADER}
use Rattle.gp_round.specs.declared.config.TheConstants.{LAST_COUNT}

-- the multi round above one
abbrev pub multi_above : Round → Round
multi_above r = record { count = r.count + 1; mode = Multi; lead = 0 }

-- the single round of the leader above one
abbrev pub single_above : Round → Round
single_above r = record { count = r.count + 1; mode = Single; lead = LEADER }

-- the next round above the highest one, given whether the first one has collided and how many have begun
abbrev pub next_round : Round → Bool → ℕ → Option Round
next_round highest clashed begun =
    cond (nat_lt highest.count LAST_COUNT)
    (cond (nat_eq begun 0) (Some (multi_above highest)) (cond (nat_eq begun 1 && clashed) (Some (single_above highest)) None))
    None
