use Rattle.std.proofs.Common.{◌≡◌, ◌≤◌, ◌+◌, ◌++◌, length, reverse, vec_capacity}
use Rattle.gp_seats.specs.Seats.{CanSit, logs_in, seats}
use Rattle.gp_seats.proofs.seats.make_jobs.Given as goal

abbrev pub invariant-loop-pass : goal.invariant-loop-pass
invariant-loop-pass g l = (l.jobs.items ++ seats l.fn.config (reverse l.passes.items) (reverse l.logs.items) ≡ seats l.fn.config l.fn.passes.items l.fn.logs.items)
    × (logs_in l.jobs.items ++ reverse l.logs.items ≡ l.fn.logs.items)
    × CanSit l.fn.config (reverse l.passes.items) (reverse l.logs.items)
    × (length l.jobs.items + length l.passes.items ≤ vec_capacity l.jobs)
    × (length l.fn.logs.items ≤ vec_capacity l.logs)

abbrev pub decreases-loop-pass : goal.decreases-loop-pass
decreases-loop-pass g l = length l.passes.items
