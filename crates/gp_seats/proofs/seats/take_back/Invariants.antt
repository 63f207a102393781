use Rattle.std.proofs.Common.{◌≡◌, ◌≤◌, ◌+◌, ◌++◌, length, reverse, vec_capacity}
use Rattle.gp_seats.specs.Seats.{logs_in}
use Rattle.gp_seats.proofs.seats.take_back.Given as goal

abbrev pub invariant-loop-job : goal.invariant-loop-job
invariant-loop-job g l = (logs_in l.left.items ++ reverse l.logs.items ≡ logs_in l.fn.jobs.items ++ reverse l.fn.logs.items)
    × (length (logs_in l.left.items) + length l.logs.items ≤ vec_capacity l.logs)

abbrev pub decreases-loop-job : goal.decreases-loop-job
decreases-loop-job g l = length l.left.items
