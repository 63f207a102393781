use Rattle.std.proofs.Common.{◌≡◌, ◌≤◌, ◌++◌, length, reverse}
use Rattle.gp_seats.proofs.seating.split_behind.Given as goal

abbrev pub invariant-loop-passes : goal.invariant-loop-passes
invariant-loop-passes l = (l.fn.passes.items ≡ l.passes.items ++ reverse l.last.items) × (l.fn.count ≤ length l.passes.items)

abbrev pub decreases-loop-passes : goal.decreases-loop-passes
decreases-loop-passes l = length l.passes.items
