use Rattle.std.proofs.Common.{◌≡◌}
use Rattle.gp_seats.specs.Offering.{given_to}
use Rattle.gp_seats.proofs.Giving.{given_first}
use Rattle.gp_seats.proofs.offering.give_each.Given as goal

abbrev pub invariant-loop-i : goal.invariant-loop-i
invariant-loop-i g l = l.jobs.items ≡ given_first (given_to l.offers) l.fn.jobs.items l.i
