use Rattle.std.proofs.Common.{◌≡◌, ◌≤◌, length}
use Rattle.std.specs.List.{All}
use Rattle.gp_seats.specs.Offering.{IsKnown}
use Rattle.gp_node_tests.proofs.seated.offers_of.Given as goal

abbrev pub invariant-loop-offer : goal.invariant-loop-offer
invariant-loop-offer l = (length l.list ≤ l.offer-index) × All IsKnown l.list
