use Rattle.std.proofs.Common.{◌≡◌, take}
use Rattle.gp_seats.specs.Offering.{moves_of}
use Rattle.gp_seats.proofs.offering.moves_of.Given as goal

abbrev pub invariant-loop-offer : goal.invariant-loop-offer
invariant-loop-offer l = l.moves ≡ moves_of l.fn.node (take l.offer-index l.offers)
