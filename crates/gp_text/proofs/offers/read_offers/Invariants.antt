use Rattle.std.proofs.Common.{length}
use Rattle.gp_text.proofs.OfferSteps.{ReadsOn}
use Rattle.gp_text.proofs.offers.read_offers.Given as goal

abbrev pub invariant-loop-rest : goal.invariant-loop-rest
invariant-loop-rest l = ReadsOn l.bytes l.rest l.number l.place l.so_far

abbrev pub decreases-loop-rest : goal.decreases-loop-rest
decreases-loop-rest l = length l.rest
