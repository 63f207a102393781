use Rattle.std.proofs.Common.{rules}
use Rattle.gp_text.specs.Offering.{with_offer}
use Rattle.gp_text.proofs.offer_lines.with_offer.Goals as goal

pub returns-in-Ok : goal.returns-in-Ok
unfolding with_offer
returns-in-Ok c = search rules
