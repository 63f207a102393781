use Rattle.std.proofs.Common.{rules}
use Rattle.gp_text.proofs.offer_lines.offer_by.Goals as goal

pub returns-in_err-proposer : goal.returns-in_err-proposer
returns-in_err-proposer c = search rules

pub returns-in-Offer-2 : goal.returns-in-Offer-2
returns-in-Offer-2 c = search rules
