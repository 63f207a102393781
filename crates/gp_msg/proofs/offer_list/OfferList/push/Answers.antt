use Rattle.std.proofs.Common.{rules}
use Rattle.gp_msg.proofs.offer_list.OfferList.push.Goals as goal

pub returns-clause-pushed : goal.returns-clause-pushed
returns-clause-pushed c = search rules
