use Rattle.std.proofs.Common.{rules}
use Rattle.gp_round.proofs.round.lead_of.Goals as goal

pub returns-in-Multi : goal.returns-in-Multi
returns-in-Multi c = search rules
