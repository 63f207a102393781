use Rattle.std.proofs.Common.{rules}
use Rattle.gp_safe.proofs.choice.VotesValues.is_within.Goals as goal

pub returns : goal.returns
returns c = search rules
