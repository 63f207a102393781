use Rattle.std.proofs.Common.{rules}
use Rattle.gp_round.proofs.subsets.Subsets.new.Goals as goal

pub returns : goal.returns
returns c = search rules
