use Rattle.std.proofs.Common.{rules}
use Rattle.gp_round.proofs.config.Config.quorum.Goals as goal

pub returns-in-Fast-clause-value : goal.returns-in-Fast-clause-value
returns-in-Fast-clause-value c = search rules
