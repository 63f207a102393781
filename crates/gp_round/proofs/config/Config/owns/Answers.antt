use Rattle.std.proofs.Common.{rules}
use Rattle.gp_round.proofs.config.Config.owns.Goals as goal

pub returns-then-coordinator-self : goal.returns-then-coordinator-self
returns-then-coordinator-self c = search rules
