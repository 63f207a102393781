use Rattle.std.proofs.Common.{rules}
use Rattle.gp_round.proofs.config.Config.new.Goals as goal

pub returns-then-not-contains-2-clause-refused : goal.returns-then-not-contains-2-clause-refused
returns-then-not-contains-2-clause-refused c = search rules
