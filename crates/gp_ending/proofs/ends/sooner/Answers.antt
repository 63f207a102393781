use Rattle.std.proofs.Common.{rules}
use Rattle.gp_ending.proofs.ends.sooner.Goals as goal

pub returns-in-Some : goal.returns-in-Some
returns-in-Some c = search rules
