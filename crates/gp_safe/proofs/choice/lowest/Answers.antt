use Rattle.std.proofs.Common.{rules}
use Rattle.gp_safe.proofs.Choosing.{lowest_found}
use Rattle.gp_safe.proofs.choice.lowest.Goals as goal

pub returns-in-Some : goal.returns-in-Some
returns-in-Some c = search (rules, lowest_found)
