use Rattle.std.proofs.Common.{rules}
use Rattle.gp_epoch.proofs.Sets.{joined_commands}
use Rattle.gp_epoch.proofs.done.Done.add.Goals as goal

pub returns-clause-added : goal.returns-clause-added
returns-clause-added c = search (rules, joined_commands)
