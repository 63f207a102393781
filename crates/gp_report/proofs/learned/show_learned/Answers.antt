use Rattle.std.proofs.Common.{rules}
use Rattle.gp_report.proofs.learned.show_learned.Goals as goal

pub returns-clause-written : goal.returns-clause-written
returns-clause-written c = search rules
