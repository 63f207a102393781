use Rattle.std.proofs.Common.{rules}
use Rattle.gp_adapt.proofs.adapt.Adapt.next.Goals as goal

pub returns-clause-when : goal.returns-clause-when
returns-clause-when c = search rules
