use Rattle.std.proofs.Common.{rules}
use Rattle.gp_adapt.proofs.course.Course.advance.Goals as goal

pub returns-clause-begins : goal.returns-clause-begins
returns-clause-begins c = search rules
