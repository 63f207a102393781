use Rattle.std.proofs.Common.{rules}
use Rattle.gp_adapt.proofs.course.Course.clash.Goals as goal

pub returns : goal.returns
returns c = search rules
