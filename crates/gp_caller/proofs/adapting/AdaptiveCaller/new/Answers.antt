use Rattle.std.proofs.Common.{rules}
use Rattle.gp_caller.proofs.adapting.AdaptiveCaller.new.Goals as goal

pub invariant_of-result : goal.invariant_of-result
invariant_of-result c = search rules
