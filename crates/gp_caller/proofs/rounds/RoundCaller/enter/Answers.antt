use Rattle.std.proofs.Common.{rules}
use Rattle.gp_caller.proofs.rounds.RoundCaller.enter.Goals as goal

pub invariant_of-self : goal.invariant_of-self
invariant_of-self c = search rules
