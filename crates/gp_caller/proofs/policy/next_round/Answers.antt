use Rattle.std.proofs.Common.{rules}
use Rattle.gp_caller.proofs.policy.next_round.Goals as goal

pub returns-in-1-clause-answer : goal.returns-in-1-clause-answer
returns-in-1-clause-answer c = search rules
