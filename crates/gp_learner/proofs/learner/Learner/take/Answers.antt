use Rattle.std.proofs.Common.{rules}
use Rattle.gp_learner.proofs.learner.Learner.take.Goals as goal

pub returns-in_ok-pass-in-Final-clause-next : goal.returns-in_ok-pass-in-Final-clause-next
returns-in_ok-pass-in-Final-clause-next c = search rules
