use Rattle.std.proofs.Common.{rules}
use Rattle.gp_proposer.proofs.Proposer.offer.Goals as goal

pub returns-in-Ok-push-clause-next : goal.returns-in-Ok-push-clause-next
returns-in-Ok-push-clause-next c = search rules

pub returns-in-Ok-push-clause-sent : goal.returns-in-Ok-push-clause-sent
returns-in-Ok-push-clause-sent c = search rules

pub returns-in-Err-clause-unchanged : goal.returns-in-Err-clause-unchanged
returns-in-Err-clause-unchanged c = search rules
