use Rattle.std.proofs.Common.{rules}
use Rattle.gp_phase.proofs.phases.call_round.Goals as goal

pub returns-after-push-clause-asked : goal.returns-after-push-clause-asked
returns-after-push-clause-asked g c = search rules
