use Rattle.std.proofs.Common.{rules}
use Rattle.gp_coordinator.proofs.Replying.{length_unanswered}
use Rattle.gp_coordinator.proofs.part.Part.fall.Goals as goal

pub returns : goal.returns
returns c = search (rules, length_unanswered)
