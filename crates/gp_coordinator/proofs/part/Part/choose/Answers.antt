use Rattle.std.proofs.Common.{rules}
use Rattle.gp_coordinator.proofs.Stepping.{chosen_by}
use Rattle.gp_coordinator.proofs.part.Part.choose.Goals as goal

pub returns : goal.returns
returns c = search (rules, chosen_by)
