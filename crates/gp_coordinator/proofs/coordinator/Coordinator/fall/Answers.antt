use Rattle.std.proofs.Common.{rules}
use Rattle.gp_coordinator.proofs.coordinator.Coordinator.fall.Goals as goal

pub returns : goal.returns
returns c = search rules
