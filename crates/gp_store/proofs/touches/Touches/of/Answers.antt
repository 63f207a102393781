use Rattle.std.proofs.Common.{rules}
use Rattle.gp_store.proofs.touches.Touches.of.Goals as goal

pub returns-in-Add : goal.returns-in-Add
returns-in-Add c = search rules
