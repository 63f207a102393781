use Rattle.std.proofs.Common.{rules}
use Rattle.gp_store.proofs.touches.Touches.copying.Goals as goal

pub returns-in-Equal : goal.returns-in-Equal
returns-in-Equal c = search rules
