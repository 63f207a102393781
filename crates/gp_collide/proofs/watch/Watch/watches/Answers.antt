use Rattle.std.proofs.Common.{rules}
use Rattle.gp_collide.proofs.watch.Watch.watches.Goals as goal

pub returns-then-epoch-self : goal.returns-then-epoch-self
returns-then-epoch-self c = search rules
