use Rattle.std.proofs.Common.{rules}
use Rattle.gp_collide.proofs.watch.Watch.see.Goals as goal

pub returns-in-P2b-clause-seen : goal.returns-in-P2b-clause-seen
returns-in-P2b-clause-seen c = search rules
