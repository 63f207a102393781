use Rattle.std.proofs.Common.{rules}
use Rattle.gp_epoch.proofs.Sets.{has_is_contains}
use Rattle.gp_epoch.proofs.done.Done.has.Goals as goal

pub returns : goal.returns
returns c = search (rules, has_is_contains)
