use Rattle.std.proofs.Common.{rules}
use Rattle.gp_views.proofs.Commits.{opens}
use Rattle.gp_views.proofs.book.open.Goals as goal

pub open-seen-requires : goal.open-seen-requires
open-seen-requires c = (opens, search rules, c.alone.ensures.1)
