use Rattle.std.proofs.Common.{rules}
use Rattle.gp_views.proofs.book.Ran.of.Goals as goal

pub open_row-list-requires : goal.open_row-list-requires
open_row-list-requires c = (tt, search rules, c.alone.ensures.1)
