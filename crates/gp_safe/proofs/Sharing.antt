-- The join of a history with one that begins with it.
use Rattle.std.proofs.Common.{◌≡◌, sym, List}
use Rattle.gp_command.specs.declared.command.Command.{Command}
use Rattle.gp_history.specs.History.{IsPrefix}
use Rattle.gp_history.specs.Sequence.{history_of}
use Rattle.gp_history.specs.Bounds.{join}
use Rattle.gp_history.proofs.Bound.{extended_by}
use Rattle.gp_history.proofs.Joins.{history_of_is}

pub join_of_start : (xs ys : List Command) → IsPrefix (history_of xs) (history_of ys) → history_of ys ≡ join (history_of xs) (history_of ys)
unfolding join
join_of_start xs ys p = sym (extended_by (history_of xs) (history_of ys) (history_of_is xs) (history_of_is ys) p)
