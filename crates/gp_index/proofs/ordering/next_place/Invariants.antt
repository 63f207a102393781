use Rattle.std.proofs.Common.{◌≡◌, List}
use Rattle.gp_command.specs.declared.command.Command.{Command}
use Rattle.gp_history.specs.Sequence.{history_of}
use Rattle.gp_history.specs.Canonical.{is_ready}
use Rattle.gp_index.specs.Ordering.{marks_in}
use Rattle.gp_index.proofs.Ascending.{NonePasses}
use Rattle.gp_index.proofs.ordering.next_place.Given as goal

abbrev pub invariant-loop-k : goal.invariant-loop-k
invariant-loop-k l = (taken : List Command) → l.marks ≡ marks_in l.commands taken → NonePasses (is_ready (history_of l.commands) (history_of taken)) l.commands l.order l.k
