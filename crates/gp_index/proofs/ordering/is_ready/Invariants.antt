use Rattle.std.proofs.Common.{◌≡◌, true, List, take}
use Rattle.std.specs.List.{list_all}
use Rattle.gp_command.specs.declared.command.Command.{Command}
use Rattle.gp_history.specs.Sequence.{history_of}
use Rattle.gp_history.specs.Walks.{behind}
use Rattle.gp_index.specs.Ordering.{marks_in}
use Rattle.gp_index.proofs.ordering.is_ready.Given as goal

abbrev pub invariant-loop-p : goal.invariant-loop-p
invariant-loop-p l = (taken : List Command) → l.marks ≡ marks_in l.commands taken → list_all (behind (history_of l.commands) (history_of l.commands) (history_of taken) l.c) (take l.p l.commands) ≡ true
