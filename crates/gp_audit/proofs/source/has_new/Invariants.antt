use Rattle.std.proofs.Common.{◌≡◌, true, take}
use Rattle.std.specs.List.{list_all}
use Rattle.gp_history.specs.History.{has}
use Rattle.gp_history.specs.Sequence.{history_of}
use Rattle.gp_audit.proofs.source.has_new.Given as goal

abbrev pub invariant-loop-i : goal.invariant-loop-i
invariant-loop-i l = list_all (has (history_of l.known)) (take l.i l.learned) ≡ true
