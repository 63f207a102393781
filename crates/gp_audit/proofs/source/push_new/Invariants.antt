use Rattle.std.proofs.Common.{◌≡◌, ◌++◌, take}
use Rattle.gp_history.specs.Sequence.{history_of}
use Rattle.gp_audit.specs.Noting.{new_proofs}
use Rattle.gp_audit.specs.Sources.{source_cause}
use Rattle.gp_audit.proofs.source.push_new.Given as goal

abbrev pub invariant-loop-i : goal.invariant-loop-i
invariant-loop-i l = l.proofs.items ≡ l.initial.proofs.items ++ new_proofs (history_of l.known) l.at (source_cause l.source) (take l.i l.learned)
