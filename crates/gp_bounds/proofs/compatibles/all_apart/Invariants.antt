use Rattle.std.proofs.Common.{◌≡◌, true, take}
use Rattle.std.specs.List.{list_all}
use Rattle.gp_history.specs.Sequence.{history_of}
use Rattle.gp_bounds.specs.Agree.{is_apart}
use Rattle.gp_bounds.proofs.compatibles.all_apart.Given as goal

abbrev pub invariant-loop-i : goal.invariant-loop-i
invariant-loop-i g l = list_all (is_apart (history_of (g.H.Hist.sequence l.b)) l.d) (take l.i (g.H.Hist.sequence l.a)) ≡ true
