use Rattle.std.proofs.Common.{◌≡◌, take}
use Rattle.gp_history.specs.History.{pushes}
use Rattle.gp_history.specs.Sequence.{history_of}
use Rattle.gp_bounds.proofs.joins.join_onto.Given as goal

abbrev pub invariant-loop-i : goal.invariant-loop-i
invariant-loop-i g l = history_of (g.H.Hist.sequence l.a) ≡ pushes (history_of (g.H.Hist.sequence l.fn.a)) (take l.i (g.H.Hist.sequence l.b))
