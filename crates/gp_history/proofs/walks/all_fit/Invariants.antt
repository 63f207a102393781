use Rattle.std.proofs.Common.{◌≡◌, true, take}
use Rattle.std.specs.List.{list_all}
use Rattle.gp_history.specs.Walks.{fits}
use Rattle.gp_history.proofs.walks.all_fit.Given as goal

abbrev pub invariant-loop-i : goal.invariant-loop-i
invariant-loop-i g l = list_all (fits (g.H.Hist.sequence l.a) (g.H.Hist.sequence l.b)) (take l.i (g.H.Hist.sequence l.a)) ≡ true
