use Rattle.std.proofs.Common.{◌≡◌, take}
use Rattle.gp_history.proofs.walks.common_start.Given as goal

abbrev pub invariant-loop-i : goal.invariant-loop-i
invariant-loop-i g l = take l.i (g.H.Hist.sequence l.a) ≡ take l.i (g.H.Hist.sequence l.b)
