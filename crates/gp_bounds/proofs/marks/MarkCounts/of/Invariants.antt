use Rattle.gp_bounds.specs.Marks.{AreCounted}
use Rattle.gp_bounds.proofs.marks.MarkCounts.of.Given as goal

abbrev pub invariant-loop-i : goal.invariant-loop-i
invariant-loop-i g l = AreCounted (g.H.Hist.sequence l.h) l.from l.i l.counts l.are_all_marked
