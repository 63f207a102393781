use Rattle.std.proofs.Common.{◌≡◌, drop}
use Rattle.std.specs.Prelude.{map}
use Rattle.gp_history.specs.Sequence.{history_of}
use Rattle.gp_history.specs.Bounds.{joined, join_all}
use Rattle.gp_bounds.proofs.joins.join_all.Given as goal

abbrev pub invariant-loop-h : goal.invariant-loop-h
invariant-loop-h g l =
    let meaning = λ (x : g.row.H.Denot). history_of (g.H.Hist.sequence x) in
    joined (meaning l.all) (map meaning (drop l.h-index l.list)) ≡ join_all (map meaning l.list)
