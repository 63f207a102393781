use Rattle.std.proofs.Common.{◌≡◌, true, take}
use Rattle.std.specs.List.{list_all}
use Rattle.gp_history.specs.Sequence.{history_of}
use Rattle.gp_history.specs.Walks.{behind}
use Rattle.gp_history.proofs.walks.is_behind.Given as goal

abbrev pub invariant-loop-p : goal.invariant-loop-p
invariant-loop-p g l =
    let sequence = g.H.Hist.sequence in
    list_all (behind (history_of (sequence l.a)) (history_of (sequence l.b)) (history_of (sequence l.kept)) l.d) (take l.p (sequence l.a)) ≡ true
