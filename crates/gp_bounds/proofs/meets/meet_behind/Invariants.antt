use Rattle.std.proofs.Common.{◌≡◌, take}
use Rattle.std.specs.Prelude.{filter}
use Rattle.gp_history.specs.Sequence.{history_of}
use Rattle.gp_history.specs.Bounds.{in_meet}
use Rattle.gp_bounds.proofs.meets.meet_behind.Given as goal

abbrev pub invariant-loop-k : goal.invariant-loop-k
invariant-loop-k g l = let sequence = g.H.Hist.sequence in history_of (sequence l.kept) ≡ history_of (take l.k (sequence l.a))

abbrev pub invariant-loop-i : goal.invariant-loop-i
invariant-loop-i g l =
    let sequence = g.H.Hist.sequence in
    history_of (sequence l.kept) ≡ history_of (filter (in_meet (history_of (sequence l.a)) (history_of (sequence l.b))) (take l.i (sequence l.a)))
