use Rattle.std.proofs.Common.{◌≡◌, ℕ, ◌+◌, ◌≤◌, ◌<◌, false}
use Rattle.gp_history.specs.Walks.{stands_at}
use Rattle.gp_history.proofs.sequence.place_of.Given as goal

-- it does not stand nearer
abbrev pub invariant-loop-distance : goal.invariant-loop-distance
invariant-loop-distance l = (i : ℕ) → l.start ≤ i + l.distance → i < l.start + l.distance → stands_at l.c l.commands i ≡ false
