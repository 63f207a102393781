use Rattle.std.proofs.Common.{◌-◌, length}
use Rattle.gp_index.proofs.Continuing.{GoesOn}
use Rattle.gp_index.proofs.epoch_history.EpochHistory.in_order_after.Given as goal

abbrev pub invariant-loop-place : goal.invariant-loop-place
invariant-loop-place l = GoesOn l.self l.taken l.ordered l.marks.items

abbrev pub decreases-loop-place : goal.decreases-loop-place
decreases-loop-place l = length l.self - length l.ordered
