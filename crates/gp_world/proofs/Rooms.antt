-- A message of an epoch that is not the last of its type can be taken by every node.
use Rattle.std.proofs.Common.{◌<◌, ◌-◌, ◌^◌, arith}
use Rattle.gp_msg.specs.Messages.{Stamped, Offered, InEpoch, Final, epoch_of, closed_by}
use Rattle.gp_learner.specs.Epochs.{LearnerInEpoch, CanTake}

pub closes_no_last : (m : Stamped) → epoch_of m < 2 ^ 32 - 1 → closed_by m < 2 ^ 32 - 1
closes_no_last (Offered c) h = h
closes_no_last (InEpoch e m) h = omega arith
closes_no_last (Final e l v) h = h

pub learner_can_take : (s : LearnerInEpoch) (m : Stamped) → epoch_of m < 2 ^ 32 - 1 → CanTake s m
learner_can_take s m h = λ own. omega (arith, own, h)
