use Rattle.std.proofs.Common.{◌≡◌, take}
use Rattle.gp_index.specs.Ordering.{marks_in}
use Rattle.gp_index.proofs.epoch_history.EpochHistory.marks_of.Given as goal

abbrev pub invariant-loop-c : goal.invariant-loop-c
invariant-loop-c l = l.marks.items ≡ marks_in (take l.c-index l.commands) l.taken
