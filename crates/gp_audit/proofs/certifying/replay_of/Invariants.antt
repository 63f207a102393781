use Rattle.std.proofs.Common.{take}
use Rattle.gp_run.specs.Runs.{newest_first}
use Rattle.gp_audit.specs.Replays.{IsReplayed}
use Rattle.gp_audit.proofs.certifying.replay_of.Given as goal

abbrev pub invariant-loop-at : goal.invariant-loop-at
invariant-loop-at l = IsReplayed l.world.config (newest_first (take l.at l.world.records)) l.learner l.replay
