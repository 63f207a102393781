use Rattle.std.proofs.Common.{◌≡◌, take}
use Rattle.gp_run.specs.Runs.{newest_first}
use Rattle.gp_world.specs.State.{entries_of}
use Rattle.gp_retelling.proofs.worlds.world_of.Given as goal

abbrev pub invariant-loop-at : goal.invariant-loop-at
invariant-loop-at l = (l.world.config ≡ l.fn.config) × (entries_of l.world ≡ newest_first (take l.at l.records))
