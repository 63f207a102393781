-- A world as a stage.
use Rattle.std.specs.Prelude.{[]}
use Rattle.gp_world.specs.State.{WorldState, entries_of}
use Rattle.gp_driver.specs.Stages.{StageState}

-- a world is always ready, and no log is full. It lists no nodes, since none has a disk
abbrev pub stage_of : WorldState → StageState
stage_of w = record { config = w.config; run = entries_of w; nodes = []; faults = 0; is_ready = Unit {0}; is_too_great = λ event size need. ⊥ }
