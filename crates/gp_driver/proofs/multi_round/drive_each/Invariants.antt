-- The drafts that are left lead to the run that is meant.
use Rattle.std.specs.Vec.Iter.{into_iter_items}
use Rattle.gp_driver.specs.Driving.{all_driven}
use Rattle.gp_driver.specs.Stages.{Nobody}
use Rattle.gp_driver.proofs.DrivingCode.{DrivingEach}
use Rattle.gp_driver.proofs.Going.{WithNodes}
use Rattle.gp_driver.proofs.multi_round.drive_each.Given as goal

abbrev pub invariant-loop-draft : goal.invariant-loop-draft
invariant-loop-draft g l =
    WithNodes
    (DrivingEach (g.S.Stage.state l.fn.stage).config (g.S.Stage.state l.stage).config (g.S.Stage.state l.fn.stage).run (g.S.Stage.state l.stage).run (all_driven (g.S.Stage.state l.fn.stage).config l.fn.drafts.items (g.S.Stage.state l.fn.stage).run) (g.S.Stage.state l.fn.stage).faults (g.S.Stage.state l.stage).faults (g.S.Stage.state l.stage).is_ready (into_iter_items l.draft-iterator) l.events)
    Nobody (g.S.Stage.state l.fn.stage) (g.S.Stage.state l.stage)
