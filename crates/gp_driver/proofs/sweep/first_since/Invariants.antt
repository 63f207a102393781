-- None of the kind stood so far.
use Rattle.gp_driver.specs.Stages.{Anyone}
use Rattle.gp_driver.proofs.Driving.{Searching}
use Rattle.gp_driver.proofs.Going.{WithNodes}
use Rattle.gp_driver.proofs.sweep.first_since.Given as goal

abbrev pub invariant-loop-k : goal.invariant-loop-k
invariant-loop-k g l =
    WithNodes
    (Searching (g.S.Stage.state l.initial.stage).config (g.S.Stage.state l.stage).config (g.S.Stage.state l.initial.stage).run (g.S.Stage.state l.stage).run (g.S.Stage.state l.initial.stage).faults (g.S.Stage.state l.stage).faults (g.S.Stage.state l.initial.stage).is_ready (g.S.Stage.state l.stage).is_ready l.kind l.start l.k)
    Anyone (g.S.Stage.state l.initial.stage) (g.S.Stage.state l.stage)
