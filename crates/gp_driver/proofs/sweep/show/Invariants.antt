-- The nodes so far took it.
use Rattle.std.proofs.Common.{[], ◌∷◌}
use Rattle.gp_driver.specs.Roles.{node_of}
use Rattle.gp_driver.specs.Stages.{IsProposer}
use Rattle.gp_driver.proofs.Driving.{Sweeping}
use Rattle.gp_driver.proofs.Going.{WithNodes}
use Rattle.gp_driver.proofs.sweep.show.Given as goal

abbrev pub invariant-loop-i : goal.invariant-loop-i
invariant-loop-i g l =
    WithNodes
    (Sweeping (g.S.Stage.state l.initial.stage).config (g.S.Stage.state l.stage).config (g.S.Stage.state l.initial.stage).run (g.S.Stage.state l.stage).run (g.S.Stage.state l.initial.stage).faults (g.S.Stage.state l.stage).faults (g.S.Stage.state l.stage).is_ready
    (node_of l.role) (l.k ∷ []) l.i l.taken)
    IsProposer (g.S.Stage.state l.initial.stage) (g.S.Stage.state l.stage)
