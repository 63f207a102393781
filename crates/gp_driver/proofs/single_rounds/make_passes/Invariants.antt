-- The passes that are left lead to the run that is meant.
use Rattle.std.proofs.Common.{◌-◌}
use Rattle.gp_driver.specs.Settling.{passes}
use Rattle.gp_driver.specs.Stages.{IsProposer}
use Rattle.gp_driver.proofs.SettlingCode.{Settling}
use Rattle.gp_driver.proofs.Going.{WithNodes}
use Rattle.gp_driver.proofs.single_rounds.make_passes.Given as goal

abbrev pub invariant-loop-pass : goal.invariant-loop-pass
invariant-loop-pass g l =
    WithNodes
    (Settling (g.S.Stage.state l.fn.stage).config (g.S.Stage.state l.stage).config (g.S.Stage.state l.fn.stage).run (g.S.Stage.state l.stage).run (passes (g.S.Stage.state l.fn.stage).config l.fn.limit (g.S.Stage.state l.fn.stage).run) (g.S.Stage.state l.fn.stage).faults (g.S.Stage.state l.stage).faults (g.S.Stage.state l.stage).is_ready (l.fn.limit - l._pass) l.events)
    IsProposer (g.S.Stage.state l.fn.stage) (g.S.Stage.state l.stage)
