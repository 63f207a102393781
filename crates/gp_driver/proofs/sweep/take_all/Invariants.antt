-- What is left to take leads to the run that is meant.
use Rattle.std.proofs.Common.{take}
use Rattle.gp_run.specs.Messages.{messages}
use Rattle.gp_run.specs.Runs.{run_onto}
use Rattle.gp_driver.specs.Sweeps.{places, takes}
use Rattle.gp_driver.specs.Stages.{AllBut}
use Rattle.gp_driver.proofs.TakingAll.{Taking}
use Rattle.gp_driver.proofs.Going.{WithNodes}
use Rattle.gp_driver.proofs.sweep.take_all.Given as goal

abbrev pub invariant-loop-k : goal.invariant-loop-k
invariant-loop-k g l =
    WithNodes
    (Taking (g.S.Stage.state l.initial.stage).config (g.S.Stage.state l.stage).config (g.S.Stage.state l.initial.stage).run (g.S.Stage.state l.stage).run
    (run_onto (g.S.Stage.state l.initial.stage).config (g.S.Stage.state l.initial.stage).run (takes l.node (places l.kind l.start (take l.end (messages (g.S.Stage.state l.initial.stage).run)))))
    (g.S.Stage.state l.initial.stage).faults (g.S.Stage.state l.stage).faults (g.S.Stage.state l.stage).is_ready l.node l.kind l.end l.k l.taken)
    (AllBut l.node) (g.S.Stage.state l.initial.stage) (g.S.Stage.state l.stage)
