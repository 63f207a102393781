-- The Final messages that are left lead to the run that is meant.
use Rattle.gp_msg.specs.declared.message.MsgKind.TheVariants as Kind
use Rattle.gp_run.specs.Messages.{messages}
use Rattle.gp_driver.specs.Sweeps.{places}
use Rattle.gp_driver.specs.Settling.{closings}
use Rattle.gp_driver.specs.Stages.{IsProposer}
use Rattle.gp_driver.proofs.SettlingCode.{TakingFinals}
use Rattle.gp_driver.proofs.Going.{WithNodes}
use Rattle.gp_driver.proofs.single_rounds.take_finals.Given as goal

abbrev pub invariant-loop-k : goal.invariant-loop-k
invariant-loop-k g l =
    WithNodes
    (TakingFinals (g.S.Stage.state l.initial.stage).config (g.S.Stage.state l.stage).config (g.S.Stage.state l.initial.stage).run (g.S.Stage.state l.stage).run (closings (g.S.Stage.state l.initial.stage).config (places Kind.Final 0 (messages (g.S.Stage.state l.initial.stage).run)) (g.S.Stage.state l.initial.stage).run)
    (g.S.Stage.state l.initial.stage).faults (g.S.Stage.state l.stage).faults (g.S.Stage.state l.stage).is_ready l.k l.taken)
    IsProposer (g.S.Stage.state l.initial.stage) (g.S.Stage.state l.stage)
