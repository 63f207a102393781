use Rattle.std.proofs.Common.{length, ap, ◌∙◌}
use Rattle.gp_run.specs.Messages.{messages}
use Rattle.gp_run.specs.Runs.{newest_first}
use Rattle.gp_stage.specs.Held.{HeldCells, whole_list}
use Rattle.gp_stage.proofs.Telling.{as_many_kinds}
use Rattle.gp_stage.proofs.playing.CellStageStage.messages.Goals as goal

pub returns : goal.returns
returns g c = let i = c.self.inside in
    c.len.ensures ∙ i.kinds.ok.0 ∙ as_many_kinds i.wire i.config i.cells.items i.holder i.kinds.items i.sent_top i.top c.self.invariant
    ∙ ap (λ (h : HeldCells g.row.D.Denot). length (messages (newest_first (whole_list h)))) c.self.view_is
