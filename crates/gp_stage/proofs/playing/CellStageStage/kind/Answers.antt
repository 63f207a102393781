use Rattle.std.proofs.Common.{slice_get, ap, ◌∙◌}
use Rattle.std.specs.Option.{option_map}
use Rattle.gp_run.specs.Messages.{messages}
use Rattle.gp_run.specs.Runs.{newest_first}
use Rattle.gp_driver.specs.Kinds.{kind_of}
use Rattle.gp_driver.proofs.Going.{nodes_still}
use Rattle.gp_stage.specs.Held.{HeldCells, whole_list}
use Rattle.gp_stage.proofs.Telling.{copied_at, kind_at}
use Rattle.gp_stage.proofs.playing.CellStageStage.kind.Goals as goal

pub returns-clause-kind : goal.returns-clause-kind
returns-clause-kind g c = let i = c.self.inside in
    c.copied.ensures ∙ copied_at c.deref.result.now c.args.k c.get.result _ c.get.ensures.lookup.1 c.get.ensures.lookup.3 ∙ ap (λ l. slice_get l c.args.k) c.deref.ensures.value
    ∙ kind_at i.wire i.config i.cells.items i.holder i.kinds.items i.sent_top i.top c.self.invariant c.args.k
    ∙ ap (λ (h : HeldCells g.row.D.Denot). option_map kind_of (slice_get (messages (newest_first (whole_list h))) c.args.k)) c.self.view_is

pub returns-clause-nodes : goal.returns-clause-nodes
returns-clause-nodes g c = nodes_still _ _
