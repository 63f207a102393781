use Rattle.std.proofs.Common.{sym, ap, ◌∙◌, subst}
use Rattle.gp_cell.specs.Lawful.{paxos_legal}
use Rattle.gp_stage.specs.Held.{HeldCells, whole_list}
use Rattle.gp_stage.specs.Kept.{AreHeld}
use Rattle.gp_stage.proofs.Keeping.{list_of_lead}
use Rattle.gp_stage.proofs.Closing.{all_cells, closed_list}
use Rattle.gp_stage.proofs.cells.CellStage.into_parts.Goals as goal

pub returns-clause-wire : goal.returns-clause-wire
returns-clause-wire g c = let v = c.self.view_is in (
  ap (λ (h : HeldCells g.row.D.Denot). h.wire) v,
  ap (λ (h : HeldCells g.row.D.Denot). h.nodes) v,
  sym c.self.invariant.held.config_is ∙ ap (λ (h : HeldCells g.row.D.Denot). h.config) v,
)

pub returns-clause-all : goal.returns-clause-all
returns-clause-all g c = let i = c.self.inside in all_cells i.wire i.config i.cells.items i.holder c.self.invariant.held

pub returns-clause-closed : goal.returns-clause-closed
returns-clause-closed g c out x = let i = c.self.inside in let h = c.self.invariant.held in
    closed_list i.wire i.config i.cells.items i.holder h (paxos_legal i.wire.rules.config) out x ∙ sym (list_of_lead i.wire i.config i.cells.items i.holder h) ∙ ap (λ (h : HeldCells g.row.D.Denot). whole_list h) c.self.view_is

pub returns-clause-held : goal.returns-clause-held
returns-clause-held g c = let i = c.self.inside in let v = c.self.view_is in
    subst (λ (h : HeldCells g.row.D.Denot). AreHeld i.wire h.config i.cells.items h.holder) v c.self.invariant.held
