-- What is left of a run: of one that was closed as it stood, and of one that was settled.
use Rattle.std.proofs.Common.{◌≡◌, ℕ, List, map, refl, sym, ap, ◌∙◌, subst, Option, Some, None, Result, OnOk}
use Rattle.std.specs.Prelude.{slice_get, IfSome}
use Rattle.std.specs.List.{All}
use Rattle.gp_round.specs.Counts.{Counts}
use Rattle.gp_msg.specs.declared.record.Record.{Record}
use Rattle.gp_run.specs.Legal.{Legal}
use Rattle.gp_run.specs.Runs.{newest_first}
use Rattle.gp_vlog.specs.Logs.{LogState}
use Rattle.gp_wire.specs.Ends.{Closed}
use Rattle.gp_wire.specs.Known.{WireState, records}
use Rattle.gp_cell.specs.Lawful.{paxos_legal}
use Rattle.gp_wire.specs.Own.{own_events, IsBehind}
use Rattle.gp_cell.specs.declared.rules.PaxosRules.{PaxosRules}
use Rattle.gp_cell.specs.Cells.{CellState, pass_of}
use Rattle.gp_driver.specs.declared.stage.StageFault.{StageFault}
use Rattle.gp_driver.specs.Settling.{settle}
use Rattle.gp_driver.specs.Settled.{Settles}
use Rattle.gp_driver.specs.Stages.{IsProposer, Extends, StageGoes, FailsByNode, HasDriven}
use Rattle.gp_stage.specs.Held.{HeldCells, stage_of, whole_list, seen_by}
use Rattle.gp_stage.specs.Gathered.{AreSameBut, AreBehind}
use Rattle.gp_stage.specs.Kept.{AreHeld}
use Rattle.gp_ending.specs.declared.ends.RunEnd.{RunEnd}
use Rattle.gp_ending.specs.declared.ends.RunEnd.TheVariants.{NoMemory}
use Rattle.gp_cluster.specs.Cells.{IsKnownCell, AreCellsAt, HasLearned, CellsGo, logs_of}
use Rattle.gp_cluster.specs.Closing.{IsClosedBy, EndsAs, IsRunOfCells, StoodTo, IsConclusion, Stood, Settled, SettledTo, Leaves, end_of}
use Rattle.gp_cluster.proofs.Going.{cells_same, cells_on}
use Rattle.gp_cluster.proofs.Standing.{run_of_cells}
use Rattle.gp_cluster.proofs.Settled.{go_same, go_nodes, configs_are, same_rests, settled_steady, settled_to}

ends_none : (meant end : RunEnd) (posted : Option (List Record)) → EndsAs meant posted end → posted ≡ None → end ≡ NoMemory
ends_none meant end None h e = h
ends_none meant end (Some list) h e = absurd (let wrong : Some list ≡ None = e in cc)

module _ {D : Type 0} (faults : D → ℕ) (config : Counts) (commands : ℕ) (cells : List (CellState D)) where
  -- a run that was closed as it stood
  pub left_standing : (wire : WireState PaxosRules) (meant : Option RunEnd) (given end : RunEnd) (posted : Option (List Record)) (logs : List (LogState D)) → AreCellsAt wire cells → config ≡ wire.rules.config
      → IfSome posted (IsClosedBy wire cells) → EndsAs given posted end → logs ≡ logs_of cells → All IsKnownCell cells → StoodTo commands cells meant given → Leaves faults config commands cells meant end posted logs
  left_standing wire meant given end posted logs at same closed ends logs_are known stood = record {
    after = cells;
    concludes = record {
      goes = cells_same faults cells;
      known = known;
      stood = λ some. refl;
      none = ends_none given end posted ends;
      some = λ list is. (
        run_of_cells wire cells at config list same (subst (λ o. IfSome o (IsClosedBy wire cells)) is closed),
        Stood refl (subst (StoodTo commands cells meant) (sym (subst (λ o. EndsAs given o end) is ends)) stood),
      );
    };
    logs_are = logs_are;
  }

  -- a run that was not closed
  pub left_open : (after : List (CellState D)) (end : RunEnd) (posted : Option (List Record)) (logs : List (LogState D)) → CellsGo faults cells after → All IsKnownCell after
      → posted ≡ None → end ≡ NoMemory → logs ≡ logs_of after → Leaves faults config commands cells None end posted logs
  left_open after end posted logs goes known none is logs_are = record {
    after = after;
    concludes = record {
      goes = goes;
      known = known;
      stood = λ some. absurd (some refl);
      none = λ e. is;
      some = λ list e. absurd (let wrong : None ≡ Some list = sym none ∙ e in cc);
    };
    logs_are = logs_are;
  }

  -- a run that was settled
  module _ (wire : WireState PaxosRules) (old new : HeldCells D) (r : Result ℕ StageFault) (config_is : old.config ≡ config) (configs : (i : ℕ) (c : CellState D) → slice_get cells i ≡ Some c → c.config ≡ config)
      (same : AreSameBut cells old.cells) (lists : AreBehind cells (whole_list old)) (legal : Legal config (newest_first (whole_list old)))
      (driven : HasDriven (stage_of faults old) (stage_of faults new) (settle old.config (newest_first (whole_list old))) r) (stages : StageGoes IsProposer (stage_of faults old) (stage_of faults new))
      (failed : FailsByNode (stage_of faults old).nodes (stage_of faults new).nodes r) (brings : OnOk r (Settles old.config (newest_first (whole_list old)))) (held : AreHeld wire new.config new.cells new.holder)
      (closed_is : (out : List Record) → Closed (paxos_legal wire.rules.config) wire.nodes (map pass_of new.cells) out → out ≡ whole_list new) where
    wire_config : wire.rules.config ≡ config
    wire_config = sym held.config_is ∙ driven.same_config ∙ config_is

    first_goes : CellsGo faults cells old.cells
    first_goes = go_same faults cells old.cells same

    pub goes_on : CellsGo faults cells new.cells
    goes_on = cells_on faults cells old.cells new.cells first_goes (go_nodes faults IsProposer (whole_list old) (whole_list new) old.cells new.cells
        (λ i x y a b. (held.placed i y b).config ∙ wire_config ∙ sym (configs_are faults cells old.cells config first_goes configs i x a)) stages.nodes.each)

    lead_list : records held.lead.pass ≡ whole_list new
    lead_list = ap seen_by (sym held.lead_is)

    module _ (list : List Record) (closed : IsClosedBy wire new.cells list) where
      list_is : list ≡ whole_list new
      list_is = closed_is list closed.closed

      run : IsRunOfCells config new.cells list
      run = record {
        legal = subst (λ k. Legal k (newest_first list)) wire_config closed.legal;
        behind = λ i c e. subst (λ rs. IsBehind c.node (records c.pass) rs) (lead_list ∙ sym list_is) (held.behind i c e);
      }

      conclusion : (end : RunEnd) → end ≡ end_of r → ¬ All (HasLearned commands) cells → IsConclusion faults config commands cells new.cells None end list
      conclusion end is lacking = Settled refl (record {
        before = whole_list old;
        run = record { legal = legal; behind = lists };
        lacking = lacking;
        extends = subst (λ rs. Extends (newest_first (whole_list old)) (newest_first rs)) (sym list_is) stages.grows;
        rest = λ i c p e q. subst (λ rs. own_events c.node rs ≡ own_events c.node (whole_list old)) (sym list_is) (same_rests faults cells old.cells new.cells (whole_list old) (whole_list new) first_goes stages.nodes.each i c p e q);
        settled = subst (λ x. SettledTo faults config (whole_list old) cells new.cells list x) (sym is) (settled_to faults config cells old new list config_is list_is first_goes r driven failed brings);
        steady = λ other. settled_steady faults cells old new same r failed (λ e. other (is ∙ e));
      })

    pub left_settled : (end : RunEnd) (posted : Option (List Record)) (logs : List (LogState D)) → IfSome posted (IsClosedBy wire new.cells) → EndsAs (end_of r) posted end → logs ≡ logs_of new.cells → All IsKnownCell new.cells
        → ¬ All (HasLearned commands) cells → Leaves faults config commands cells None end posted logs
    left_settled end posted logs closed ends logs_are known lacking = record {
      after = new.cells;
      concludes = record {
        goes = goes_on;
        known = known;
        stood = λ some. absurd (some refl);
        none = ends_none (end_of r) end posted ends;
        some = λ list is. let c = subst (λ o. IfSome o (IsClosedBy wire new.cells)) is closed in (run list c, conclusion list c end (subst (λ o. EndsAs (end_of r) o end) is ends) lacking);
      };
      logs_are = logs_are;
    }
