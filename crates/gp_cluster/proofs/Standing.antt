-- The cells of all nodes of a wire.
use Rattle.std.proofs.Common.{◌≡◌, ℕ, zero, suc, inl, inr, List, [], ◌∷◌, map, refl, sym, ap, ◌∙◌, subst, Some}
use Rattle.std.specs.Prelude.{slice_get}
use Rattle.gp_round.specs.Counts.{Counts}
use Rattle.gp_msg.specs.declared.node.Node.{Node}
use Rattle.gp_msg.specs.declared.record.Record.{Record}
use Rattle.gp_run.specs.Legal.{Legal}
use Rattle.gp_run.specs.Runs.{newest_first}
use Rattle.gp_wire.specs.Lists.{Each, Has, IsDistinct}
use Rattle.gp_wire.specs.Known.{WireState, records}
use Rattle.gp_wire.specs.Ends.{AreOf, IsHeld}
use Rattle.gp_cell.specs.declared.rules.PaxosRules.{PaxosRules}
use Rattle.gp_cell.specs.Cells.{CellState, pass_of}
use Rattle.gp_cell.specs.Working.{IsAt}
use Rattle.gp_cell.specs.Endings.{AreAllCells}
use Rattle.gp_wire.specs.Own.{IsBehind}
use Rattle.gp_ending.proofs.Indexing.{each_of, get_each, each_then}
use Rattle.gp_ending.proofs.Holding.{each_begun}
use Rattle.gp_stage.specs.Held.{AreReady, AreUp, AreCellsOf, HasCell}
use Rattle.gp_ending.proofs.Deciding.{no_some}
use Rattle.gp_cluster.specs.Cells.{IsKnownCell, AreCellsAt, node_in}
use Rattle.gp_cluster.specs.Closing.{IsClosedBy, IsRunOfCells}
use Rattle.gp_cluster.proofs.Settled.{some_is}

module _ {D : Type 0} where
  has_cell : (n : Node) (cells : List (CellState D)) → Has n (map node_in cells) → HasCell n cells
  has_cell n [] h = absurd h
  has_cell n (c ∷ cs) (inl e) = (0, c, refl, sym e)
  has_cell n (c ∷ cs) (inr h) = let r = has_cell n cs h in (suc r.0, r.1, r.2, r.3)

  has_node : (cells : List (CellState D)) (i : ℕ) (c : CellState D) → slice_get cells i ≡ Some c → Has c.node (map node_in cells)
  has_node [] i c e = no_some e
  has_node (x ∷ xs) zero c e = inl (ap node_in (sym (some_is e)))
  has_node (x ∷ xs) (suc i) c e = inr (has_node xs i c e)

  one_place : (cells : List (CellState D)) (i j : ℕ) (c d : CellState D) → IsDistinct (map node_in cells) → slice_get cells i ≡ Some c → slice_get cells j ≡ Some d → c.node ≡ d.node → i ≡ j
  one_place [] i j c d u e f same = no_some e
  one_place (x ∷ xs) zero zero c d u e f same = refl
  one_place (x ∷ xs) zero (suc j) c d u e f same = absurd (u.0 (subst (λ n. Has n (map node_in xs)) (sym same ∙ ap node_in (sym (some_is e))) (has_node xs j d f)))
  one_place (x ∷ xs) (suc i) zero c d u e f same = absurd (u.0 (subst (λ n. Has n (map node_in xs)) (same ∙ ap node_in (sym (some_is f))) (has_node xs i c e)))
  one_place (x ∷ xs) (suc i) (suc j) c d u e f same = ap suc (one_place xs i j c d u.1 e f same)

  owns : (wire : WireState PaxosRules) (cells : List (CellState D)) → Each (λ c. IsAt c wire) cells → AreOf wire.id (map pass_of cells)
  owns wire [] h = tt
  owns wire (c ∷ cs) h = (h.0.own, owns wire cs h.1)

  held : (wire : WireState PaxosRules) (n : Node) (cells : List (CellState D)) → Each (λ c. IsAt c wire) cells → Each IsKnownCell cells → Has n (map node_in cells) → IsHeld n (map pass_of cells)
  held wire n [] a k h = absurd h
  held wire n (c ∷ cs) a k (inl e) = inl (subst (λ m. Has m c.pass.holds) (k.0.node ∙ sym e) a.0.holds)
  held wire n (c ∷ cs) a k (inr h) = inr (held wire n cs a.1 k.1 h)

module _ {D : Type 0} (wire : WireState PaxosRules) (cells : List (CellState D)) (h : AreCellsAt wire cells) where
  each_at : Each (λ (c : CellState D). IsAt c wire) cells
  each_at = each_of (λ c. IsAt c wire) cells h.own

  each_known : Each IsKnownCell cells
  each_known = each_of IsKnownCell cells h.known

  -- they end the wire
  pub all_cells : AreAllCells wire cells
  all_cells = record {
    own = owns wire cells each_at;
    all = λ n there. held wire n cells each_at each_known (subst (Has n) (sym h.nodes) there);
  }

  pub are_ready : AreUp cells → AreReady wire cells
  are_ready up i c e = (get_each (λ x. IsAt x wire) cells each_at i c e, up i c e)

  pub are_cells_of : IsDistinct wire.nodes → AreCellsOf wire.nodes cells
  are_cells_of u = record {
    have = λ n there. has_cell n cells (subst (Has n) (sym h.nodes) there);
    known = λ i c e. subst (Has c.node) h.nodes (has_node cells i c e);
    single = λ i j c d e f same. one_place cells i j c d (subst IsDistinct (sym h.nodes) u) e f same;
  }

  -- what they have seen begins the list with which they close the wire
  pub run_of_cells : (config : Counts) (list : List Record) → config ≡ wire.rules.config → IsClosedBy wire cells list → IsRunOfCells config cells list
  run_of_cells config list same c = record {
    legal = subst (λ k. Legal k (newest_first list)) (sym same) c.legal;
    behind = get_each (λ x. IsBehind x.node (records x.pass) list) cells (subst (λ rs. Each (λ x. IsBehind x.node (records x.pass) rs) cells) (sym c.closed.list)
        (each_begun c.closed.log cells c.closed.lists (each_then IsKnownCell (λ x. x.pass.node ≡ x.node) (λ x k. k.node) cells each_known) (each_then (λ x. IsAt x wire) (λ x. Has x.pass.node x.pass.holds) (λ x a. a.holds) cells each_at)));
  }
