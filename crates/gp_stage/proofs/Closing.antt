-- The end of a wire, by the cells of a stage.
use Rattle.std.proofs.Common.{◌≡◌, ℕ, zero, suc, List, [], ◌∷◌, ◌++◌, map, slice_get, refl, sym, ap, ◌∙◌, subst, inl, inr, Some}
use Rattle.std.proofs.lemmas.List.{append-nil}
use Rattle.atomic_table.specs.Seated.{TableId}
use Rattle.gp_round.specs.Counts.{Counts}
use Rattle.gp_msg.specs.declared.node.Node.{Node}
use Rattle.gp_msg.specs.declared.record.Record.{Record}
use Rattle.gp_wire.specs.declared.view.Post.{Post}
use Rattle.gp_wire.specs.Lists.{Each, Has}
use Rattle.gp_wire.specs.Rule.{Begins, IsForeign, items}
use Rattle.gp_wire.specs.Known.{WireState, records, old_of}
use Rattle.gp_wire.specs.Ends.{AreOf, IsHeld, AllBegin, Closed}
use Rattle.gp_wire.proofs.Words.{each_back}
use Rattle.gp_cell.specs.declared.rules.PaxosRules.{PaxosRules}
use Rattle.gp_cell.specs.Cells.{CellState, pass_of}
use Rattle.gp_cell.specs.Endings.{AreAllCells}
use Rattle.gp_stage.specs.Kept.{AreHeld}
use Rattle.gp_stage.proofs.Places.{same_value}

module _ {D : Type 0} where
  begins_at : (log : List Post) (cells : List (CellState D)) (i : ℕ) (c : CellState D) → AllBegin log (map pass_of cells) → slice_get cells i ≡ Some c → Begins log (old_of c.pass)
  begins_at log [] i c h e = cc
  begins_at log (x ∷ cells) zero c h e = subst (λ (y : CellState D). Begins log (old_of y.pass)) (same_value x c e) h.0
  begins_at log (x ∷ cells) (suc i) c h e = begins_at log cells i c h.1 e

  pub all_of_wire : (id : TableId) (cells : List (CellState D)) → ((i : ℕ) (c : CellState D) → slice_get cells i ≡ Some c → c.pass.wire ≡ id) → AreOf id (map pass_of cells)
  all_of_wire id [] h = tt
  all_of_wire id (c ∷ cells) h = (h 0 c refl, all_of_wire id cells (λ i x e. h (suc i) x e))

  pub held_at : (n : Node) (cells : List (CellState D)) (i : ℕ) (c : CellState D) → slice_get cells i ≡ Some c → Has n c.pass.holds → IsHeld n (map pass_of cells)
  held_at n [] i c e h = absurd cc
  held_at n (x ∷ cells) zero c e h = inl (subst (λ (y : CellState D). Has n y.pass.holds) (sym (same_value x c e)) h)
  held_at n (x ∷ cells) (suc i) c e h = inr (held_at n cells i c e h)

none_left : (nodes holds : List Node) (rest : List Post) → ((n : Node) → Has n nodes → Has n holds) → Each (IsForeign holds) rest → Each (λ e. Has e.item.node nodes) rest → rest ≡ []
none_left nodes holds [] all foreign inside = refl
none_left nodes holds (e ∷ rest) all foreign inside = absurd (foreign.0 (all e.item.node inside.0))

module _ {D : Type 0} (wire : WireState PaxosRules) (config : Counts) (cells : List (CellState D)) (holder : ℕ) (h : AreHeld wire config cells holder) where
  -- the cells can end the wire
  pub all_cells : AreAllCells wire cells
  all_cells = record {
    own = all_of_wire wire.id cells (λ i c e. (h.placed i c e).own);
    all = λ n there. held_at n cells holder h.lead h.lead_is (h.holds n there);
  }

  -- and the list that this gives is that of the cell which holds all nodes
  pub closed_list : (legal : List Record → Record → Type 0) (out : List Record) → Closed legal wire.nodes (map pass_of cells) out → out ≡ records h.lead.pass
  closed_list legal out c =
      let b = begins_at c.log cells holder h.lead c.lists h.lead_is in
      let inside = each_back (λ (e : Post). Has e.item.node wire.nodes) h.lead.pass.seen b.rest (subst (Each (λ (e : Post). Has e.item.node wire.nodes)) b.split c.ours) in
      c.list ∙ ap items (b.split ∙ ap (λ r. h.lead.pass.seen ++ r) (none_left wire.nodes h.lead.pass.holds b.rest h.holds b.foreign inside) ∙ append-nil h.lead.pass.seen)
