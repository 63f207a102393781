-- The greatest count in the durable part of a cell that is up.
use Rattle.std.proofs.Common.{◌≡◌, ℕ, zero, suc, ◌+◌, ◌-◌, ◌<◌, max, List, [], ◌∷◌, ◌++◌, length, slice_get, take, get_or, refl, sym, ap, ◌∙◌, subst, arith, Option, Some, None}
use Rattle.std.proofs.lemmas.Option.{slice_get-get_or, slice_get_read}
use Rattle.std.proofs.lemmas.List.{take_more}
use Rattle.gp_round.specs.Counts.{Counts}
use Rattle.gp_msg.specs.declared.node.Node.{Node}
use Rattle.gp_msg.specs.declared.node.Node.TheVariants as node
use Rattle.gp_msg.specs.declared.durable.Durable.{Durable}
use Rattle.gp_msg.specs.Messages.{EpochPart, part_of}
use Rattle.gp_vlog.specs.Logs.{LogState, last}
use Rattle.gp_run.specs.Runs.{newest_first}
use Rattle.gp_wire.specs.Known.{records}
use Rattle.gp_cell.specs.Cores.{opening, core_at, part_in}
use Rattle.gp_cell.specs.Cells.{CellState, Keeps, last_or, last_entry}
use Rattle.gp_cell.proofs.Lasting.{last_there}
use Rattle.gp_stage.specs.Held.{AreUp}
use Rattle.gp_stage.specs.Tops.{AreTrue, top_in, top_of_part, coordinator_top, top_of_cells}
use Rattle.gp_stage.proofs.Places.{same_value}

-- the part of a node to which nothing has happened is of round zero
opening_top : (config : Counts) (n : Node) → top_in (part_in (opening config n)) ≡ 0
opening_top config (node.Proposer p) = refl
opening_top config (node.Coordinator c) = refl
opening_top config (node.Acceptor a) = refl
opening_top config (node.Learner l) = refl

no_last : (ds : List Durable) → last ds ≡ None → ds ≡ []
no_last [] e = refl
no_last (d ∷ ds) e = absurd (some_last d ds e)
  where
    some_last : (d : Durable) (ds : List Durable) → slice_get (d ∷ ds) (length (d ∷ ds) - 1) ≡ None → ⊥
    some_last d ds e = let there = slice_get-get_or (d ∷ ds) (length (d ∷ ds) - 1) d (omega arith) in
        let wrong : None ≡ Some (get_or (d ∷ ds) (length (d ∷ ds) - 1) d) = sym e ∙ there in cc

module _ {D : Type 0} where
  pub top_last : (first part : Option EpochPart) (log : Option (LogState D)) (d : Durable) → Keeps first part log → last_entry log ≡ Some d → top_in part ≡ top_of_part (part_of d).part
  top_last None None None d k e = absurd (let wrong : None ≡ Some d = e in cc)
  top_last None None (Some log) d k e = absurd k
  top_last None (Some p) log d k e = absurd k
  top_last (Some f) None log d k e = absurd k
  top_last (Some f) (Some p) None d k e = absurd k
  top_last (Some f) (Some p) (Some log) d k e = ap (λ (q : EpochPart). top_of_part q.part) (sym k.1 ∙ last_there f log.entries d e)

  none_last : (first part : Option EpochPart) (log : Option (LogState D)) → Keeps first part log → last_entry log ≡ None → top_in first ≡ 0 → top_in part ≡ 0
  none_last None None log k e z = refl
  none_last None (Some p) log k e z = absurd k
  none_last (Some f) None log k e z = absurd k
  none_last (Some f) (Some p) None k e z = absurd k
  none_last (Some f) (Some p) (Some log) k e z = ap (λ (q : EpochPart). top_of_part q.part) (sym k.1 ∙ ap (last_or f) (no_last log.entries e)) ∙ z

  pub top_none : (config : Counts) (n : Node) (part : Option EpochPart) (log : Option (LogState D)) → Keeps (part_in (opening config n)) part log → last_entry log ≡ None → top_in part ≡ 0
  top_none config n part log k e = none_last (part_in (opening config n)) part log k e (opening_top config n)

  -- ---- one cell more

  top_append : (xs : List (CellState D)) (c : CellState D) → top_of_cells (xs ++ c ∷ []) ≡ max (top_of_cells xs) (coordinator_top c.node (top_in (part_in c.core)))
  top_append [] c = omega arith
  top_append (x ∷ xs) c = let h = top_append xs c in omega (arith, h)

  true_more : (xs : List (CellState D)) (c : CellState D) → AreTrue xs → c.core ≡ core_at c.config c.node (newest_first (records c.pass)) → AreTrue (xs ++ c ∷ [])
  true_more [] c h core zero x e = subst (λ (y : CellState D). y.core ≡ core_at y.config y.node (newest_first (records y.pass))) (same_value c x e) core
  true_more [] c h core (suc i) x e = cc
  true_more (y ∷ xs) c h core zero x e = h 0 x e
  true_more (y ∷ xs) c h core (suc i) x e = true_more xs c (λ j z a. h (suc j) z a) core i x e

  -- ---- some of the cells

  pub tops_more : (cells : List (CellState D)) (i : ℕ) (x : CellState D) (top a b : ℕ) → i < length cells → x ≡ get_or cells i x → (AreUp cells → top ≡ top_of_cells (take i cells)) → (x.down ≡ None → a ≡ coordinator_top x.node (top_in (part_in x.core)))
      → b ≡ max top a → AreUp cells → b ≡ top_of_cells (take (i + 1) cells)
  tops_more cells i x top a b l is before one e up =
      let at : slice_get cells i ≡ Some x = slice_get_read cells (length cells) i x refl l is in
      let s = before up in let o = one (up i x at) in
      let more : take (i + 1) cells ≡ take i cells ++ x ∷ [] = take_more cells i x l ∙ ap (λ y. take i cells ++ y ∷ []) (sym is) in
      let t = top_append (take i cells) x in let m = ap top_of_cells more in omega (arith, s, o, e, t, m)

  pub trues_more : (cells : List (CellState D)) (i : ℕ) (x : CellState D) → i < length cells → x ≡ get_or cells i x → AreTrue (take i cells) → x.core ≡ core_at x.config x.node (newest_first (records x.pass)) → AreTrue (take (i + 1) cells)
  trues_more cells i x l is h core = subst AreTrue (sym (take_more cells i x l ∙ ap (λ y. take i cells ++ y ∷ []) (sym is))) (true_more (take i cells) x h core)
