-- The greatest count of the rounds of coordinators, by their cells.
use Rattle.std.proofs.Common.{◌≡◌, ℕ, zero, suc, ◌<◌, ◌≤◌, true, List, [], ◌∷◌, slice_get, refl, sym, ap, ◌∙◌, arith, Option, Some, None}
use Rattle.std.proofs.lemmas.Bool.{ltb-true, lt-ltb}
use mathlib.Core.Logic.{dite}
use native.Mathlib.Decide.{ℕ_discrete}
use Rattle.gp_round.specs.Counts.{Counts}
use Rattle.gp_round.specs.declared.round.Round.{Round}
use Rattle.gp_msg.specs.declared.node.Node.{Node}
use Rattle.gp_msg.specs.declared.node.Node.TheVariants as node
use Rattle.gp_msg.specs.Nodes.{is_present}
use Rattle.gp_run.specs.Runs.{newest_first}
use Rattle.gp_run.specs.States.{coordinator_at}
use Rattle.gp_run.specs.TopCount.{rounds_below, greatest_count, top_of_coordinators}
use Rattle.gp_wire.specs.Known.{WireState, records}
use Rattle.gp_cell.specs.declared.rules.PaxosRules.{PaxosRules}
use Rattle.gp_cell.specs.Cores.{core_at, part_in}
use Rattle.gp_cell.specs.Still.{core_still, entries_append}
use Rattle.gp_cell.proofs.Runs.{core_is}
use Rattle.gp_cell.specs.Cells.{CellState}
use Rattle.gp_cell.proofs.Posting.{nothing_own}
use Rattle.gp_world.proofs.Showing.{greatest-append}
use Rattle.gp_stage.specs.Kept.{AreHeld}
use Rattle.gp_stage.specs.Tops.{top_in, coordinator_top, top_of_cells}

-- the greatest count of the rounds of some nodes is at most this if that of each node is
rounds_up_to : (n : ℕ) (f : ℕ → List Round) (t : ℕ) → ((c : ℕ) → c < n → greatest_count (f c) ≤ t) → greatest_count (rounds_below n f) ≤ t
rounds_up_to zero f t h = omega arith
rounds_up_to (suc n) f t h = let a = rounds_up_to n f t (λ c l. h c (omega (arith, l))) in let b = h n (omega arith) in let e = greatest-append (rounds_below n f) (f n) in omega (arith, a, b, e)

up_to_rounds : (n : ℕ) (f : ℕ → List Round) (c : ℕ) → c < n → greatest_count (f c) ≤ greatest_count (rounds_below n f)
up_to_rounds zero f c l = absurd (omega (arith, l))
up_to_rounds (suc n) f c l = let e = greatest-append (rounds_below n f) (f n) in dite (ℕ_discrete c n)
    (λ is. let s = ap (λ k. greatest_count (f k)) is in omega (arith, e, s))
    (λ other. let h = up_to_rounds n f c (omega (arith, l, other)) in omega (arith, e, h))

-- what one cell adds
abbrev part_of_cell : {D : Type 0} → CellState D → ℕ
part_of_cell c = coordinator_top c.node (top_in (part_in c.core))

module _ {D : Type 0} where
  cells_up_to : (cells : List (CellState D)) (t : ℕ) → ((i : ℕ) (c : CellState D) → slice_get cells i ≡ Some c → part_of_cell c ≤ t) → top_of_cells cells ≤ t
  cells_up_to [] t h = omega arith
  cells_up_to (c ∷ cells) t h = let a = h 0 c refl in let b = cells_up_to cells t (λ i x e. h (suc i) x e) in omega (arith, a, b)

  up_to_cells : (cells : List (CellState D)) (i : ℕ) (c : CellState D) → slice_get cells i ≡ Some c → part_of_cell c ≤ top_of_cells cells
  up_to_cells [] i c e = cc
  up_to_cells (x ∷ cells) zero c e = let s : part_of_cell x ≡ part_of_cell c = ap (λ o. or_none o) e in omega (arith, s)
    where
      or_none : Option (CellState D) → ℕ
      or_none None = 0
      or_none (Some y) = part_of_cell y
  up_to_cells (x ∷ cells) (suc i) c e = let h = up_to_cells cells i c e in omega (arith, h)

module _ {D : Type 0} (wire : WireState PaxosRules) (config : Counts) (cells : List (CellState D)) (holder : ℕ) (h : AreHeld wire config cells holder)
    (cores : (i : ℕ) (c : CellState D) → slice_get cells i ≡ Some c → c.core ≡ core_at c.config c.node (newest_first (records c.pass))) where
  -- the core of a cell is that of the whole run
  core_here : (i : ℕ) (c : CellState D) → slice_get cells i ≡ Some c → c.core ≡ core_at config c.node (newest_first (records h.lead.pass))
  core_here i c e = let b = h.behind i c e in
      cores i c e
      ∙ ap (λ k. core_at k c.node (newest_first (records c.pass))) ((h.placed i c e).config ∙ sym h.config_is)
      ∙ sym (ap (λ l. core_at config c.node (newest_first l)) b.split ∙ ap (core_at config c.node) (entries_append (records c.pass) b.more)
      ∙ core_still config c.node (newest_first b.more) (newest_first (records c.pass)) (nothing_own c.node b.more b.others))

  part_here : (k i : ℕ) (c : CellState D) → slice_get cells i ≡ Some c → c.node ≡ node.Coordinator k → part_of_cell c ≡ greatest_count ((coordinator_at config k (newest_first (records h.lead.pass))).state.round ∷ [])
  part_here k i c e is = (λ j. coordinator_top (is j) (top_in (part_in (core_here i c e j))))
      ∙ ap (λ m. top_in (part_in (core_at config m (newest_first (records h.lead.pass))))) is
      ∙ ap (λ core. top_in (part_in core)) (core_is config (node.Coordinator k) (newest_first (records h.lead.pass)) h.legal)
      ∙ omega arith

  at_most : (i : ℕ) (c : CellState D) (n : Node) → slice_get cells i ≡ Some c → c.node ≡ n → is_present config n ≡ true → coordinator_top n (top_in (part_in c.core)) ≤ top_of_coordinators config (newest_first (records h.lead.pass))
  at_most i c (node.Proposer p) e is there = omega arith
  at_most i c (node.Coordinator k) e is there =
      let a = sym (ap (λ m. coordinator_top m (top_in (part_in c.core))) is) ∙ part_here k i c e is in
      let b = up_to_rounds config.coordinators (λ c. (coordinator_at config c (newest_first (records h.lead.pass))).state.round ∷ []) k (ltb-true k config.coordinators there) in omega (arith, a, b)
  at_most i c (node.Acceptor p) e is there = omega arith
  at_most i c (node.Learner p) e is there = omega arith

  at_least : (k : ℕ) → k < config.coordinators → greatest_count ((coordinator_at config k (newest_first (records h.lead.pass))).state.round ∷ []) ≤ top_of_cells cells
  at_least k l =
      let there = (h.nodes (node.Coordinator k)).0 (lt-ltb k config.coordinators l) in let c = h.cells_are.have (node.Coordinator k) there in
      let a = part_here k c.0 c.1 c.2 c.3 in let b = up_to_cells cells c.0 c.1 c.2 in omega (arith, a, b)

  pub leaders_top : top_of_cells cells ≡ top_of_coordinators config (newest_first (records h.lead.pass))
  leaders_top =
      let a = cells_up_to cells (top_of_coordinators config (newest_first (records h.lead.pass))) (λ i c e. at_most i c c.node e refl ((h.nodes c.node).1 (h.cells_are.known i c e))) in
      let b = rounds_up_to config.coordinators (λ c. (coordinator_at config c (newest_first (records h.lead.pass))).state.round ∷ []) (top_of_cells cells) at_least in omega (arith, a, b)
