-- The stage as it begins: one cell has met all others, and has looked at every message.
use Rattle.std.proofs.Common.{◌≡◌, ◌≢◌, ℕ, ◌<◌, ◌≤◌, List, length, map, slice_get, sym, ap, ◌∙◌, subst, arith, Some, option_map}
use Rattle.std.proofs.lemmas.Option.{slice_get-map}
use mathlib.Core.Logic.{dite}
use native.Mathlib.Decide.{ℕ_discrete}
use Rattle.gp_round.specs.Counts.{Counts}
use Rattle.gp_msg.specs.declared.node.Node.{Node}
use Rattle.gp_wire.specs.Lists.{Each, Has}
use Rattle.gp_wire.specs.Known.{WireState, PassState, records}
use Rattle.gp_cell.specs.declared.rules.PaxosRules.{PaxosRules}
use Rattle.gp_cell.specs.Cells.{CellState, IsSameBut, OwnLawful}
use Rattle.gp_stage.specs.Held.{AreAllNodes, AreCellsOf}
use Rattle.gp_stage.specs.Gathered.{AreGathered, AreSameBut, HasLooked, IsPlaced, rest_of}
use Rattle.gp_wire.specs.Own.{IsBehind}
use Rattle.gp_stage.specs.Kept.{AreHeld}
use Rattle.gp_stage.proofs.Places.{same_at, same_list, within}
use Rattle.gp_stage.proofs.Meeting.{behind_itself}
use Rattle.gp_stage.proofs.Runs.{legal_list}
use Rattle.gp_stage.proofs.Moving.{cells_still}

module _ {D : Type 0} (wire : WireState PaxosRules) (config : Counts) (old mid new : List (CellState D)) (n : ℕ) (g : AreGathered wire old mid n) (all_met : length mid ≤ n) (looked : CellState D) (here : slice_get new 0 ≡ Some looked)
    (others : (i : ℕ) → i ≢ 0 → slice_get new i ≡ slice_get mid i) (but : IsSameBut g.first looked) (turn : HasLooked g.first.pass looked.pass) where
  met_at : (i : ℕ) (c : CellState D) → slice_get mid i ≡ Some c → i < n
  met_at i c e = let l = within mid i c e in omega arith

  pub seen_same : records looked.pass ≡ records g.first.pass
  seen_same = ap (λ (p : PassState). records p) turn

  rest_at : (i : ℕ) → option_map rest_of (slice_get new i) ≡ option_map rest_of (slice_get mid i)
  rest_at i = dite (ℕ_discrete i 0)
      (λ is. subst (λ j. option_map rest_of (slice_get new j) ≡ option_map rest_of (slice_get mid j)) (sym is)
      (ap (option_map rest_of) here ∙ (λ j. Some (but.0 j, but.1 j, but.2 j, but.3 j, but.4 j)) ∙ sym (ap (option_map rest_of) g.first_is)))
      (λ n. ap (option_map rest_of) (others i n))

  pub rests_same : AreSameBut old new
  rests_same = same_list (map rest_of new) (map rest_of mid) (λ i. slice_get-map rest_of new i ∙ rest_at i ∙ sym (slice_get-map rest_of mid i)) ∙ g.same

  first_placed : IsPlaced wire g.first
  first_placed = g.placed 0 g.first (met_at 0 g.first g.first_is) g.first_is

  pub looked_placed : IsPlaced wire looked
  looked_placed = record {
    own = ap (λ (p : PassState). p.wire) turn ∙ first_placed.own;
    all = ap (λ (p : PassState). p.all) turn ∙ first_placed.all;
    config = but.0 ∙ first_placed.config;
    node = ap (λ (p : PassState). p.node) turn ∙ first_placed.node ∙ sym but.1;
  }

  pub one_of : (P : CellState D → Type 0) → P looked → ((i : ℕ) (c : CellState D) → slice_get mid i ≡ Some c → P c) → (i : ℕ) (c : CellState D) → slice_get new i ≡ Some c → P c
  one_of P one rest i c e = dite (ℕ_discrete i 0)
      (λ is. subst P (same_at new 0 looked c here (subst (λ j. slice_get new j ≡ Some c) is e)) one)
      (λ n. rest i c (sym (others i n) ∙ e))

  module _ (config_is : config ≡ wire.rules.config) (nodes : AreAllNodes config wire.nodes) (cells : AreCellsOf wire.nodes old) where
    pub holds_node : (n : Node) → Has n wire.nodes → Has n looked.pass.holds
    holds_node n there = let c = (cells_still old mid g.same wire.nodes cells).have n there in
        subst (Has n) (sym (ap (λ (p : PassState). p.holds) turn)) (subst (λ m. Has m g.first.pass.holds) c.3 (g.met c.0 c.1 (met_at c.0 c.1 c.2) c.2).holds)

    lawful_of : (n : Node) → Has n wire.nodes → OwnLawful config n (records looked.pass)
    lawful_of n there = let c = (cells_still old mid g.same wire.nodes cells).have n there in
        subst (λ k. OwnLawful k n (records looked.pass)) (sym config_is)
        (subst (OwnLawful wire.rules.config n) (sym seen_same) (subst (λ m. OwnLawful wire.rules.config m (records g.first.pass)) c.3 (g.met c.0 c.1 (met_at c.0 c.1 c.2) c.2).lawful))

    pub held_first : Each (λ e. Has e.item.node looked.pass.all) looked.pass.seen → AreHeld wire config new 0
    held_first inside = record {
      config_is = config_is;
      nodes = nodes;
      placed = one_of (IsPlaced wire) looked_placed (λ i c e. g.placed i c (met_at i c e) e);
      cells_are = cells_still old new rests_same wire.nodes cells;
      lead = looked;
      lead_is = here;
      holds = holds_node;
      behind = one_of (λ c. IsBehind c.node (records c.pass) (records looked.pass)) (behind_itself looked.node (records looked.pass))
          (λ i c e. subst (IsBehind c.node (records c.pass)) (sym seen_same) (g.met i c (met_at i c e) e).behind);
      legal = legal_list config wire.nodes looked.pass.seen (subst (λ a. Each (λ e. Has e.item.node a) looked.pass.seen) looked_placed.all inside) lawful_of;
    }
