-- The first cell meets one after another.
use Rattle.std.proofs.Common.{◌≡◌, ℕ, suc, ◌<◌, List, [], ◌∷◌, ◌++◌, map, slice_get, refl, sym, ap, ◌∙◌, subst, append_assoc, arith, Some, option_map}
use Rattle.std.proofs.lemmas.Option.{slice_get-map}
use Rattle.std.proofs.lemmas.List.{map-append, append-nil}
use mathlib.Core.Logic.{dite}
use native.Mathlib.Decide.{ℕ_discrete}
use Rattle.gp_round.specs.Counts.{Counts}
use Rattle.gp_msg.specs.declared.node.Node.{Node}
use Rattle.gp_msg.specs.declared.record.Record.{Record}
use Rattle.gp_wire.specs.declared.view.Post.{Post}
use Rattle.gp_wire.specs.Lists.{Has}
use Rattle.gp_wire.specs.Rule.{Begins, items}
use Rattle.gp_wire.specs.Told.{all_of}
use Rattle.gp_wire.specs.Known.{WireState, PassState, records, record_of, old_of}
use Rattle.gp_wire.specs.Passes.{met, spent}
use Rattle.gp_wire.proofs.Words.{has_left, has_right}
use Rattle.gp_wire.specs.Own.{own, IsBehind}
use Rattle.gp_wire.proofs.OwnRecords.{own_append, own_foreign}
use Rattle.gp_cell.specs.declared.rules.PaxosRules.{PaxosRules}
use Rattle.gp_cell.specs.Cells.{CellState, OwnLawful}
use Rattle.gp_cell.specs.Working.{IsAt}
use Rattle.gp_cell.proofs.Lawfully.{lawful_more}
use Rattle.gp_stage.specs.Held.{with_pass}
use Rattle.gp_stage.specs.Gathered.{HasMet, IsPlaced, IsGathered, AreGathered, AreSameBut, rest_of}
use Rattle.gp_stage.proofs.Places.{same_at, same_list, image_at}

-- what a list that begins with what a pass has seen has of a node that the pass holds was lawful, if it was in that pass's list
pub lawful_begun : (config : Counts) (n : Node) (p : PassState) (list : List Post) → Begins list (old_of p) → Has n p.holds → OwnLawful config n (records p) → OwnLawful config n (items list)
lawful_begun config n p list b h lawful = subst (OwnLawful config n) (sym (ap items b.split ∙ map-append record_of p.seen b.rest))
    (lawful_more config n (records p) (items b.rest) lawful (own_foreign n p.holds b.rest h b.foreign))

pub behind_itself : (n : Node) (rs : List Record) → IsBehind n rs rs
behind_itself n rs = record { more = []; split = sym (append-nil rs); others = refl }

-- and so it is behind what follows, of other nodes
pub behind_more : (n : Node) (rs list more all : List Record) → IsBehind n rs list → all ≡ list ++ more → own n more ≡ [] → IsBehind n rs all
behind_more n rs list more all b e none = record {
  more = b.more ++ more;
  split = e ∙ ap (λ l. l ++ more) b.split ∙ append_assoc rs b.more more;
  others = own_append n b.more more ∙ ap (λ l. l ++ own n more) b.others ∙ none;
}

-- the list that begins with what a pass has seen which holds the node
pub behind_begun : (n : Node) (rs : List Record) (p : PassState) (list : List Post) → Begins list (old_of p) → Has n p.holds → IsBehind n rs (records p) → IsBehind n rs (items list)
behind_begun n rs p list b h behind = behind_more n rs (records p) (items b.rest) (items list) behind (ap items b.split ∙ map-append record_of p.seen b.rest) (own_foreign n p.holds b.rest h b.foreign)

-- it has the same records of the node
pub own_behind : (n : Node) (rs list : List Record) → IsBehind n rs list → own n list ≡ own n rs
own_behind n rs list b = ap (own n) b.split ∙ own_append n rs b.more ∙ ap (λ l. own n rs ++ l) b.others ∙ append-nil (own n rs)

all_same : (hs : List Node) (a b all : List Node) → a ≡ all → b ≡ all → all_of hs a b ≡ all
all_same [] a b all e f = f
all_same (h ∷ hs) a b all e f = e

-- both are of this wire, and so they are once they met
pub placed_met : {D : Type 0} (wire : WireState PaxosRules) (a b : CellState D) → IsPlaced wire a → IsPlaced wire b → IsPlaced wire (with_pass a (met a.pass b.pass))
placed_met wire a b p q = record { own = p.own; all = all_same a.pass.holds a.pass.all b.pass.all wire.nodes p.all q.all; config = p.config; node = p.node }

pub placed_spent : {D : Type 0} (wire : WireState PaxosRules) (b : CellState D) → IsPlaced wire b → IsPlaced wire (with_pass b (spent b.pass))
placed_spent wire b q = record { own = q.own; all = q.all; config = q.config; node = q.node }

module _ {D : Type 0} (old new : List (CellState D)) (at other : ℕ) (m : HasMet old new at other) where
  rest_at : (i : ℕ) → option_map rest_of (slice_get new i) ≡ option_map rest_of (slice_get old i)
  rest_at i = dite (ℕ_discrete i at)
      (λ e. subst (λ j. option_map rest_of (slice_get new j) ≡ option_map rest_of (slice_get old j)) (sym e) (ap (option_map rest_of) m.here ∙ sym (ap (option_map rest_of) m.one_is)))
      (λ n. dite (ℕ_discrete i other)
      (λ e. subst (λ j. option_map rest_of (slice_get new j) ≡ option_map rest_of (slice_get old j)) (sym e) (ap (option_map rest_of) m.there ∙ sym (ap (option_map rest_of) m.two_is)))
      (λ n'. ap (option_map rest_of) (m.others i n n')))

  pub meeting_keeps_rest : AreSameBut old new
  meeting_keeps_rest = same_list (map rest_of new) (map rest_of old) (λ i. slice_get-map rest_of new i ∙ rest_at i ∙ sym (slice_get-map rest_of old i))

module _ {D : Type 0} (wire : WireState PaxosRules) where
  -- once the first cell has met one more
  still : (first c two : CellState D) → Begins (met first.pass two.pass).seen (old_of first.pass) → IsGathered wire.rules.config first c → IsGathered wire.rules.config (with_pass first (met first.pass two.pass)) c
  still first c two b g = record {
    holds = has_left c.node first.pass.holds two.pass.holds g.holds;
    behind = behind_begun c.node (records c.pass) first.pass (met first.pass two.pass).seen b g.holds g.behind;
    lawful = lawful_begun wire.rules.config c.node first.pass (met first.pass two.pass).seen b g.holds g.lawful;
  }

  -- the first cell itself, which has another pass then
  itself : (first : CellState D) (p : PassState) → IsGathered wire.rules.config (with_pass first p) first → IsGathered wire.rules.config (with_pass first p) (with_pass first p)
  itself first p g = record { holds = g.holds; behind = behind_itself first.node (records p); lawful = g.lawful }

  -- the cell that was met
  other_met : (first two : CellState D) → Begins (met first.pass two.pass).seen (old_of two.pass) → Has two.node two.pass.holds → OwnLawful wire.rules.config two.node (records two.pass)
      → IsGathered wire.rules.config (with_pass first (met first.pass two.pass)) (with_pass two (spent two.pass))
  other_met first two b h lawful = record {
    holds = has_right two.node first.pass.holds two.pass.holds h;
    behind = behind_begun two.node (records two.pass) two.pass (met first.pass two.pass).seen b h (behind_itself two.node (records two.pass));
    lawful = lawful_begun wire.rules.config two.node two.pass (met first.pass two.pass).seen b h lawful;
  }

  module _ (old mid new : List (CellState D)) (k : ℕ) (g : AreGathered wire old mid k) (some : 0 < k) (m : HasMet mid new 0 k) (placed : IsPlaced wire m.two) (h : Has m.two.node m.two.pass.holds)
      (lawful : OwnLawful wire.rules.config m.two.node (records m.two.pass)) where
    first_one : g.first ≡ m.one
    first_one = same_at mid 0 g.first m.one g.first_is m.one_is

    old_met : (i : ℕ) (c : CellState D) → i < k → slice_get mid i ≡ Some c → IsGathered wire.rules.config m.one c
    old_met i c l e = subst (λ f. IsGathered wire.rules.config f c) first_one (g.met i c l e)

    new_placed : (i : ℕ) (c : CellState D) → i < suc k → slice_get new i ≡ Some c → IsPlaced wire c
    new_placed i c l e = dite (ℕ_discrete i 0)
        (λ at. subst (IsPlaced wire) (same_at new 0 (with_pass m.one (met m.one.pass m.two.pass)) c m.here (subst (λ j. slice_get new j ≡ Some c) at e)) (placed_met wire m.one m.two (g.placed 0 m.one some m.one_is) placed))
        (λ n. dite (ℕ_discrete i k)
        (λ at. subst (IsPlaced wire) (same_at new k (with_pass m.two (spent m.two.pass)) c m.there (subst (λ j. slice_get new j ≡ Some c) at e)) (placed_spent wire m.two placed))
        (λ n'. g.placed i c (omega (arith, l, n')) (sym (m.others i n n') ∙ e)))

    new_met : (i : ℕ) (c : CellState D) → i < suc k → slice_get new i ≡ Some c → IsGathered wire.rules.config (with_pass m.one (met m.one.pass m.two.pass)) c
    new_met i c l e = dite (ℕ_discrete i 0)
        (λ at. subst (IsGathered wire.rules.config (with_pass m.one (met m.one.pass m.two.pass))) (same_at new 0 (with_pass m.one (met m.one.pass m.two.pass)) c m.here (subst (λ j. slice_get new j ≡ Some c) at e))
        (itself m.one (met m.one.pass m.two.pass) (still m.one m.one m.two m.first (old_met 0 m.one some m.one_is))))
        (λ n. dite (ℕ_discrete i k)
        (λ at. subst (IsGathered wire.rules.config (with_pass m.one (met m.one.pass m.two.pass))) (same_at new k (with_pass m.two (spent m.two.pass)) c m.there (subst (λ j. slice_get new j ≡ Some c) at e))
        (other_met m.one m.two m.second h lawful))
        (λ n'. still m.one c m.two m.first (old_met i c (omega (arith, l, n')) (sym (m.others i n n') ∙ e))))

    -- the first cell's pass holds the nodes of the cells that it met before
    held_before : (i : ℕ) (c : CellState D) → i < k → slice_get old i ≡ Some c → Has c.node m.one.pass.holds
    held_before i c l e = let b = image_at rest_of old mid i c (sym g.same) e in subst (λ n. Has n m.one.pass.holds) (ap (λ (r : _). r.1) b.2) (old_met i b.0 l b.1).holds

    new_lists : (i : ℕ) (c : CellState D) → i < suc k → slice_get old i ≡ Some c → IsBehind c.node (records c.pass) (records (met m.one.pass m.two.pass))
    new_lists i c l e = dite (ℕ_discrete i k)
        (λ at. let same : m.two ≡ c = same_at mid k m.two c m.two_is (g.later k (omega arith) ∙ subst (λ j. slice_get old j ≡ Some c) at e) in
        subst (λ (x : CellState D). IsBehind x.node (records x.pass) (records (met m.one.pass m.two.pass))) same
        (behind_begun m.two.node (records m.two.pass) m.two.pass (met m.one.pass m.two.pass).seen m.second h (behind_itself m.two.node (records m.two.pass))))
        (λ n. behind_begun c.node (records c.pass) m.one.pass (met m.one.pass m.two.pass).seen m.first (held_before i c (omega (arith, l, n)) e)
        (subst (λ (f : CellState D). IsBehind c.node (records c.pass) (records f.pass)) first_one (g.lists i c (omega (arith, l, n)) e)))

    pub gathered_more : AreGathered wire old new (suc k)
    gathered_more = record {
      first = with_pass m.one (met m.one.pass m.two.pass);
      first_is = m.here;
      placed = new_placed;
      met = new_met;
      lists = new_lists;
      same = meeting_keeps_rest mid new 0 k m ∙ g.same;
      later = λ i l. m.others i (λ e. omega (arith, e, l)) (λ e. omega (arith, e, l)) ∙ g.later i (omega (arith, l));
    }

  -- the first cell alone
  pub gathered_one : (cells : List (CellState D)) (c : CellState D) → slice_get cells 0 ≡ Some c → IsPlaced wire c → Has c.node c.pass.holds → OwnLawful wire.rules.config c.node (records c.pass) → AreGathered wire cells cells 1
  gathered_one cells c at placed h lawful = record {
    first = c;
    first_is = at;
    placed = λ i x l e. subst (IsPlaced wire) (only i x l e) placed;
    met = λ i x l e. subst (IsGathered wire.rules.config c) (only i x l e) (record { holds = h; behind = behind_itself c.node (records c.pass); lawful = lawful });
    lists = λ i x l e. subst (λ (y : CellState D). IsBehind y.node (records y.pass) (records c.pass)) (only i x l e) (behind_itself c.node (records c.pass));
    same = refl;
    later = λ i l. refl;
  }
    where
      only : (i : ℕ) (x : CellState D) → i < 1 → slice_get cells i ≡ Some x → c ≡ x
      only i x l e = same_at cells 0 c x at (subst (λ j. slice_get cells j ≡ Some x) (omega (arith, l)) e)

-- a cell at a wire, whose pass is that of its node
pub placed_ready : {D : Type 0} (wire : WireState PaxosRules) (c : CellState D) → IsAt c wire → c.pass.node ≡ c.node → IsPlaced wire c
placed_ready wire c a e = record { own = a.own; all = a.all; config = a.config; node = e }

pub holds_ready : {D : Type 0} (wire : WireState PaxosRules) (c : CellState D) → IsAt c wire → c.pass.node ≡ c.node → Has c.node c.pass.holds
holds_ready wire c a e = subst (λ n. Has n c.pass.holds) e a.holds
