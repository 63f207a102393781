-- The cell that makes a step takes over all nodes, and posts a record.
use Rattle.std.proofs.Common.{◌≡◌, ◌≢◌, ℕ, ◌+◌, ◌≤◌, ◌⊎◌, cond, true, false, List, [], ◌∷◌, ◌++◌, length, length-append, map, slice_get, refl, sym, ap, ◌∙◌, subst, inl, inr, arith, Some, option_map}
use Rattle.std.specs.Prelude.{if◌then◌else◌, nat_lt}
use Rattle.std.proofs.lemmas.Option.{slice_get-map}
use Rattle.std.proofs.lemmas.List.{append-nil, length-map}
use mathlib.Core.Logic.{dite}
use native.Mathlib.Decide.{ℕ_discrete}
use Rattle.gp_round.specs.Counts.{Counts}
use Rattle.gp_msg.specs.declared.node.Node.{Node}
use Rattle.gp_msg.specs.declared.record.Record.{Record}
use Rattle.gp_msg.specs.declared.event.Event.{Event}
use Rattle.gp_msg.specs.Messages.{Entry, entry_of}
use Rattle.gp_run.specs.Legal.{Legal, Follows}
use Rattle.gp_msg.specs.Nodes.{node_of}
use Rattle.gp_run.specs.Runs.{newest_first, entry_after}
use Rattle.gp_wire.specs.declared.view.Post.{Post}
use Rattle.gp_wire.specs.Lists.{Has}
use Rattle.gp_wire.specs.Rule.{Begins}
use Rattle.gp_wire.specs.Told.{longer}
use Rattle.gp_wire.specs.Known.{WireState, PassState, HoldsAll, records, record_of, old_of}
use Rattle.gp_wire.specs.Passes.{met, spent}
use Rattle.gp_wire.proofs.Words.{has_right}
use Rattle.gp_wire.specs.Own.{own, IsBehind}
use Rattle.gp_wire.proofs.SameNodes.{same_tells}
use Rattle.gp_cell.specs.Still.{entries_append}
use Rattle.gp_cell.specs.declared.rules.PaxosRules.{PaxosRules}
use Rattle.gp_cell.specs.Lawful.{IsLawful}
use Rattle.gp_cell.proofs.Runs.{lawful_follows}
use Rattle.gp_cell.specs.Cells.{CellState, PostsOne, IsHeldBy}
use Rattle.gp_cell.specs.Passing.{GoesOn}
use Rattle.gp_stage.specs.Held.{with_pass, AreCellsOf}
use Rattle.gp_stage.specs.Gathered.{HasMet, IsPlaced, AreSameBut, rest_of}
use Rattle.gp_stage.specs.Kept.{AreHeld}
use Rattle.gp_stage.proofs.Places.{same_at, same_list, image_at}
use Rattle.gp_stage.proofs.Meeting.{placed_met, placed_spent, meeting_keeps_rest, behind_itself, behind_more, own_behind}

-- ---- cells with other passes

module _ {D R : Type 0} (f : CellState D → R) (node : R → Node) (node_is : (c : CellState D) → node (f c) ≡ c.node) (old new : List (CellState D)) (same : map f new ≡ map f old) where
  -- the cell that was there before, of the same node
  node_before : (i : ℕ) (c : CellState D) → slice_get new i ≡ Some c → (o : CellState D) × (slice_get old i ≡ Some o) × (o.node ≡ c.node)
  node_before i c e = let b = image_at f new old i c same e in (b.0, b.1, sym (node_is b.0) ∙ ap node b.2 ∙ node_is c)

  node_after : (i : ℕ) (o : CellState D) → slice_get old i ≡ Some o → (c : CellState D) × (slice_get new i ≡ Some c) × (c.node ≡ o.node)
  node_after i o e = let b = image_at f old new i o (sym same) e in (b.0, b.1, sym (node_is b.0) ∙ ap node b.2 ∙ node_is o)

  cells_by : (nodes : List Node) → AreCellsOf nodes old → AreCellsOf nodes new
  cells_by nodes h = record {
    have = λ n there. let b = h.have n there in let a = node_after b.0 b.1 b.2 in (b.0, a.0, a.1, a.2 ∙ b.3);
    known = λ i c e. let p = node_before i c e in subst (λ n. Has n nodes) p.2 (h.known i p.0 p.1);
    single = λ i j c d a b e. let p = node_before i c a in let q = node_before j d b in h.single i j p.0 q.0 p.1 q.1 (p.2 ∙ e ∙ sym q.2);
  }

pub cells_still : {D : Type 0} (old new : List (CellState D)) → AreSameBut old new → (nodes : List Node) → AreCellsOf nodes old → AreCellsOf nodes new
cells_still old new same = cells_by rest_of (λ r. r.1) (λ c. refl) old new same

-- ---- a meeting with the cell that holds all nodes

back_none : (xs rest : List Post) (l : List Post) → l ≡ xs ++ rest → length l ≤ length xs → rest ≡ []
back_none xs [] l e s = refl
back_none xs (p ∷ rest) l e s = absurd (let a = ap length e ∙ length-append xs (p ∷ rest) in omega (arith, a, s))

longer_is : (xs ys : List Post) → length xs ≤ length ys → length (longer xs ys) ≤ length ys
longer_is xs ys l = by_test (nat_lt (length xs) (length ys))
  where
    by_test : (b : _) → length (if b then ys else xs) ≤ length ys
    by_test true = omega arith
    by_test false = l

-- the list stays the whole one
pub whole_still : {D : Type 0} (a h : CellState D) → length a.pass.seen ≤ length h.pass.seen → Begins (met a.pass h.pass).seen (old_of h.pass) → (met a.pass h.pass).seen ≡ h.pass.seen
whole_still a h l b = b.split ∙ ap (λ r. h.pass.seen ++ r) (back_none h.pass.seen b.rest (met a.pass h.pass).seen b.split (longer_is a.pass.seen h.pass.seen l)) ∙ append-nil h.pass.seen

module _ {D : Type 0} (wire : WireState PaxosRules) (config : Counts) (old new : List (CellState D)) (holder at : ℕ) (h : AreHeld wire config old holder) (m : HasMet old new at holder) (apart : at ≢ holder) where
  lead_one : h.lead ≡ m.two
  lead_one = same_at old holder h.lead m.two h.lead_is m.two_is

  short_one : length m.one.pass.seen ≤ length m.two.pass.seen
  short_one = subst (λ (x : CellState D). length m.one.pass.seen ≤ length x.pass.seen) lead_one
      (let b = h.behind at m.one m.one_is in let a = ap length b.split ∙ length-append (records m.one.pass) b.more in let p = length-map h.lead.pass.seen record_of in let q = length-map m.one.pass.seen record_of in omega arith)

  whole : (met m.one.pass m.two.pass).seen ≡ m.two.pass.seen
  whole = whole_still m.one m.two short_one m.second

  pub whole_met : records (met m.one.pass m.two.pass) ≡ records h.lead.pass
  whole_met = ap (map record_of) whole ∙ ap (λ (x : CellState D). records x.pass) (sym lead_one)

  -- each cell is one of before, or one of the two
  each : (P : CellState D → Type 0) → P (with_pass m.one (met m.one.pass m.two.pass)) → P (with_pass m.two (spent m.two.pass)) → ((i : ℕ) (c : CellState D) → slice_get old i ≡ Some c → P c)
      → (i : ℕ) (c : CellState D) → slice_get new i ≡ Some c → P c
  each P one two rest i c e = dite (ℕ_discrete i at)
      (λ is. subst P (same_at new at (with_pass m.one (met m.one.pass m.two.pass)) c m.here (subst (λ j. slice_get new j ≡ Some c) is e)) one)
      (λ n. dite (ℕ_discrete i holder)
      (λ is. subst P (same_at new holder (with_pass m.two (spent m.two.pass)) c m.there (subst (λ j. slice_get new j ≡ Some c) is e)) two)
      (λ n'. rest i c (sym (m.others i n n') ∙ e)))

  behind_met : (i : ℕ) (c : CellState D) → slice_get old i ≡ Some c → IsBehind c.node (records c.pass) (records (met m.one.pass m.two.pass))
  behind_met i c e = subst (IsBehind c.node (records c.pass)) (sym whole_met) (h.behind i c e)

  pub held_met : AreHeld wire config new at
  held_met = record {
    config_is = h.config_is;
    nodes = h.nodes;
    placed = each (IsPlaced wire) (placed_met wire m.one m.two (h.placed at m.one m.one_is) (h.placed holder m.two m.two_is)) (placed_spent wire m.two (h.placed holder m.two m.two_is)) h.placed;
    cells_are = cells_still old new (meeting_keeps_rest old new at holder m) wire.nodes h.cells_are;
    lead = with_pass m.one (met m.one.pass m.two.pass);
    lead_is = m.here;
    holds = λ n there. has_right n m.one.pass.holds m.two.pass.holds (subst (λ (x : CellState D). Has n x.pass.holds) lead_one (h.holds n there));
    behind = each (λ c. IsBehind c.node (records c.pass) (records (met m.one.pass m.two.pass))) (behind_itself m.one.node (records (met m.one.pass m.two.pass))) (behind_met holder m.two m.two_is) behind_met;
    legal = subst (λ l. Legal config (newest_first l)) (sym whole_met) h.legal;
  }

pub whole_led : {D : Type 0} (wire : WireState PaxosRules) (config : Counts) (old new : List (CellState D)) (holder at : ℕ) (h : AreHeld wire config old holder) (m : HasMet old new at holder) (apart : at ≢ holder)
    → records (held_met wire config old new holder at h m apart).lead.pass ≡ records h.lead.pass
unfolding held_met
whole_led wire config old new holder at h m apart = whole_met wire config old new holder at h m apart

-- the cell that holds all nodes holds that of any cell, and has seen of it what that cell has
pub held_by : {D : Type 0} (wire : WireState PaxosRules) (config : Counts) (cells : List (CellState D)) (holder at : ℕ) (h : AreHeld wire config cells holder) (a b : CellState D) → slice_get cells at ≡ Some a → slice_get cells holder ≡ Some b
    → IsHeldBy a.node a.pass a.pass ⊎ IsHeldBy a.node a.pass b.pass
held_by wire config cells holder at h a b p q = inr (subst (λ (x : _). IsHeldBy a.node a.pass x.pass) (same_at cells holder h.lead b h.lead_is q) (h.holds a.node (h.cells_are.known at a p), own_behind a.node (records a.pass) (records h.lead.pass) (h.behind at a p)))

-- it holds all nodes that its pass knows
pub holds_all : {D : Type 0} (wire : WireState PaxosRules) (config : Counts) (cells : List (CellState D)) (holder : ℕ) (h : AreHeld wire config cells holder) → HoldsAll h.lead.pass
holds_all wire config cells holder h n there = h.holds n (subst (Has n) (h.placed holder h.lead h.lead_is).all there)

-- ---- a step of the cell that holds all nodes

none_left : (p q : PassState) (more : List Record) (k : ℕ) → records q ≡ records p ++ more → length q.seen ≡ length p.seen + k → length more ≡ k
none_left p q more k e l = let a = ap length e ∙ length-append (records p) more in let b = length-map q.seen record_of in let c = length-map p.seen record_of in omega (arith, l)

no_items : (l : List Record) → length l ≡ 0 → l ≡ []
no_items [] e = refl
no_items (x ∷ l) e = absurd (omega (arith, e))

pub nothing_more : (p q : PassState) → GoesOn p q → length q.seen ≡ length p.seen + 0 → records q ≡ records p
nothing_more p q g l = g.grown ∙ ap (λ r. records p ++ r) (no_items g.more (none_left p q g.more 0 g.grown l)) ∙ append-nil (records p)

module _ (config : Counts) (n : Node) (p q : PassState) (e : Event) (x : PostsOne config n (records p) (records q) e) (l : length q.seen ≡ length p.seen + 1) where
  ahead_is : x.ahead ≡ records p
  ahead_is = x.begins ∙ ap (λ r. records p ++ r) (no_items x.more none) ∙ append-nil (records p)
    where
      none : length x.more ≡ 0
      none = let a = ap length x.grown ∙ length-append x.ahead (x.item ∷ []) in let b = ap length x.begins ∙ length-append (records p) x.more in
          let c = length-map q.seen record_of in let d = length-map p.seen record_of in omega (arith, l)

  pub one_more : records q ≡ records p ++ x.item ∷ []
  one_more = x.grown ∙ ap (λ r. r ++ x.item ∷ []) ahead_is

  pub lawful_now : IsLawful config (newest_first (records p)) (entry_of x.item)
  lawful_now = subst (λ rs. IsLawful config (newest_first rs) (entry_of x.item)) ahead_is x.lawful

  pub entries_more : newest_first (records q) ≡ entry_of x.item ∷ newest_first (records p)
  entries_more = ap newest_first one_more ∙ entries_append (records p) (x.item ∷ [])

  pub follows_more : Legal config (newest_first (records p)) → Follows config (newest_first (records p)) (entry_of x.item)
  follows_more legal = lawful_follows config (newest_first (records p)) (entry_of x.item) legal lawful_now

  pub entry_more : Legal config (newest_first (records p)) → newest_first (records q) ≡ entry_after config (newest_first (records p)) e ∷ newest_first (records p)
  entry_more legal = let f = follows_more legal in entries_more ∙ ap (λ y. y ∷ newest_first (records p)) (same_entry (entry_of x.item) f ∙ ap (entry_after config (newest_first (records p))) x.event_is)
    where
      same_entry : (y : Entry) → Follows config (newest_first (records p)) y → y ≡ entry_after config (newest_first (records p)) y.event
      same_entry y f = λ i. record { node = f.own_node i; event = y.event; sent = f.own_messages i }

  pub item_node : node_of e ≡ n → x.item.node ≡ n
  item_node is = x.lawful.own_node ∙ ap node_of x.event_is ∙ is

pub own_other : (n : Node) (x : Record) → n ≢ x.node → own n (x ∷ []) ≡ []
own_other n x other = elim (same_tells n x.node) [ inl t ↦ absurd (other t.1) | inr t ↦ ap (λ b. cond b (x ∷ []) []) t.0 ]

module _ {D : Type 0} (wire : WireState PaxosRules) (config : Counts) (cells new : List (CellState D)) (at : ℕ) (h : AreHeld wire config cells at) (after : CellState D) (here : slice_get new at ≡ Some after)
    (others : (i : ℕ) → i ≢ at → slice_get new i ≡ slice_get cells i) (node_is : after.node ≡ h.lead.node) (config_is : after.config ≡ h.lead.config) (g : GoesOn h.lead.pass after.pass) where
  lead_placed : IsPlaced wire h.lead
  lead_placed = h.placed at h.lead h.lead_is

  placed_after : IsPlaced wire after
  placed_after = record { own = g.wire ∙ lead_placed.own; all = g.all ∙ lead_placed.all; config = config_is ∙ lead_placed.config; node = g.node ∙ lead_placed.node ∙ sym node_is }

  node_at : (i : ℕ) → option_map (λ (c : CellState D). c.node) (slice_get new i) ≡ option_map (λ (c : CellState D). c.node) (slice_get cells i)
  node_at i = dite (ℕ_discrete i at)
      (λ is. subst (λ j. option_map (λ (c : CellState D). c.node) (slice_get new j) ≡ option_map (λ (c : CellState D). c.node) (slice_get cells j)) (sym is)
      (ap (option_map (λ (c : CellState D). c.node)) here ∙ ap Some node_is ∙ sym (ap (option_map (λ (c : CellState D). c.node)) h.lead_is)))
      (λ n. ap (option_map (λ (c : CellState D). c.node)) (others i n))

  nodes_same : map (λ (c : CellState D). c.node) new ≡ map (λ (c : CellState D). c.node) cells
  nodes_same = same_list (map (λ (c : CellState D). c.node) new) (map (λ (c : CellState D). c.node) cells)
      (λ i. slice_get-map (λ (c : CellState D). c.node) new i ∙ node_at i ∙ sym (slice_get-map (λ (c : CellState D). c.node) cells i))

  one_of : (P : CellState D → Type 0) → P after → ((i : ℕ) (c : CellState D) → i ≢ at → slice_get cells i ≡ Some c → P c) → (i : ℕ) (c : CellState D) → slice_get new i ≡ Some c → P c
  one_of P one rest i c e = dite (ℕ_discrete i at)
      (λ is. subst P (same_at new at after c here (subst (λ j. slice_get new j ≡ Some c) is e)) one)
      (λ n. rest i c n (sym (others i n) ∙ e))

  held_again : Legal config (newest_first (records after.pass)) → ((i : ℕ) (c : CellState D) → i ≢ at → slice_get cells i ≡ Some c → IsBehind c.node (records c.pass) (records after.pass)) → AreHeld wire config new at
  held_again legal all_behind = record {
    config_is = h.config_is;
    nodes = h.nodes;
    placed = one_of (IsPlaced wire) placed_after (λ i c n e. h.placed i c e);
    cells_are = cells_by (λ c. c.node) (λ n. n) (λ c. refl) cells new nodes_same wire.nodes h.cells_are;
    lead = after;
    lead_is = here;
    holds = λ n there. subst (Has n) (sym g.holds) (h.holds n there);
    behind = one_of (λ c. IsBehind c.node (records c.pass) (records after.pass)) (behind_itself after.node (records after.pass)) all_behind;
    legal = legal;
  }

  pub held_refused : records after.pass ≡ records h.lead.pass → AreHeld wire config new at
  held_refused same = held_again (subst (λ l. Legal config (newest_first l)) (sym same) h.legal) (λ i c n e. subst (IsBehind c.node (records c.pass)) (sym same) (h.behind i c e))

  pub held_posted : (e : Event) → node_of e ≡ h.lead.node → PostsOne config h.lead.node (records h.lead.pass) (records after.pass) e → length after.pass.seen ≡ length h.lead.pass.seen + 1 → AreHeld wire config new at
  held_posted e is x l = held_again legal mine
    where
      legal : Legal config (newest_first (records after.pass))
      legal = subst (Legal config) (sym (entries_more config h.lead.node h.lead.pass after.pass e x l)) (h.legal, follows_more config h.lead.node h.lead.pass after.pass e x l h.legal)

      mine : (i : ℕ) (c : CellState D) → i ≢ at → slice_get cells i ≡ Some c → IsBehind c.node (records c.pass) (records after.pass)
      mine i c n there = behind_more c.node (records c.pass) (records h.lead.pass) (x.item ∷ []) (records after.pass) (h.behind i c there)
          (one_more config h.lead.node h.lead.pass after.pass e x l)
          (own_other c.node x.item (λ same. n (h.cells_are.single i at c h.lead there h.lead_is (same ∙ item_node config h.lead.node h.lead.pass after.pass e x l is))))
