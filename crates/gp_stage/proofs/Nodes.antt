-- What a step of a stage does to its nodes: the cell that made the move posts a record or none, and no disk's count falls.
use Rattle.std.proofs.Common.{◌≡◌, ◌≢◌, ℕ, suc, true, false, Bool, inl, inr, List, [], ◌∷◌, ◌++◌, length, map, slice_get, refl, sym, ap, ◌∙◌, subst, arith, Some, Result, Ok, Err}
use Rattle.std.specs.Prelude.{nat_lt}
use Rattle.std.specs.List.{AllZip}
use Rattle.std.proofs.lemmas.Bool.{ltb-true, ltb-false}
use Rattle.std.proofs.lemmas.List.{append-nil}
use mathlib.Core.Logic.{dite}
use native.Mathlib.Decide.{ℕ_discrete}
use Rattle.gp_msg.specs.declared.node.Node.{Node}
use Rattle.gp_msg.specs.declared.record.Record.{Record}
use Rattle.gp_wire.specs.Known.{WireState}
use Rattle.gp_work.specs.declared.moves.Move.{Move}
use Rattle.gp_work.specs.declared.faults.StepFault.{StepFault}
use Rattle.gp_work.specs.declared.faults.StepFault.TheVariants as step
use Rattle.gp_wire.specs.Own.{own, own_events, event_in}
use Rattle.gp_wire.proofs.OwnRecords.{own_append}
use Rattle.gp_cell.specs.declared.rules.PaxosRules.{PaxosRules}
use Rattle.gp_cell.specs.Cells.{CellState}
use Rattle.gp_cell.specs.Refusals.{FailsByDisk, faults_of, limit_of}
use Rattle.gp_edge.specs.Faults as edge
use Rattle.gp_driver.specs.declared.stage.StageFault.{StageFault}
use Rattle.gp_driver.specs.declared.stage.StageFault.TheVariants as stage
use Rattle.gp_driver.specs.Stages.{StageNode, AllBut, NodeGoes, NodesGo, HasRisen, SomeNodeRose, FailsByNode, fault_counts}
use Rattle.gp_driver.proofs.Going.{nodes_still}
use Rattle.gp_stage.specs.Held.{HeldCells, seen_by, stage_node, whole_list}
use Rattle.gp_stage.specs.Gathered.{AreSameBut, rest_of}
use Rattle.gp_stage.specs.Played.{HasPlayed, stage_fault}
use Rattle.gp_stage.proofs.Places.{same_at, same_value, map_at}
use Rattle.gp_stage.proofs.Moving.{own_other}

-- the nodes of a stage
abbrev pub nodes_of : {D : Type 0} → (D → ℕ) → HeldCells D → List StageNode
nodes_of faults h = map (stage_node faults (whole_list h)) h.cells

-- ---- cells at the same places

each_goes : {D : Type 0} (idle : Node → Type 0) (f g : CellState D → StageNode) (old new : List (CellState D)) → length new ≡ length old
    → ((i : ℕ) (x y : CellState D) → slice_get old i ≡ Some x → slice_get new i ≡ Some y → NodeGoes idle (f x) (g y)) → AllZip (NodeGoes idle) (map f old) (map g new)
each_goes idle f g [] [] e h = tt
each_goes idle f g [] (y ∷ new) e h = absurd (omega (arith, e))
each_goes idle f g (x ∷ old) [] e h = absurd (omega (arith, e))
each_goes idle f g (x ∷ old) (y ∷ new) e h = (h 0 x y refl refl, each_goes idle f g old new (omega (arith, e)) (λ i. h (suc i)))

each_count : {D : Type 0} (faults : D → ℕ) (before now : List Record) (old new : List (CellState D)) → length new ≡ length old
    → ((i : ℕ) (x y : CellState D) → slice_get old i ≡ Some x → slice_get new i ≡ Some y → faults_of faults y.log ≡ faults_of faults x.log)
    → fault_counts (map (stage_node faults now) new) ≡ fault_counts (map (stage_node faults before) old)
each_count faults before now [] [] e h = refl
each_count faults before now [] (y ∷ new) e h = absurd (omega (arith, e))
each_count faults before now (x ∷ old) [] e h = absurd (omega (arith, e))
each_count faults before now (x ∷ old) (y ∷ new) e h =
    let a = h 0 x y refl refl in let b = each_count faults before now old new (omega (arith, e)) (λ i. h (suc i)) in (λ j. a j ∷ b j)

-- what cells with the same logs are as nodes
by_rest : {D : Type 0} (faults : D → ℕ) (list : List Record) (cells : List (CellState D))
    → map (stage_node faults list) cells ≡ map (λ (r : _). record { node = r.1; faults = faults_of faults r.3; limit = limit_of r.3; events = own_events r.1 list }) (map rest_of cells)
by_rest faults list [] = refl
by_rest faults list (c ∷ cells) = ap (λ l. stage_node faults list c ∷ l) (by_rest faults list cells)

pub nodes_same : {D : Type 0} (faults : D → ℕ) (list : List Record) (old new : List (CellState D)) → AreSameBut old new → map (stage_node faults list) new ≡ map (stage_node faults list) old
nodes_same faults list old new same =
    by_rest faults list new ∙ ap (map (λ (r : _). record { node = r.1; faults = faults_of faults r.3; limit = limit_of r.3; events = own_events r.1 list })) same ∙ sym (by_rest faults list old)

-- ---- a move

module _ {D : Type 0} (faults : D → ℕ) (wire : WireState PaxosRules) (old new : List (CellState D)) (holder at : ℕ) (mv : Move) (r : Result ℕ StepFault) (p : HasPlayed faults wire old new holder at mv r) where
  abbrev list : List Record
  list = seen_by (slice_get old holder)

  -- another cell's log is as it was, and so are the node's events if they are the same in both lists
  other_goes : (idle : Node → Type 0) (now : List Record) (i : ℕ) (x y : CellState D) → i ≢ at → slice_get old i ≡ Some x → slice_get new i ≡ Some y → (idle x.node → own_events x.node now ≡ own_events x.node list)
      → NodeGoes idle (stage_node faults list x) (stage_node faults now y)
  other_goes idle now i x y n a b h =
      let e : rest_of y ≡ rest_of x = same_value (rest_of y) (rest_of x) (sym (map_at rest_of new i y b) ∙ p.others i n ∙ map_at rest_of old i x a) in
      let m : y.node ≡ x.node = ap (λ (q : _). q.1) e in let f : faults_of faults y.log ≡ faults_of faults x.log = ap (λ (q : _). faults_of faults q.3) e in record {
        same_node = m;
        later = omega (arith, f);
        same_limit = ap (λ (q : _). limit_of q.3) e;
        rests = λ is. ap (λ k. own_events k now) m ∙ h is;
      }

  -- the cell that made the move
  this_goes : (idle : Node → Type 0) (now : List Record) (i : ℕ) (x y : CellState D) → i ≡ at → slice_get old i ≡ Some x → slice_get new i ≡ Some y → (idle p.before.node → own_events p.before.node now ≡ own_events p.before.node list)
      → NodeGoes idle (stage_node faults list x) (stage_node faults now y)
  this_goes idle now i x y is a b h =
      let before : p.before ≡ x = same_at old at p.before x p.before_is (subst (λ j. slice_get old j ≡ Some x) is a) in
      let after : p.after ≡ y = same_at new at p.after y p.after_is (subst (λ j. slice_get new j ≡ Some y) is b) in
      subst (λ (o : CellState D). NodeGoes idle (stage_node faults list o) (stage_node faults now y)) before
      (subst (λ (n : CellState D). NodeGoes idle (stage_node faults list p.before) (stage_node faults now n)) after (record {
        same_node = p.node_is;
        later = p.counts.never_falls;
        same_limit = p.limit;
        rests = λ q. ap (λ k. own_events k now) p.node_is ∙ h q;
      }))

  all_go : (idle : Node → Type 0) (now : List Record) → ((n : Node) → idle n → own_events n now ≡ own_events n list) → NodesGo idle (map (stage_node faults list) old) (map (stage_node faults now) new)
  all_go idle now h = record {
    each = each_goes idle (stage_node faults list) (stage_node faults now) old new p.length_is (λ i x y a b. dite (ℕ_discrete i at)
        (λ is. this_goes idle now i x y is a b (h p.before.node))
        (λ n. other_goes idle now i x y n a b (h x.node)));
  }

  -- no disk failed
  counts_steady : ¬ FailsByDisk r → (before now : List Record) → fault_counts (map (stage_node faults now) new) ≡ fault_counts (map (stage_node faults before) old)
  counts_steady none before now = each_count faults before now old new p.length_is (λ i x y a b. dite (ℕ_discrete i at)
      (λ is.
      let x_is : p.before ≡ x = same_at old at p.before x p.before_is (subst (λ j. slice_get old j ≡ Some x) is a) in
      let y_is : p.after ≡ y = same_at new at p.after y p.after_is (subst (λ j. slice_get new j ≡ Some y) is b) in
      ap (λ (c : CellState D). faults_of faults c.log) (sym y_is) ∙ p.counts.steady none ∙ ap (λ (c : CellState D). faults_of faults c.log) x_is)
      (λ n. ap (λ (q : _). faults_of faults q.3) (same_value (rest_of y) (rest_of x) (sym (map_at rest_of new i y b) ∙ p.others i n ∙ map_at rest_of old i x a))))

-- a record of another node is none of this node's
other_events : (n : Node) (list now : List Record) (x : Record) → now ≡ list ++ x ∷ [] → n ≢ x.node → own_events n now ≡ own_events n list
other_events n list now x e other = ap (λ l. own_events n l) e ∙ ap (map event_in) (own_append n list (x ∷ []) ∙ ap (λ l. own n list ++ l) (own_other n x other) ∙ append-nil (own n list))

module _ {D : Type 0} (faults : D → ℕ) (wire : WireState PaxosRules) (old new : List (CellState D)) (holder at : ℕ) (mv : Move) where
  pub posted_goes : (n : ℕ) (p : HasPlayed faults wire old new holder at mv (Ok n)) (node : Node) → p.before.node ≡ node
      → NodesGo (AllBut node) (map (stage_node faults (seen_by (slice_get old holder))) old) (map (stage_node faults (seen_by (slice_get new at))) new)
  posted_goes n p node is = all_go faults wire old new holder at mv (Ok n) p (AllBut node) (seen_by (slice_get new at)) (λ m other.
      other_events m (seen_by (slice_get old holder)) (seen_by (slice_get new at)) p.posted.item (ap seen_by p.after_is ∙ p.posted.list_is) (λ e. other (e ∙ p.posted.node_is ∙ p.node_is ∙ is)))

  pub refused_goes : (f : StepFault) (p : HasPlayed faults wire old new holder at mv (Err f)) (idle : Node → Type 0)
      → NodesGo idle (map (stage_node faults (seen_by (slice_get old holder))) old) (map (stage_node faults (seen_by (slice_get new at))) new)
  refused_goes f p idle = all_go faults wire old new holder at mv (Err f) p idle (seen_by (slice_get new at)) (λ m i. ap (own_events m) (ap seen_by p.after_is ∙ p.nothing))

-- ---- a move that failed by its disk

risen : (a b : ℕ) → edge.Rose a b → HasRisen a b
risen a b r = by_test (nat_lt a b) refl
  where
    by_test : (t : Bool) → nat_lt a b ≡ t → HasRisen a b
    by_test true e = inl (ltb-true a b e)
    by_test false e = let l = ltb-false a b e in inr (omega (arith, l, r))

module _ {D : Type 0} (faults : D → ℕ) (wire : WireState PaxosRules) (old new : List (CellState D)) (holder at : ℕ) (mv : Move) (before now : List Record) where
  failed_there : (p : HasPlayed faults wire old new holder at mv (Err step.Disk)) → SomeNodeRose (map (stage_node faults before) old) (map (stage_node faults now) new)
  failed_there p = record {
    place = at;
    was = stage_node faults before p.before;
    is = stage_node faults now p.after;
    before = map_at (stage_node faults before) old at p.before p.before_is;
    after = map_at (stage_node faults now) new at p.after p.after_is;
    rose = risen (faults_of faults p.before.log) (faults_of faults p.after.log) (p.counts.failed tt);
  }

  -- no disk failed in a move that was made
  pub posted_steady : (n : ℕ) → HasPlayed faults wire old new holder at mv (Ok n) → fault_counts (map (stage_node faults now) new) ≡ fault_counts (map (stage_node faults before) old)
  posted_steady n p = counts_steady faults wire old new holder at mv (Ok n) p (λ none. none) before now

  pub refused_fails : (f : StepFault) (p : HasPlayed faults wire old new holder at mv (Err f)) → FailsByNode (map (stage_node faults before) old) (map (stage_node faults now) new) (Err (stage_fault f))
  refused_fails step.Waiting p = record { by_node = tt; steady = counts_steady faults wire old new holder at mv (Err step.Waiting) p (λ none. none) before now }
  refused_fails step.NoMemory p = record { by_node = tt; steady = counts_steady faults wire old new holder at mv (Err step.NoMemory) p (λ none. none) before now }
  refused_fails step.Disk p = record { by_node = failed_there p; steady = tt }
  refused_fails (step.Full size need) p = record { by_node = tt; steady = counts_steady faults wire old new holder at mv (Err (step.Full size need)) p (λ none. none) before now }

-- ---- what the stage shows

module _ {D : Type 0} (faults : D → ℕ) (idle : Node → Type 0) where
  pub nodes_shown : (now self old new : HeldCells D) → old ≡ now → self ≡ new → NodesGo idle (nodes_of faults old) (nodes_of faults new) → NodesGo idle (nodes_of faults now) (nodes_of faults self)
  nodes_shown now self old new before after h =
      subst (λ (o : HeldCells D). NodesGo idle (nodes_of faults o) (nodes_of faults self)) before (subst (λ (n : HeldCells D). NodesGo idle (nodes_of faults old) (nodes_of faults n)) (sym after) h)

  pub fails_shown : (now self old new : HeldCells D) (r : Result ℕ StageFault) → old ≡ now → self ≡ new → FailsByNode (nodes_of faults old) (nodes_of faults new) r → FailsByNode (nodes_of faults now) (nodes_of faults self) r
  fails_shown now self old new r before after h =
      subst (λ (o : HeldCells D). FailsByNode (nodes_of faults o) (nodes_of faults self) r) before (subst (λ (n : HeldCells D). FailsByNode (nodes_of faults old) (nodes_of faults n) r) (sym after) h)

  pub nodes_than : (now old : HeldCells D) → old ≡ now → (nodes : List StageNode) → NodesGo idle (nodes_of faults old) nodes → NodesGo idle (nodes_of faults now) nodes
  nodes_than now old before nodes h = subst (λ (o : HeldCells D). NodesGo idle (nodes_of faults o) nodes) before h

  -- nothing has changed
  pub nodes_kept : (now old : HeldCells D) → old ≡ now → NodesGo idle (nodes_of faults now) (nodes_of faults old)
  nodes_kept now old before = nodes_than now old before (nodes_of faults old) (nodes_still idle (nodes_of faults old))

-- no disk failed
pub fails_than : {D : Type 0} (faults : D → ℕ) (now old : HeldCells D) → old ≡ now → (nodes : List StageNode) (n : ℕ) → fault_counts nodes ≡ fault_counts (nodes_of faults old) → FailsByNode (nodes_of faults now) nodes (Ok n)
fails_than {D} faults now old before nodes n e = record { by_node = tt; steady = e ∙ ap (λ (h : HeldCells D). fault_counts (nodes_of faults h)) before }

pub fails_kept : {D : Type 0} (faults : D → ℕ) (now old : HeldCells D) → old ≡ now → FailsByNode (nodes_of faults now) (nodes_of faults old) (Err stage.NoMemory)
fails_kept {D} faults now old before = record { by_node = tt; steady = ap (λ (h : HeldCells D). fault_counts (nodes_of faults h)) before }
