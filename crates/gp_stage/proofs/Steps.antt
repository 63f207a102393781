-- A step of a stage, by the lists that it lends: the cells that were there, that made the move, and that looked once more.
use Rattle.std.proofs.Common.{◌≡◌, ◌⊎◌, ℕ, ◌+◌, ◌-◌, ◌<◌, ◌≤◌, ◌^◌, min, List, ◌∷◌, ◌++◌, length, map, slice_get, take, sym, ap, ◌∙◌, subst, inl, arith, Some, Bool, false, Result, Ok, Err}
use Rattle.std.specs.Prelude.{OnOk, is_err}
use Rattle.atomic_table.specs.Seated.{TableId}
use Rattle.gp_round.specs.Counts.{Counts}
use Rattle.gp_msg.specs.declared.node.Node.{Node}
use Rattle.gp_msg.specs.declared.message.MsgKind.{MsgKind}
use Rattle.gp_msg.specs.declared.event.Event.{Event}
use Rattle.gp_msg.specs.declared.record.Record.{Record}
use Rattle.gp_msg.specs.Reads.{kind_of}
use Rattle.gp_run.specs.Messages.{messages}
use Rattle.gp_run.specs.Runs.{newest_first, entry_after}
use Rattle.gp_run.specs.TopCount.{top_count, top_of_messages}
use Rattle.gp_driver.specs.Stages.{AllBut, HasCause, NodesGo, FailsByNode, fault_counts}
use Rattle.gp_driver.specs.declared.stage.StageFault.{StageFault}
use Rattle.gp_wire.specs.Known.{WireState}
use Rattle.gp_msg.specs.Records.{messages_in}
use Rattle.gp_work.specs.declared.moves.Move.{Move}
use Rattle.gp_work.specs.declared.faults.StepFault.{StepFault}
use Rattle.gp_work.specs.declared.faults.StepFault.TheVariants.{NoMemory, Full}
use Rattle.gp_work.specs.Moves.{event_of}
use Rattle.gp_cell.specs.declared.rules.PaxosRules.{PaxosRules}
use Rattle.gp_cell.specs.Cells.{CellState}
use Rattle.gp_stage.specs.Held.{HeldCells, AreUp, IsTooGreatIn, capped, disk_faults, seen_by, stage_node}
use Rattle.gp_stage.specs.Gathered.{AreSameBut}
use Rattle.gp_stage.specs.Kept.{AreHeld, IsKept}
use Rattle.gp_stage.specs.Played.{HasPlayed, KnewBefore, stage_fault}
use Rattle.gp_stage.proofs.Places.{same_at, within}
use Rattle.gp_stage.proofs.Taking.{same_length}
use Rattle.gp_stage.proofs.Faulting.{capped_grows, both_at_most}
use Rattle.gp_stage.proofs.Founding.{lent_back, up_still}
use Rattle.gp_stage.proofs.Nodes.{nodes_same, posted_goes, posted_steady, refused_goes, refused_fails}
use Rattle.gp_stage.proofs.Performing.{up_played, list_posted, count_posted, list_refused, knew, kept_refused, sum_grows, sum_steady, fault_caused, kept_again, sum_still}

module _ {D : Type 0} (faults : D → ℕ) (wire : WireState PaxosRules) (config : Counts) (items lent played : List (CellState D)) (value : lent ≡ items) (len : ℕ) (long : len ≡ length items) (holder at : ℕ) (mv : Move) where
  from_items : (r : Result ℕ StepFault) → HasPlayed faults wire lent played holder at mv r → HasPlayed faults wire items played holder at mv r
  from_items r p = subst (λ l. HasPlayed faults wire l played holder at mv r) value p

  played_back : (r : Result ℕ StepFault) → HasPlayed faults wire lent played holder at mv r → (rest : List (CellState D)) → take len (played ++ rest) ≡ played
  played_back r p rest = lent_back played rest len (long ∙ sym (from_items r p).length_is)

  -- the move was that of the cell at this place
  event_before : (r : Result ℕ StepFault) (p : HasPlayed faults wire items played holder at mv r) (event : Event) (x : CellState D) → slice_get items at ≡ Some x → event_of x.node mv ≡ event → event_of p.before.node mv ≡ event
  event_before r p event x x_is e = ap (λ (c : CellState D). event_of c.node mv) (same_at items at p.before x p.before_is x_is) ∙ e

  -- ---- a step that was made

  module _ (n : ℕ) (given : HasPlayed faults wire lent played holder at mv (Ok n)) (rest again : List (CellState D)) (value_again : again ≡ take len (played ++ rest)) where
    p : HasPlayed faults wire items played holder at mv (Ok n)
    p = from_items (Ok n) given

    back : again ≡ played
    back = value_again ∙ played_back (Ok n) given rest

    pub ask_held : AreHeld wire wire.rules.config again at
    ask_held = subst (λ l. AreHeld wire wire.rules.config l at) (sym back) p.held

    pub ask_here : at < length again
    ask_here = let l = within played at p.after p.after_is in let b = ap length back in omega (arith, l, b)

    pub ask_up : AreUp items → AreUp again
    ask_up up = subst AreUp (sym back) (up_played faults wire items played holder at mv n p up)

    pub ask_knew : (kinds : List MsgKind) (sent top : ℕ) → IsKept wire config items holder kinds sent top → KnewBefore wire.rules.config again at kinds sent
    ask_knew kinds sent top k = subst (λ l. KnewBefore wire.rules.config l at kinds sent) (sym back) (knew faults wire items played holder at mv config kinds sent top k n p)

    module _ (kept : List (CellState D)) (same : AreSameBut again kept) (last : List (CellState D)) where
      kept_back : take len (kept ++ last) ≡ kept
      kept_back = lent_back kept last len (let s = same_length again kept same in let b = ap length back in let l = p.length_is in omega (arith, s, b, l, long))

      pub told_kept : (kinds : List MsgKind) (sent top : ℕ) → config ≡ wire.rules.config → AreHeld wire wire.rules.config kept at → kinds ≡ map kind_of (messages_in (seen_by (slice_get kept at)))
          → sent ≡ top_of_messages (messages (newest_first (seen_by (slice_get kept at)))) → top ≡ top_count wire.rules.config (newest_first (seen_by (slice_get kept at))) → IsKept wire config (take len (kept ++ last)) at kinds sent top
      told_kept kinds sent top is held k s t = subst (λ l. IsKept wire config l at kinds sent top) (sym kept_back) (kept_again wire config kept at kinds sent top is held k s t)

      pub told_up : AreUp items → AreUp (take len (kept ++ last))
      told_up up = subst AreUp (sym kept_back) (up_still again kept same (ask_up up))

      pub told_later : (fulls : ℕ) → capped (disk_faults faults items + fulls) ≤ capped (disk_faults faults (take len (kept ++ last)) + fulls)
      told_later fulls = capped_grows (disk_faults faults items + fulls) (disk_faults faults (take len (kept ++ last)) + fulls) (inl (
          let a = sum_grows faults wire items played holder at mv (Ok n) p in let b = ap (disk_faults faults) back in
          let s = sum_still faults again kept same in let k = ap (disk_faults faults) kept_back in omega (arith, a, b, s, k)))

      pub told_steady : (fulls : ℕ) → capped (disk_faults faults (take len (kept ++ last)) + fulls) ≡ capped (disk_faults faults items + fulls)
      told_steady fulls =
          let a = sum_steady faults wire items played holder at mv (Ok n) (λ none. none) p in let b = ap (disk_faults faults) back in
          let s = sum_still faults again kept same in let k = ap (disk_faults faults) kept_back in
          let sum : disk_faults faults (take len (kept ++ last)) + fulls ≡ disk_faults faults items + fulls = omega (arith, a, b, s, k) in ap capped sum

      -- no disk failed
      pub told_counts : (before now : List Record) → fault_counts (map (stage_node faults now) (take len (kept ++ last))) ≡ fault_counts (map (stage_node faults before) items)
      told_counts before now =
          ap (λ cells. fault_counts (map (stage_node faults now) cells)) kept_back ∙ ap fault_counts (nodes_same faults now again kept same)
          ∙ ap (λ cells. fault_counts (map (stage_node faults now) cells)) back ∙ posted_steady faults wire items played holder at mv before now n p

      module _ (list : seen_by (slice_get kept at) ≡ seen_by (slice_get again at)) where
        list_now : seen_by (slice_get (take len (kept ++ last)) at) ≡ seen_by (slice_get played at)
        list_now = ap (λ l. seen_by (slice_get l at)) kept_back ∙ list ∙ ap (λ l. seen_by (slice_get l at)) back

        pub told_entry : (event : Event) (x : CellState D) → slice_get items at ≡ Some x → event_of x.node mv ≡ event → config ≡ wire.rules.config
            → newest_first (seen_by (slice_get (take len (kept ++ last)) at)) ≡ entry_after config (newest_first (seen_by (slice_get items holder))) event ∷ newest_first (seen_by (slice_get items holder))
        told_entry event x x_is e is = ap newest_first list_now ∙ list_posted faults wire items played holder at mv n p event (event_before (Ok n) p event x x_is e)
            ∙ ap (λ k. entry_after k (newest_first (seen_by (slice_get items holder))) event ∷ newest_first (seen_by (slice_get items holder))) (sym is)

        -- the other nodes have the events that they had
        pub told_nodes : (x : CellState D) → slice_get items at ≡ Some x → (node : Node) → x.node ≡ node
            → NodesGo (AllBut node) (map (stage_node faults (seen_by (slice_get items holder))) items) (map (stage_node faults (seen_by (slice_get (take len (kept ++ last)) at))) (take len (kept ++ last)))
        told_nodes x x_is node is =
            subst (λ (q : List Record × List (CellState D)). NodesGo (AllBut node) (map (stage_node faults (seen_by (slice_get items holder))) items) (map (stage_node faults q.0) q.1)) (λ i. (sym list_now i, sym kept_back i))
            (subst (NodesGo (AllBut node) (map (stage_node faults (seen_by (slice_get items holder))) items)) (sym (nodes_same faults (seen_by (slice_get played at)) again kept same ∙ ap (map (stage_node faults (seen_by (slice_get played at)))) back))
            (posted_goes faults wire items played holder at mv n p node (ap (λ (c : CellState D). c.node) (same_at items at p.before x p.before_is x_is) ∙ is)))

        pub told_count : n ≡ length (messages (newest_first (seen_by (slice_get (take len (kept ++ last)) at))))
        told_count = count_posted faults wire items played holder at mv n p ∙ ap (λ rs. length (messages (newest_first rs))) (sym list_now)

  -- ---- a step that was refused

  module _ (f : StepFault) (given : HasPlayed faults wire lent played holder at mv (Err f)) (rest : List (CellState D)) where
    q : HasPlayed faults wire items played holder at mv (Err f)
    q = from_items (Err f) given

    pub fault_kept : (kinds : List MsgKind) (sent top : ℕ) → IsKept wire config items holder kinds sent top → IsKept wire config (take len (played ++ rest)) at kinds sent top
    fault_kept kinds sent top k = subst (λ l. IsKept wire config l at kinds sent top) (sym (played_back (Err f) given rest)) (kept_refused faults wire items played holder at mv config kinds sent top k f q)

    pub fault_list : seen_by (slice_get (take len (played ++ rest)) at) ≡ seen_by (slice_get items holder)
    fault_list = ap (λ l. seen_by (slice_get l at)) (played_back (Err f) given rest) ∙ list_refused faults wire items played holder at mv f q

    pub fault_nodes : (idle : Node → Type 0) → NodesGo idle (map (stage_node faults (seen_by (slice_get items holder))) items) (map (stage_node faults (seen_by (slice_get (take len (played ++ rest)) at))) (take len (played ++ rest)))
    fault_nodes idle = subst (λ cells. NodesGo idle (map (stage_node faults (seen_by (slice_get items holder))) items) (map (stage_node faults (seen_by (slice_get cells at))) cells)) (sym (played_back (Err f) given rest))
        (refused_goes faults wire items played holder at mv f q idle)

    -- a disk's fault is that of the cell
    pub fault_fails : FailsByNode (map (stage_node faults (seen_by (slice_get items holder))) items) (map (stage_node faults (seen_by (slice_get (take len (played ++ rest)) at))) (take len (played ++ rest))) (Err (stage_fault f))
    fault_fails = subst (λ cells. FailsByNode (map (stage_node faults (seen_by (slice_get items holder))) items) (map (stage_node faults (seen_by (slice_get cells at))) cells) (Err (stage_fault f))) (sym (played_back (Err f) given rest))
        (refused_fails faults wire items played holder at mv (seen_by (slice_get items holder)) (seen_by (slice_get played at)) f q)

    pub fault_later : (fulls more : ℕ) → (fulls ≤ more) ⊎ (2 ^ 64 - 1 ≤ more) → capped (disk_faults faults items + fulls) ≤ capped (disk_faults faults (take len (played ++ rest)) + more)
    fault_later fulls more l = capped_grows (disk_faults faults items + fulls) (disk_faults faults (take len (played ++ rest)) + more) (
        both_at_most fulls more (disk_faults faults items) (disk_faults faults (take len (played ++ rest)))
        (let a = sum_grows faults wire items played holder at mv (Err f) q in let b = ap (disk_faults faults) (played_back (Err f) given rest) in omega (arith, a, b)) l)

    pub fault_cause : (id : TableId) (nodes : List Node) (fulls more : ℕ) (event : Event) (x : CellState D) → slice_get items at ≡ Some x → event_of x.node mv ≡ event → (fulls ≤ more) ⊎ (2 ^ 64 - 1 ≤ more)
        → (f ≡ NoMemory → more ≡ fulls) → ((size need : ℕ) → f ≡ Full size need → more ≡ min (fulls + 1) (2 ^ 64 - 1))
        → HasCause (capped (disk_faults faults items + fulls)) (capped (disk_faults faults (take len (played ++ rest)) + more))
        (λ size need. IsTooGreatIn (record { config = config; wire = id; nodes = nodes; cells = take len (played ++ rest); holder = at; fulls = more }) event size need) (stage_fault f)
    fault_cause id nodes fulls more event x x_is is l s h = subst (λ cells. HasCause (capped (disk_faults faults items + fulls)) (capped (disk_faults faults cells + more))
        (λ size need. IsTooGreatIn (record { config = config; wire = id; nodes = nodes; cells = cells; holder = at; fulls = more }) event size need) (stage_fault f)) (sym (played_back (Err f) given rest))
        (fault_caused faults wire items played holder at mv config id nodes fulls more event f q (event_before (Err f) q event x x_is is) l s h)

-- ---- what the stage shows before and after

pub later_than : {D : Type 0} (faults : D → ℕ) (now old : HeldCells D) → old ≡ now → (n : ℕ) → capped (disk_faults faults old.cells + old.fulls) ≤ n → capped (disk_faults faults now.cells + now.fulls) ≤ n
later_than {D} faults now old before n l = subst (λ (h : HeldCells D). capped (disk_faults faults h.cells + h.fulls) ≤ n) before l

pub steady_than : {D : Type 0} (faults : D → ℕ) (now old : HeldCells D) → old ≡ now → (n : ℕ) → n ≡ capped (disk_faults faults old.cells + old.fulls) → n ≡ capped (disk_faults faults now.cells + now.fulls)
steady_than {D} faults now old before n e = subst (λ (h : HeldCells D). n ≡ capped (disk_faults faults h.cells + h.fulls)) before e

module _ {D : Type 0} (faults : D → ℕ) (now self old new : HeldCells D) (before : old ≡ now) (after : self ≡ new) where
  pub later_shown : capped (disk_faults faults old.cells + old.fulls) ≤ capped (disk_faults faults new.cells + new.fulls) → capped (disk_faults faults now.cells + now.fulls) ≤ capped (disk_faults faults self.cells + self.fulls)
  later_shown l = let a = ap (λ (h : HeldCells D). capped (disk_faults faults h.cells + h.fulls)) before in let b = ap (λ (h : HeldCells D). capped (disk_faults faults h.cells + h.fulls)) after in omega (arith, a, b, l)

  pub cause_shown : (event : Event) (f : StepFault) (fault : StageFault) → fault ≡ stage_fault f
      → HasCause (capped (disk_faults faults old.cells + old.fulls)) (capped (disk_faults faults new.cells + new.fulls)) (λ size need. IsTooGreatIn new event size need) (stage_fault f)
      → HasCause (capped (disk_faults faults now.cells + now.fulls)) (capped (disk_faults faults self.cells + self.fulls)) (λ size need. IsTooGreatIn self event size need) fault
  cause_shown event f fault is h =
      subst (λ (o : HeldCells D). HasCause (capped (disk_faults faults o.cells + o.fulls)) (capped (disk_faults faults self.cells + self.fulls)) (λ size need. IsTooGreatIn self event size need) fault) before
      (subst (λ (n : HeldCells D). HasCause (capped (disk_faults faults old.cells + old.fulls)) (capped (disk_faults faults n.cells + n.fulls)) (λ size need. IsTooGreatIn n event size need) fault) (sym after)
      (subst (HasCause (capped (disk_faults faults old.cells + old.fulls)) (capped (disk_faults faults new.cells + new.fulls)) (λ size need. IsTooGreatIn new event size need)) (sym is) h))

-- what holds of a call that did not fail
pub unfailed : {T E P : Type 0} (r : Result T E) (b : Bool) → b ≡ is_err r → b ≡ false → OnOk r P → P
unfailed (Ok x) b is no' h = h
unfailed (Err e) b is no' h = absurd cc
