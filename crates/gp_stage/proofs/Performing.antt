-- What a step of a stage asks of one of its cells, and what it tells.
use Rattle.std.proofs.Common.{◌≡◌, ◌⊎◌, ℕ, ◌+◌, ◌-◌, ◌<◌, ◌≤◌, ◌^◌, min, Bool, true, false, List, ◌∷◌, length, map, slice_get, refl, sym, ap, ◌∙◌, subst, inl, inr, arith, Some, None, Result, Ok, Err}
use Rattle.std.specs.Prelude.{nat_lt}
use Rattle.std.proofs.lemmas.Bool.{ltb-true, ltb-false}
use mathlib.Core.Logic.{dite}
use native.Mathlib.Decide.{ℕ_discrete}
use Rattle.atomic_table.specs.Seated.{TableId}
use Rattle.gp_round.specs.Counts.{Counts}
use Rattle.gp_msg.specs.declared.node.Node.{Node}
use Rattle.gp_msg.specs.declared.node.Node.TheVariants as node
use Rattle.gp_msg.specs.declared.message.MsgKind.{MsgKind}
use Rattle.gp_msg.specs.declared.event.Event.{Event}
use Rattle.gp_msg.specs.Reads.{kind_of}
use Rattle.gp_run.specs.Messages.{messages}
use Rattle.gp_msg.specs.Nodes.{is_present, node_of, fits_among}
use Rattle.gp_run.specs.Legal.{fits}
use Rattle.gp_run.specs.Runs.{newest_first, entry_after}
use Rattle.gp_run.specs.TopCount.{top_count, top_of_messages}
use Rattle.gp_run.proofs.Fitting.{node_there}
use Rattle.gp_run.proofs.Telling.{as_many_messages}
use Rattle.gp_driver.specs.Stages.{HasCause, RoseByOne}
use Rattle.gp_wire.specs.Known.{WireState, records}
use Rattle.gp_msg.specs.Records.{messages_in}
use Rattle.gp_work.specs.declared.moves.Move.{Move}
use Rattle.gp_work.specs.declared.moves.Move.TheVariants.{Offer, Begin, Take}
use Rattle.gp_work.specs.declared.faults.StepFault.{StepFault}
use Rattle.gp_work.specs.declared.faults.StepFault.TheVariants.{Waiting, NoMemory, Disk, Full}
use Rattle.gp_work.specs.Moves.{event_of, Fits}
use Rattle.gp_cell.specs.declared.rules.PaxosRules.{PaxosRules}
use Rattle.gp_cell.specs.Cells.{CellState}
use Rattle.gp_cell.specs.Refusals.{FailsByDisk, IsTooGreat, faults_of}
use Rattle.gp_stage.specs.Held.{HasCell, AreUp, IsTooGreatIn, capped, disk_faults, seen_by}
use Rattle.gp_stage.specs.Gathered.{AreSameBut, rest_of}
use Rattle.gp_stage.specs.Kept.{AreHeld, IsKept}
use Rattle.gp_stage.specs.Played.{CanPlay, HasPlayed, KnewBefore, stage_fault}
use Rattle.gp_stage.proofs.Places.{same_at, map_at, mapped_at}
use Rattle.gp_stage.proofs.Faulting.{capped_rose, first_rises, sum_by_one, all_same, one_changes, one_of_all}

-- a move of an event that may happen fits the node of the event
move_fits : (config : Counts) (have : ℕ) (n : Node) (mv : Move) → n ≡ node_of (event_of n mv) → fits_among config have (event_of n mv) ≡ true → Fits config n mv
move_fits config have (node.Proposer p) (Offer d) e f = tt
move_fits config have (node.Proposer p) (Begin r) e f = absurd cc
move_fits config have (node.Proposer p) (Take k) e f = tt
move_fits config have (node.Coordinator c) (Offer d) e f = absurd cc
move_fits config have (node.Coordinator c) (Begin r) e f = f
move_fits config have (node.Coordinator c) (Take k) e f = tt
move_fits config have (node.Acceptor a) (Offer d) e f = absurd cc
move_fits config have (node.Acceptor a) (Begin r) e f = absurd cc
move_fits config have (node.Acceptor a) (Take k) e f = tt
move_fits config have (node.Learner l) (Offer d) e f = absurd cc
move_fits config have (node.Learner l) (Begin r) e f = absurd cc
move_fits config have (node.Learner l) (Take k) e f = tt

module _ {D : Type 0} (wire : WireState PaxosRules) (config : Counts) (cells : List (CellState D)) (holder : ℕ) (h : AreHeld wire config cells holder) (event : Event) (fits_now : fits config (newest_first (seen_by (slice_get cells holder))) event ≡ true) where
  there : is_present config (node_of event) ≡ true
  there = node_there config (length (messages (newest_first (seen_by (slice_get cells holder))))) event fits_now

  pub has_cell : HasCell (node_of event) cells
  has_cell = h.cells_are.have (node_of event) ((h.nodes (node_of event)).0 there)

  pub can_play : (n : Node) (mv : Move) → event_of n mv ≡ event → n ≡ node_of event → (at : ℕ) (c : CellState D) → slice_get cells at ≡ Some c → c.node ≡ n → AreUp cells → CanPlay wire.rules.config cells holder at mv
  can_play n mv event_is node_is at c c_is same up =
      let own : event_of c.node mv ≡ event = ap (λ m. event_of m mv) same ∙ event_is in record {
        cell = c;
        cell_is = c_is;
        up = up at c c_is;
        fit = subst (λ k. Fits k c.node mv) h.config_is (move_fits config (length (messages (newest_first (seen_by (slice_get cells holder))))) c.node mv (same ∙ node_is ∙ ap node_of (sym own))
            (subst (λ e. fits config (newest_first (seen_by (slice_get cells holder))) e ≡ true) (sym own) fits_now));
        present = subst (λ k. is_present k c.node ≡ true) h.config_is (subst (λ m. is_present config m ≡ true) (sym (same ∙ node_is)) there);
        fits_now = subst (λ k. fits k (newest_first (seen_by (slice_get cells holder))) (event_of c.node mv) ≡ true) h.config_is
            (subst (λ e. fits config (newest_first (seen_by (slice_get cells holder))) e ≡ true) (sym own) fits_now);
      }

-- ---- what the move made

module _ {D : Type 0} (faults : D → ℕ) (wire : WireState PaxosRules) (old new : List (CellState D)) (holder at : ℕ) (mv : Move) where
  pub up_played : (n : ℕ) → HasPlayed faults wire old new holder at mv (Ok n) → AreUp old → AreUp new
  up_played n p up i c e = dite (ℕ_discrete i at)
      (λ is. subst (λ (x : CellState D). x.down ≡ None) (same_at new at p.after c p.after_is (subst (λ j. slice_get new j ≡ Some c) is e)) p.up)
      (λ other. let b = mapped_at rest_of old i (rest_of c) (sym (p.others i other) ∙ map_at rest_of new i c e) in sym (ap (λ (r : _). r.4) b.2) ∙ up i b.0 b.1)

  pub list_posted : (n : ℕ) (p : HasPlayed faults wire old new holder at mv (Ok n)) (event : Event) → event_of p.before.node mv ≡ event
      → newest_first (seen_by (slice_get new at)) ≡ entry_after wire.rules.config (newest_first (seen_by (slice_get old holder))) event ∷ newest_first (seen_by (slice_get old holder))
  list_posted n p event is = ap (λ o. newest_first (seen_by o)) p.after_is ∙ p.entry ∙ ap (λ e. entry_after wire.rules.config (newest_first (seen_by (slice_get old holder))) e ∷ newest_first (seen_by (slice_get old holder))) is

  pub count_posted : (n : ℕ) → HasPlayed faults wire old new holder at mv (Ok n) → n ≡ length (messages (newest_first (seen_by (slice_get new at))))
  count_posted n p = p.count ∙ sym (as_many_messages (records p.after.pass)) ∙ ap (λ o. length (messages (newest_first (seen_by o)))) (sym p.after_is)

  pub list_refused : (f : StepFault) → HasPlayed faults wire old new holder at mv (Err f) → seen_by (slice_get new at) ≡ seen_by (slice_get old holder)
  list_refused f p = ap seen_by p.after_is ∙ p.nothing

  module _ (config : Counts) (kinds : List MsgKind) (sent top : ℕ) (k : IsKept wire config old holder kinds sent top) where
    pub knew : (n : ℕ) → HasPlayed faults wire old new holder at mv (Ok n) → KnewBefore wire.rules.config new at kinds sent
    knew n p = record {
      before = seen_by (slice_get old holder);
      item = p.posted.item;
      list_is = ap seen_by p.after_is ∙ p.posted.list_is;
      cell = p.after;
      cell_is = p.after_is;
      node_is = p.posted.node_is;
      lawful = p.posted.lawful;
      kinds_are = k.kinds_are;
      top_is = k.sent_is;
    }

    pub kept_refused : (f : StepFault) → HasPlayed faults wire old new holder at mv (Err f) → IsKept wire config new at kinds sent top
    kept_refused f p = record {
      held = subst (λ c. AreHeld wire c new at) (sym k.held.config_is) p.held;
      kinds_are = k.kinds_are ∙ ap (λ rs. map kind_of (messages_in rs)) (sym (list_refused f p));
      sent_is = k.sent_is ∙ ap (λ rs. top_of_messages (messages (newest_first rs))) (sym (list_refused f p));
      top_is = k.top_is ∙ ap (λ rs. top_count config (newest_first rs)) (sym (list_refused f p));
    }

  -- ---- the count of faults

  pub sum_grows : (r : Result ℕ StepFault) → HasPlayed faults wire old new holder at mv r → disk_faults faults old ≤ disk_faults faults new
  sum_grows r p = let e = one_changes faults old new at p.before p.after p.before_is p.after_is p.others in let l = p.counts.never_falls in omega (arith, e, l)

  pub sum_steady : (r : Result ℕ StepFault) → ¬ FailsByDisk r → HasPlayed faults wire old new holder at mv r → disk_faults faults new ≡ disk_faults faults old
  sum_steady r none p = let e = one_changes faults old new at p.before p.after p.before_is p.after_is p.others in let s = p.counts.steady none in omega (arith, e, s)

  sum_rises : HasPlayed faults wire old new holder at mv (Err Disk) → (disk_faults faults old < disk_faults faults new) ⊎ (2 ^ 64 - 1 ≤ disk_faults faults new)
  sum_rises p = by_test (nat_lt (disk_faults faults old) (disk_faults faults new)) refl
    where
      by_test : (b : Bool) → nat_lt (disk_faults faults old) (disk_faults faults new) ≡ b → (disk_faults faults old < disk_faults faults new) ⊎ (2 ^ 64 - 1 ≤ disk_faults faults new)
      by_test true t = inl (ltb-true (disk_faults faults old) (disk_faults faults new) t)
      by_test false t =
          let s = ltb-false (disk_faults faults old) (disk_faults faults new) t in
          let e = one_changes faults old new at p.before p.after p.before_is p.after_is p.others in let l : min (faults_of faults p.before.log + 1) (2 ^ 64 - 1) ≤ faults_of faults p.after.log = p.counts.failed tt in
          let b = one_of_all faults new at p.after p.after_is in inr (omega (arith, s, e, l, b))

  pub fault_caused : (config : Counts) (id : TableId) (nodes : List Node) (fulls more : ℕ) (event : Event) (f : StepFault) (p : HasPlayed faults wire old new holder at mv (Err f)) → event_of p.before.node mv ≡ event → (fulls ≤ more) ⊎ (2 ^ 64 - 1 ≤ more)
      → (f ≡ NoMemory → more ≡ fulls) → ((size need : ℕ) → f ≡ Full size need → more ≡ min (fulls + 1) (2 ^ 64 - 1))
      → HasCause (capped (disk_faults faults old + fulls)) (capped (disk_faults faults new + more))
      (λ size need. IsTooGreatIn (record { config = config; wire = id; nodes = nodes; cells = new; holder = at; fulls = more }) event size need) (stage_fault f)
  fault_caused config id nodes fulls more event Waiting p is l s h = absurd p.cause
  fault_caused config id nodes fulls more event NoMemory p is l s h =
      let d = sum_steady (Err NoMemory) (λ none. none) p in let m = s refl in
      let same : disk_faults faults new + more ≡ disk_faults faults old + fulls = omega (arith, d, m) in ap capped same
  fault_caused config id nodes fulls more event Disk p is l s h = capped_rose (disk_faults faults old + fulls) (disk_faults faults new + more) (first_rises fulls more (disk_faults faults old) (disk_faults faults new) (sum_rises p) l)
  fault_caused config id nodes fulls more event (Full size need) p is l s h = (
    subst (λ d. RoseByOne (capped (disk_faults faults old + fulls)) (capped (d + more))) (sym (sum_steady (Err (Full size need)) (λ none. none) p)) (sum_by_one (disk_faults faults old) fulls more (h size need refl)),
    record {
      place = at;
      cell = p.after;
      there = p.after_is;
      pass = p.after.pass;
      whole = sym (ap seen_by p.after_is);
      great = subst (λ e. IsTooGreat p.after e size need) (ap (λ n. event_of n mv) p.node_is ∙ is) p.cause;
    },
  )

-- ---- once the kinds and the counts are known again

pub kept_again : {D : Type 0} (wire : WireState PaxosRules) (config : Counts) (cells : List (CellState D)) (at : ℕ) (kinds : List MsgKind) (sent top : ℕ) → config ≡ wire.rules.config → AreHeld wire wire.rules.config cells at
    → kinds ≡ map kind_of (messages_in (seen_by (slice_get cells at))) → sent ≡ top_of_messages (messages (newest_first (seen_by (slice_get cells at)))) → top ≡ top_count wire.rules.config (newest_first (seen_by (slice_get cells at)))
    → IsKept wire config cells at kinds sent top
kept_again wire config cells at kinds sent top is held k s t = record {
  held = subst (λ c. AreHeld wire c cells at) (sym is) held;
  kinds_are = k;
  sent_is = s;
  top_is = t ∙ ap (λ c. top_count c (newest_first (seen_by (slice_get cells at)))) (sym is);
}

-- nothing but passes changes
pub sum_still : {D : Type 0} (faults : D → ℕ) (old new : List (CellState D)) → AreSameBut old new → disk_faults faults new ≡ disk_faults faults old
sum_still faults old new same = all_same faults old new (λ i. ap (λ l. slice_get l i) same)
