-- A move of one of the cells, once its pass holds all nodes.
use Rattle.std.proofs.Common.{◌≡◌, ◌≢◌, ℕ, ◌+◌, ◌<◌, true, List, [], ◌∷◌, ◌++◌, length, map, slice_get, sym, ap, ◌∙◌, subst, arith, Some, None, option_map, Result, Ok, Err}
use Rattle.std.specs.Prelude.{nat_lt}
use Rattle.std.proofs.lemmas.Option.{slice_get-map}
use Rattle.std.proofs.lemmas.List.{length-map}
use Rattle.std.proofs.lemmas.Bool.{ltb-true}
use Rattle.gp_round.specs.Counts.{Counts}
use Rattle.gp_msg.specs.declared.node.Node.{Node}
use Rattle.gp_msg.specs.declared.record.Record.{Record}
use Rattle.gp_msg.specs.Messages.{message_of, entry_of}
use Rattle.gp_run.specs.Messages.{messages}
use Rattle.gp_msg.specs.Nodes.{is_present}
use Rattle.gp_run.specs.Legal.{fits}
use Rattle.gp_run.specs.Runs.{newest_first, entry_after}
use Rattle.gp_run.proofs.Telling.{messages-entries}
use Rattle.gp_wire.specs.Known.{WireState, records}
use Rattle.gp_msg.specs.Records.{messages_in}
use Rattle.gp_work.specs.declared.moves.Move.{Move}
use Rattle.gp_work.specs.declared.moves.Move.TheVariants.{Offer, Begin, Take}
use Rattle.gp_work.specs.declared.faults.StepFault.{StepFault}
use Rattle.gp_work.specs.declared.faults.StepFault.TheVariants.{Waiting, NoMemory, Disk, Full}
use Rattle.gp_work.specs.Moves.{event_of, Fits, IsBeyond}
use Rattle.gp_cell.specs.Lawful.{IsLawful}
use Rattle.gp_cell.specs.declared.rules.PaxosRules.{PaxosRules}
use Rattle.gp_cell.specs.Cells.{CellState, PostsOne}
use Rattle.gp_cell.specs.Passing.{GoesOn}
use Rattle.gp_cell.specs.Refusals.{CountsFaults, StepCause, faults_of, limit_of}
use Rattle.gp_round.proofs.Counting.{right_true}
use Rattle.gp_cell.proofs.Stepping.{node_is as node_of_move}
use Rattle.gp_stage.specs.Held.{seen_by}
use Rattle.gp_stage.specs.Gathered.{AreSameBut, rest_of}
use Rattle.gp_stage.specs.Kept.{AreHeld}
use Rattle.gp_stage.specs.Played.{HasPlayed, PlayCause}
use Rattle.gp_stage.proofs.Places.{image_at}
use Rattle.gp_stage.proofs.Moving.{nothing_more, entry_more, held_refused, held_posted, one_more, item_node, lawful_now}

-- a message that an event takes was sent
not_beyond : (config : Counts) (n : Node) (rs : List Record) (mv : Move) → fits config (newest_first rs) (event_of n mv) ≡ true → IsBeyond (length (messages_in rs)) mv → ⊥
not_beyond config n rs (Offer d) f b = b
not_beyond config n rs (Begin r) f b = b
not_beyond config n rs (Take k) f b =
    let l : k < length (messages (newest_first rs)) = ltb-true k (length (messages (newest_first rs))) (right_true (is_present config n) (nat_lt k (length (messages (newest_first rs)))) f) in
    let s = ap length (messages-entries rs) in let m = length-map (messages_in rs) message_of in omega (arith, l, b)

module _ {D : Type 0} (faults : D → ℕ) (wire : WireState PaxosRules) (old mid new : List (CellState D)) (holder at : ℕ) (mv : Move) (h : AreHeld wire wire.rules.config mid at)
    (whole : records h.lead.pass ≡ seen_by (slice_get old holder)) (same : AreSameBut old mid) (before : CellState D) (before_is : slice_get old at ≡ Some before)
    (after : CellState D) (here : slice_get new at ≡ Some after) (others : (i : ℕ) → i ≢ at → slice_get new i ≡ slice_get mid i) (long : length new ≡ length old)
    (fit : Fits wire.rules.config h.lead.node mv) (fits_now : fits wire.rules.config (newest_first (seen_by (slice_get old holder))) (event_of before.node mv) ≡ true)
    (config_is : after.config ≡ h.lead.config) (node_is : after.node ≡ h.lead.node) (g : GoesOn h.lead.pass after.pass) (limit_is : limit_of after.log ≡ limit_of h.lead.log) where
  list : List Record
  list = seen_by (slice_get old holder)

  rest_is : rest_of h.lead ≡ rest_of before
  rest_is = let b = image_at rest_of mid old at h.lead same h.lead_is in
      sym b.2 ∙ ap rest_of (same_one b.0 b.1)
    where
      same_one : (b : CellState D) → slice_get old at ≡ Some b → b ≡ before
      same_one b e = let both : Some b ≡ Some before = sym e ∙ before_is in cc

  lead_node : h.lead.node ≡ before.node
  lead_node = ap (λ (r : _). r.1) rest_is

  rest_others : (i : ℕ) → i ≢ at → slice_get (map rest_of new) i ≡ slice_get (map rest_of old) i
  rest_others i n = slice_get-map rest_of new i ∙ ap (option_map rest_of) (others i n) ∙ sym (slice_get-map rest_of mid i) ∙ ap (λ l. slice_get l i) same

  log_counts : (r : Result ℕ StepFault) → CountsFaults (faults_of faults h.lead.log) (faults_of faults after.log) r → CountsFaults (faults_of faults before.log) (faults_of faults after.log) r
  log_counts r c = subst (λ l. CountsFaults (faults_of faults l) (faults_of faults after.log) r) (ap (λ (x : _). x.3) rest_is) c

  same_limit : limit_of after.log ≡ limit_of before.log
  same_limit = limit_is ∙ ap limit_of (ap (λ (x : _). x.3) rest_is)

  pub played_ok : (n : ℕ) → length after.pass.seen ≡ length h.lead.pass.seen + 1 → PostsOne h.lead.config h.lead.node (records h.lead.pass) (records after.pass) (event_of h.lead.node mv)
      → n ≡ length (messages_in (records after.pass)) → after.down ≡ None → CountsFaults {T = ℕ} (faults_of faults h.lead.log) (faults_of faults after.log) (Ok n) → HasPlayed faults wire old new holder at mv (Ok n)
  played_ok n l x count up counts = record {
    before = before;
    before_is = before_is;
    after = after;
    after_is = here;
    node_is = node_is ∙ lead_node;
    held = held_posted wire wire.rules.config mid new at h after here others node_is config_is g (event_of h.lead.node mv) (node_of_move wire.rules.config h.lead.node mv fit) one l;
    length_is = long;
    others = rest_others;
    entry = entry_more wire.rules.config h.lead.node h.lead.pass after.pass (event_of h.lead.node mv) one l h.legal
        ∙ (λ i. entry_after wire.rules.config (newest_first (whole i)) (event_of (lead_node i) mv) ∷ newest_first (whole i));
    posted = record {
      item = one.item;
      list_is = one_more wire.rules.config h.lead.node h.lead.pass after.pass (event_of h.lead.node mv) one l ∙ ap (λ rs. rs ++ one.item ∷ []) whole;
      node_is = item_node wire.rules.config h.lead.node h.lead.pass after.pass (event_of h.lead.node mv) one l (node_of_move wire.rules.config h.lead.node mv fit) ∙ sym node_is;
      lawful = subst (λ rs. IsLawful wire.rules.config (newest_first rs) (entry_of one.item)) whole (lawful_now wire.rules.config h.lead.node h.lead.pass after.pass (event_of h.lead.node mv) one l);
    };
    count = count;
    up = up;
    nothing = tt;
    cause = tt;
    counts = log_counts (Ok n) counts;
    limit = same_limit;
  }
    where
      one : PostsOne wire.rules.config h.lead.node (records h.lead.pass) (records after.pass) (event_of h.lead.node mv)
      one = subst (λ c. PostsOne c h.lead.node (records h.lead.pass) (records after.pass) (event_of h.lead.node mv)) (h.placed at h.lead h.lead_is).config x

  pub played_err : (f : StepFault) → length after.pass.seen ≡ length h.lead.pass.seen + 0 → StepCause h.lead after mv f → CountsFaults {T = ℕ} (faults_of faults h.lead.log) (faults_of faults after.log) (Err f)
      → HasPlayed faults wire old new holder at mv (Err f)
  played_err f l why counts = record {
    before = before;
    before_is = before_is;
    after = after;
    after_is = here;
    node_is = node_is ∙ lead_node;
    held = held_refused wire wire.rules.config mid new at h after here others node_is config_is g still;
    length_is = long;
    others = rest_others;
    entry = tt;
    posted = tt;
    count = tt;
    up = tt;
    nothing = still ∙ whole;
    cause = cause f why;
    counts = log_counts (Err f) counts;
    limit = same_limit;
  }
    where
      still : records after.pass ≡ records h.lead.pass
      still = nothing_more h.lead.pass after.pass g l

      cause : (f : StepFault) → StepCause h.lead after mv f → PlayCause after mv f
      cause Waiting w = not_beyond wire.rules.config before.node (records after.pass) mv (subst (λ rs. fits wire.rules.config (newest_first rs) (event_of before.node mv) ≡ true) (sym (still ∙ whole)) fits_now) w.0
      cause NoMemory w = tt
      cause Disk w = tt
      cause (Full size need) w = w.1
