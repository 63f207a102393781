-- What a learner shows is the base of its epoch, joined with its part.
use Rattle.std.proofs.Common.{◌≡◌, ◌<◌, ℕ, suc, Bool, cond, ◌&&◌, nat_eq, nat_lt, List, [], ◌∷◌, ◌++◌, Option, Some, None, slice_get, refl, sym, subst, ap, ◌∙◌, inl, inr}
use Rattle.std.specs.Option.{option_to_list}
use Rattle.std.proofs.lemmas.Bool.{eqb-true, ne_eqb}
use Rattle.gp_command.specs.declared.command.Command.{Command}
use Rattle.gp_history.specs.History.{History, IsHistory, IsPrefix, empty}
use Rattle.gp_history.specs.Bounds.{join}
use Rattle.gp_history.proofs.Tests.{fst_of}
use Rattle.gp_history.proofs.Prefix.{prefix_refl, prefix_antisymm}
use Rattle.gp_history.proofs.Bound.{empty_is_history, join_is_history, join_grows, join_bounded}
use Rattle.gp_round.specs.declared.round.Round.{Round}
use Rattle.gp_round.specs.Counts.{Counts}
use Rattle.gp_msg.specs.declared.node.Node.TheVariants.{Proposer, Coordinator, Acceptor, Learner}
use Rattle.gp_msg.specs.declared.event.Event.{Event}
use Rattle.gp_msg.specs.declared.event.Event.TheVariants.{Offer, Begin, Take, Fall}
use Rattle.gp_msg.specs.Messages.{Proposed, Asked, Answered, Sent, Voted}
use Rattle.gp_learner.specs.State.{LearnerState}
use Rattle.gp_learner.specs.Table.{learner_take, learned_with, heard, vote_of, votes_with, hearing}
use Rattle.gp_cstructs.specs.CStructs.{Among}
use Rattle.gp_cstructs.specs.Learner as core
use Rattle.gp_cstructs.specs.Loose.{run}
use Rattle.gp_history.proofs.Many.{empty_below}
use Rattle.gp_learner.proofs.Parts.{nothing_marked}
use Rattle.gp_agreement.specs.Values.{Value}
use Rattle.gp_cstructs.proofs.Lists.{cond_cases, among_left, among_right, get_among, nat_cases}
use Rattle.gp_epoch.specs.Cut.{first_checkpoint, HasNoCheckpoint, cut}
use Rattle.gp_epoch.proofs.Checkpoints.{none_has_none}
use Rattle.gp_epoch.proofs.Cuts.{cut_history, below_cut}
use Rattle.gp_epoch.proofs.Joining.{join_again}
use Rattle.gp_msg.specs.Messages.{Stamped, Offered, InEpoch, Final, Entry}
use Rattle.gp_learner.specs.Epochs as learner
use Rattle.gp_learner.specs.Epochs.{LearnerInEpoch}
use Rattle.gp_run.specs.Messages.{messages}
use Rattle.gp_run.specs.States.{learner_acts, learner_at}
use Rattle.gp_run.specs.Legal.{sent_at, Legal}
use Rattle.gp_run.specs.Learned.{joined_with, base}
use Rattle.gp_run.proofs.Choices.{with_message}
use Rattle.gp_agreement.proofs.FinalsBelow.{Below, finals_below}
use Rattle.gp_agreement.proofs.Bases.{final_found, base_stays, base_history}
use Rattle.gp_agreement.proofs.Moments.{part_history, final_history, one_final, part_below}
use Rattle.gp_agreement.proofs.Projection.{T}
use Rattle.gp_agreement.proofs.Projected.{projection}
use Rattle.gp_agreement.proofs.ProjectedLearners.{now_learned}

-- ---- the empty history

pub join_empty : (h : History) → IsHistory h → join h empty ≡ h
join_empty h w = sym (prefix_antisymm h (join h empty) w (join_is_history h empty w empty_is_history) (join_grows h empty w) (join_bounded h empty h w empty_is_history w (prefix_refl h w) (empty_below h)))

-- ---- a part has no checkpoint

abbrev IsUnmarked : LearnerInEpoch → Type 0
IsUnmarked s = first_checkpoint s.state.learned ≡ None

abbrev Unmarked : LearnerInEpoch × Option Stamped → Type 0
Unmarked p = IsUnmarked p.0

learning_unmarked : (s : LearnerInEpoch) (o : Option Command) → first_checkpoint s.state.learned ≡ o → Unmarked (learner.learning s o)
learning_unmarked s None e = e
learning_unmarked s (Some z) e = nothing_marked

receives_unmarked : (s : LearnerInEpoch) (m : Stamped) → IsUnmarked s → Unmarked (learner.take s m)
receives_unmarked s (Offered c) h = h
receives_unmarked s (InEpoch e (Proposed c)) h = h
receives_unmarked s (InEpoch e (Asked r)) h = h
receives_unmarked s (InEpoch e (Answered r a q v)) h = h
receives_unmarked s (InEpoch e (Sent r c v)) h = h
receives_unmarked s (InEpoch e (Voted r a v)) h = cond_cases Unmarked (nat_eq e s.epoch && nat_lt a s.state.config.acceptors) _ _
    (λ b. learning_unmarked (learner.with_state s (learner_take s.state (Voted r a v))) (first_checkpoint (learner_take s.state (Voted r a v)).learned) refl) (λ b. h)
receives_unmarked s (Final e l v) h = cond_cases IsUnmarked (nat_eq e s.epoch) _ _ (λ b. nothing_marked) (λ b. h)

acts_unmarked : (l : ℕ) (s : LearnerInEpoch) (ms : List Stamped) (event : Event) → IsUnmarked s → Unmarked (learner_acts l s ms event)
acts_unmarked l s ms (Offer p d) h = h
acts_unmarked l s ms (Begin c r) h = h
acts_unmarked l s ms (Take (Proposer p) k) h = h
acts_unmarked l s ms (Take (Coordinator c) k) h = h
acts_unmarked l s ms (Take (Acceptor a) k) h = h
acts_unmarked l s ms (Take (Learner i) k) h = cond_cases Unmarked (nat_eq l i) _ _ (λ e. with_message Unmarked (s, None) (learner.take s) (slice_get ms k) h (λ m q. receives_unmarked s m h)) (λ e. h)
acts_unmarked l s ms (Fall (Proposer p) what) h = h
acts_unmarked l s ms (Fall (Coordinator c) what) h = h
acts_unmarked l s ms (Fall (Acceptor a) what) h = h
acts_unmarked l s ms (Fall (Learner i) what) h = cond_cases Unmarked (nat_eq l i) _ _ (λ e. nothing_marked) (λ e. h)

-- the part of a learner has no checkpoint
pub parts_unmarked : (config : Counts) (l : ℕ) (es : List Entry) → IsUnmarked (learner_at config l es)
parts_unmarked config l [] = nothing_marked
parts_unmarked config l (x ∷ es) = acts_unmarked l (learner_at config l es) (messages es) x.event (parts_unmarked config l es)

-- ---- a vote extends the part

learned_grows : (h : History) (o : Option History) → IsHistory h → IsPrefix h (learned_with h o)
learned_grows h None w = prefix_refl h w
learned_grows h (Some u) w = join_grows h u w

vote_grows : (s : LearnerState) (r : Round) (a : ℕ) (v : History) → IsHistory s.learned → IsPrefix s.learned (learner_take s (Voted r a v)).learned
vote_grows s r a v w = cond_cases (λ (u : LearnerState). IsPrefix s.learned u.learned) (nat_lt a s.config.acceptors) (hearing s r (votes_with s.votes r a v)) s
    (λ b. learned_grows s.learned (heard s.config.acceptors r (vote_of (votes_with s.votes r a v) r)) w) (λ b. prefix_refl s.learned w)

-- ---- what is shown

module _ (config : Counts) where
  pub finals_are_histories : (es : List Entry) → Legal config es → (e l : ℕ) (v : History) → Among (messages es) (Final e l v) → IsHistory v
  finals_are_histories es legal e l v p = final_history config e es legal l v p

  -- in a run whose messages are these
  abbrev IsJoined : List Stamped → LearnerInEpoch → Type 0
  IsJoined ms s = s.learned ≡ join (base ms s.epoch) s.state.learned

  module _ (some : 0 < config.acceptors) (es : List Entry) (legal : Legal config es) (l : ℕ) (joined : IsJoined (messages es) (learner_at config l es)) where
    abbrev s : LearnerInEpoch
    s = learner_at config l es

    abbrev before : History
    before = base (messages es) s.epoch

    abbrev part : History
    part = s.state.learned

    below : Below (messages es) s.epoch
    below = (finals_below config es legal).learners l

    before_history : IsHistory before
    before_history = base_history (messages es) (finals_are_histories es legal) s.epoch

    own_history : IsHistory part
    own_history = part_history config s.epoch es legal l refl

    no_mark : HasNoCheckpoint part
    no_mark = none_has_none part own_history (parts_unmarked config l es)

    -- nothing changes at this learner
    unchanged : (sent : List Stamped) → IsJoined (messages es ++ sent) s
    unchanged sent = joined ∙ ap (λ (b : History). join b part) (sym (base_stays (messages es) sent s.epoch below))

    -- it passes to the next epoch with a value that closes its own
    passes : (sent : List Stamped) (u : LearnerInEpoch) (v : History) → ((n i : ℕ) (a b : History) → Among (messages es ++ sent) (Final s.epoch n a) → Among (messages es ++ sent) (Final s.epoch i b) → a ≡ b)
        → (j : ℕ) → Among (messages es ++ sent) (Final s.epoch j v) → IsHistory v → IsPrefix part v → u.epoch ≡ suc s.epoch → u.state.learned ≡ empty → u.learned ≡ join s.learned v → IsJoined (messages es ++ sent) u
    passes sent u v one j there w p at fresh learned =
        let ms : List Stamped = messages es ++ sent in
        let k = final_found s.epoch ms (j, v, there) in
        let same : k.value ≡ v = one k.learner j k.value v k.there there in
        let next_base : base ms (suc s.epoch) ≡ join before v = (λ i. joined_with (base_stays (messages es) sent s.epoch below i) ((k.is ∙ ap Some same) i)) in
        learned ∙ ap (λ (h : History). join h v) joined ∙ join_again before part v before_history own_history w p
        ∙ sym (join_empty (join before v) (join_is_history before v before_history w))
        ∙ (λ i. join (sym next_base i) (sym fresh i))
        ∙ (λ i. join (base ms (sym at i)) u.state.learned)

    -- ---- messages

    abbrev OneFinal : List Stamped → Type 0
    OneFinal ms = (e n i : ℕ) (a b : History) → Among ms (Final e n a) → Among ms (Final e i b) → a ≡ b

    -- it is so too after the learner does p
    abbrev Keeps : LearnerInEpoch × Option Stamped → Type 0
    Keeps p = (sent : List Stamped) → sent ≡ option_to_list p.1 → OneFinal (messages es ++ sent) → IsJoined (messages es ++ sent) p.0

    idle : Keeps (s, None)
    idle sent own one = unchanged sent

    module _ (r : Round) (a : ℕ) (v : History) (there : Among (messages es) (InEpoch s.epoch (Voted r a v))) where
      abbrev now : LearnerState
      now = learner_take s.state (Voted r a v)

      now_history : IsHistory now.learned
      now_history =
          let p = projection config s.epoch es legal in
          let t = p.projects.sent (InEpoch s.epoch (Voted r a v)) there (Voted r a v) (refl, refl) in
          let u : Value = (core.learner_take (T config s.epoch) ((run (T config s.epoch) p.events).learners l) t.0).learned in
          subst IsHistory (sym (now_learned config s.epoch es p.events p.loose_list p.projects l s.epoch r a v there refl t.0 t.2)) u.valid

      now_grows : IsPrefix part now.learned
      now_grows = vote_grows s.state r a v own_history

      learns : (o : Option Command) → first_checkpoint now.learned ≡ o → Keeps (learner.learning (learner.with_state s now) o)
      learns None e sent own one =
          ap (λ (h : History). join h now.learned) joined ∙ join_again before part now.learned before_history own_history now_history now_grows
          ∙ ap (λ (b : History). join b now.learned) (sym (base_stays (messages es) sent s.epoch below))
      learns (Some z) e sent own one =
          let m : Stamped = Final s.epoch now.number (cut now.learned) in
          passes sent (learner.passed (learner.with_state s now) (cut now.learned)) (cut now.learned) (one s.epoch) now.number
          (among_right (messages es) sent m (subst (λ (ms : List Stamped). Among ms m) (sym own) (inl refl)))
          (cut_history now.learned now_history) (below_cut part now.learned own_history now_history now_grows no_mark (z, e)) refl refl refl

    receives : (m : Stamped) → Among (messages es) m → Keeps (learner.take s m)
    receives (Offered c) p = idle
    receives (InEpoch e (Proposed c)) p = idle
    receives (InEpoch e (Asked r)) p = idle
    receives (InEpoch e (Answered r a q v)) p = idle
    receives (InEpoch e (Sent r c v)) p = idle
    receives (InEpoch e (Voted r a v)) p = cond_cases Keeps (nat_eq e s.epoch && nat_lt a s.state.config.acceptors) (learner.hearing s (learner_take s.state (Voted r a v))) (s, None)
        (λ b. let q = eqb-true e s.epoch (fst_of (nat_eq e s.epoch) _ b) in
        learns r a v (subst (λ (i : ℕ). Among (messages es) (InEpoch i (Voted r a v))) q p) (first_checkpoint (learner_take s.state (Voted r a v)).learned) refl)
        (λ b. idle)
    receives (Final e j v) p = cond_cases (λ (u : LearnerInEpoch). Keeps (u, None)) (nat_eq e s.epoch) (learner.passed s v) s
        (λ b sent own one.
        let q = subst (λ (i : ℕ). Among (messages es) (Final i j v)) (eqb-true e s.epoch b) p in
        passes sent (learner.passed s v) v (one s.epoch) j (among_left (messages es) sent (Final s.epoch j v) q) (finals_are_histories es legal s.epoch j v q)
        (part_below config s.epoch some es legal [] es refl l refl no_mark j v q) refl refl refl)
        (λ b. idle)

    other_at : {X : Type 0} (i : ℕ) (x y : X) → (l ≡ i → ⊥) → cond (nat_eq l i) x y ≡ y
    other_at i x y n = ap (λ (b : Bool). cond b x y) (ne_eqb l i n)

    acts_joined : (sent : List Stamped) (event : Event) → sent ≡ sent_at config es event → OneFinal (messages es ++ sent) → IsJoined (messages es ++ sent) (learner_acts l s (messages es) event).0
    acts_joined sent (Offer p d) own one = unchanged sent
    acts_joined sent (Begin c r) own one = unchanged sent
    acts_joined sent (Take (Proposer p) k) own one = unchanged sent
    acts_joined sent (Take (Coordinator c) k) own one = unchanged sent
    acts_joined sent (Take (Acceptor a) k) own one = unchanged sent
    acts_joined sent (Take (Learner i) k) own one = elim (nat_cases l i) [
      | inl q ↦ cond_cases Keeps (nat_eq l i) _ _ (λ b. with_message Keeps (s, None) (learner.take s) (slice_get (messages es) k) idle (λ m g. receives m (get_among (messages es) k m g))) (λ b. idle)
          sent (own ∙ (λ j. option_to_list (learner_acts (sym q j) (learner_at config (sym q j) es) (messages es) (Take (Learner i) k)).1)) one
      | inr d ↦ subst (λ (u : LearnerInEpoch × Option Stamped). IsJoined (messages es ++ sent) u.0) (sym (other_at i _ (s, None) d)) (unchanged sent)
    ]
    acts_joined sent (Fall (Proposer p) what) own one = unchanged sent
    acts_joined sent (Fall (Coordinator c) what) own one = unchanged sent
    acts_joined sent (Fall (Acceptor a) what) own one = unchanged sent
    acts_joined sent (Fall (Learner i) what) own one = cond_cases (λ (u : LearnerInEpoch × Option Stamped). IsJoined (messages es ++ sent) u.0) (nat_eq l i) (learner.fall s, None) (s, None)
        (λ b. sym (join_empty empty empty_is_history)) (λ b. unchanged sent)

  -- a learner shows the base of its epoch, joined with its part
  pub all_joined : (some : 0 < config.acceptors) (es : List Entry) → Legal config es → (l : ℕ) → IsJoined (messages es) (learner_at config l es)
  all_joined some [] legal l = sym (join_empty empty empty_is_history)
  all_joined some (x ∷ es) legal l =
      acts_joined some es legal.0 l (all_joined some es legal.0 l) x.sent x.event legal.1.own_messages
      (λ e n i a b p q. one_final config e some (x ∷ es) legal n i a b p q)
