-- Below the epoch of each node and of each message every epoch has a Final.
use Rattle.std.proofs.Common.{◌≡◌, ◌⊎◌, ◌<◌, ℕ, suc, Bool, cond, ◌&&◌, nat_eq, nat_lt, List, [], ◌∷◌, ◌++◌, Option, Some, None, slice_get, refl, sym, subst, ap, ◌∙◌, inl, inr, arith}
use Rattle.std.specs.Option.{option_to_list}
use Rattle.std.specs.FinSet as set
use Rattle.std.proofs.lemmas.Bool.{eqb-true, ne_eqb}
use Rattle.gp_command.specs.declared.command.Command.{Command}
use Rattle.gp_history.specs.History.{History}
use Rattle.gp_round.specs.Counts.{Counts}
use Rattle.gp_msg.specs.declared.node.Node.{Node}
use Rattle.gp_msg.specs.declared.node.Node.TheVariants.{Proposer, Coordinator, Acceptor, Learner}
use Rattle.gp_msg.specs.declared.event.Event.{Event}
use Rattle.gp_msg.specs.declared.event.Event.TheVariants.{Offer, Begin, Take, Fall}
use Rattle.gp_msg.specs.declared.event.Kept.{Kept}
use Rattle.gp_msg.specs.declared.event.Kept.TheVariants as kept
use Rattle.gp_msg.specs.Messages.{Proposed, Asked, Answered, Sent, Voted, Stamped, Offered, InEpoch, Final, EpochPart, Entry}
use Rattle.gp_proposer.specs.State.{ProposerState}
use Rattle.gp_proposer.specs.Table.{proposer_offer, numbered}
use Rattle.gp_learner.specs.Table.{learner_take}
use Rattle.gp_cstructs.specs.CStructs.{Among}
use Rattle.gp_cstructs.proofs.Lists.{cond_cases, among_append, among_left, among_right, get_among, nat_cases}
use Rattle.gp_epoch.specs.Cut.{first_checkpoint}
use Rattle.gp_msg.specs.Nodes.{node_of}
use Rattle.gp_coordinator.specs.Epochs as coordinator
use Rattle.gp_coordinator.specs.Epochs.{CoordinatorInEpoch}
use Rattle.gp_acceptor.specs.Epochs as acceptor
use Rattle.gp_acceptor.specs.Epochs.{AcceptorInEpoch}
use Rattle.gp_learner.specs.Epochs as learner
use Rattle.gp_learner.specs.Epochs.{LearnerInEpoch}
use Rattle.gp_run.specs.Messages.{messages}
use Rattle.gp_run.specs.States.{proposer_acts, proposer_at, coordinator_kept, coordinator_acts, coordinator_at, acceptor_kept, acceptor_acts, acceptor_at, learner_acts, learner_at}
use Rattle.gp_run.specs.Legal.{sent_by, sent_at, Follows, Legal}
use Rattle.gp_run.proofs.Choices.{with_message}
use Rattle.gp_agreement.proofs.Sending.{IsBallot, Ballots, IsFinal, Finals, acceptor_sends, coordinator_sends, learner_sends, one_sent}

abbrev pub HasFinal : List Stamped → ℕ → Type 0
HasFinal ms e = (l : ℕ) × (v : History) × Among ms (Final e l v)

abbrev pub Below : List Stamped → ℕ → Type 0
Below ms n = (j : ℕ) → j < n → HasFinal ms j

abbrev pub epoch_of : Stamped → ℕ
epoch_of (Offered c) = 0
epoch_of (InEpoch e m) = e
epoch_of (Final e l v) = e

-- the epoch is as it was, or the one after an epoch of which there is a Final
abbrev Rises : List Stamped → ℕ → ℕ → Type 0
Rises ms n m = (m ≡ n) ⊎ ((i : ℕ) × HasFinal ms i × (m ≡ suc i))

pub below_more : (ms ns : List Stamped) (n : ℕ) → Below ms n → Below (ms ++ ns) n
below_more ms ns n h j less = let k = h j less in (k.0, k.1, among_left ms ns (Final j k.0 k.1) k.2)

pub below_next : (ms : List Stamped) (n : ℕ) → Below ms n → HasFinal ms n → Below ms (suc n)
below_next ms n h k j less = elim (nat_cases j n) [
  | inl q ↦ subst (λ (i : ℕ). HasFinal ms i) (sym q) k
  | inr d ↦ h j (lower j n less d)
] where
  lower : (j n : ℕ) → j < suc n → (j ≡ n → ⊥) → j < n
  lower j n less d = omega arith

-- ---- acceptors

module _ (ms : List Stamped) where
  acceptor_rises : (s : AcceptorInEpoch) (m : Stamped) → Among ms m → Rises ms s.epoch (acceptor.take s m).0.epoch
  acceptor_rises s (Offered c) p = inl refl
  acceptor_rises s (InEpoch e m) p = cond_cases (λ (u : AcceptorInEpoch × Option Stamped). Rises ms s.epoch u.0.epoch) (nat_eq e s.epoch) _ _ (λ b. inl refl) (λ b. inl refl)
  acceptor_rises s (Final e l v) p = cond_cases (λ (u : AcceptorInEpoch). Rises ms s.epoch u.epoch) (nat_lt e s.epoch) _ _ (λ b. inl refl) (λ b. inr (e, (l, v, p), refl))

  acceptor_kept_rises : (s : AcceptorInEpoch) (what : Option Kept) → Rises ms s.epoch (acceptor_kept s ms what).epoch
  acceptor_kept_rises s None = inl refl
  acceptor_kept_rises s (Some (kept.Begin r)) = inl refl
  acceptor_kept_rises s (Some (kept.Take k)) = with_message (λ (u : EpochPart). Rises ms s.epoch u.epoch) (acceptor.durable s) (λ m. acceptor.durable (acceptor.take s m).0) (slice_get ms k) (inl refl) (λ m q. acceptor_rises s m (get_among ms k m q))

  acceptor_acts_rise : (a : ℕ) (s : AcceptorInEpoch) (event : Event) → Rises ms s.epoch (acceptor_acts a s ms event).0.epoch
  acceptor_acts_rise a s (Offer p d) = inl refl
  acceptor_acts_rise a s (Begin c r) = inl refl
  acceptor_acts_rise a s (Take (Proposer p) k) = inl refl
  acceptor_acts_rise a s (Take (Coordinator c) k) = inl refl
  acceptor_acts_rise a s (Take (Acceptor b) k) = cond_cases (λ (u : AcceptorInEpoch × Option Stamped). Rises ms s.epoch u.0.epoch) (nat_eq a b) _ _
      (λ e. with_message (λ (u : AcceptorInEpoch × Option Stamped). Rises ms s.epoch u.0.epoch) (s, None) (acceptor.take s) (slice_get ms k) (inl refl) (λ m q. acceptor_rises s m (get_among ms k m q))) (λ e. inl refl)
  acceptor_acts_rise a s (Take (Learner l) k) = inl refl
  acceptor_acts_rise a s (Fall (Proposer p) what) = inl refl
  acceptor_acts_rise a s (Fall (Coordinator c) what) = inl refl
  acceptor_acts_rise a s (Fall (Acceptor b) what) = cond_cases (λ (u : AcceptorInEpoch × Option Stamped). Rises ms s.epoch u.0.epoch) (nat_eq a b) _ _ (λ e. acceptor_kept_rises s what) (λ e. inl refl)
  acceptor_acts_rise a s (Fall (Learner l) what) = inl refl

  -- ---- coordinators

  coordinator_rises : (s : CoordinatorInEpoch) (m : Stamped) → Among ms m → Rises ms s.epoch (coordinator.take s m).0.epoch
  coordinator_rises s (Offered c) p = cond_cases (λ (u : CoordinatorInEpoch × Option Stamped). Rises ms s.epoch u.0.epoch) (set.contains s.done c) _ _ (λ b. inl refl) (λ b. inl refl)
  coordinator_rises s (InEpoch e m) p = cond_cases (λ (u : CoordinatorInEpoch × Option Stamped). Rises ms s.epoch u.0.epoch) (nat_eq e s.epoch) _ _ (λ b. inl refl) (λ b. inl refl)
  coordinator_rises s (Final e l v) p = cond_cases (λ (u : CoordinatorInEpoch). Rises ms s.epoch u.epoch) (nat_lt e s.epoch) _ _ (λ b. inl refl) (λ b. inr (e, (l, v, p), refl))

  coordinator_kept_rises : (s : CoordinatorInEpoch) (what : Option Kept) → Rises ms s.epoch (coordinator_kept s ms what).epoch
  coordinator_kept_rises s None = inl refl
  coordinator_kept_rises s (Some (kept.Begin r)) = inl refl
  coordinator_kept_rises s (Some (kept.Take k)) = with_message (λ (u : EpochPart). Rises ms s.epoch u.epoch) (coordinator.durable s) (λ m. coordinator.durable (coordinator.take s m).0) (slice_get ms k) (inl refl) (λ m q. coordinator_rises s m (get_among ms k m q))

  coordinator_acts_rise : (c : ℕ) (s : CoordinatorInEpoch) (event : Event) → Rises ms s.epoch (coordinator_acts c s ms event).0.epoch
  coordinator_acts_rise c s (Offer p d) = inl refl
  coordinator_acts_rise c s (Begin b r) = cond_cases (λ (u : CoordinatorInEpoch × Option Stamped). Rises ms s.epoch u.0.epoch) (nat_eq c b) _ _ (λ e. inl refl) (λ e. inl refl)
  coordinator_acts_rise c s (Take (Proposer p) k) = inl refl
  coordinator_acts_rise c s (Take (Coordinator b) k) = cond_cases (λ (u : CoordinatorInEpoch × Option Stamped). Rises ms s.epoch u.0.epoch) (nat_eq c b) _ _
      (λ e. with_message (λ (u : CoordinatorInEpoch × Option Stamped). Rises ms s.epoch u.0.epoch) (s, None) (coordinator.take s) (slice_get ms k) (inl refl) (λ m q. coordinator_rises s m (get_among ms k m q))) (λ e. inl refl)
  coordinator_acts_rise c s (Take (Acceptor a) k) = inl refl
  coordinator_acts_rise c s (Take (Learner l) k) = inl refl
  coordinator_acts_rise c s (Fall (Proposer p) what) = inl refl
  coordinator_acts_rise c s (Fall (Coordinator b) what) = cond_cases (λ (u : CoordinatorInEpoch × Option Stamped). Rises ms s.epoch u.0.epoch) (nat_eq c b) _ _ (λ e. coordinator_kept_rises s what) (λ e. inl refl)
  coordinator_acts_rise c s (Fall (Acceptor a) what) = inl refl
  coordinator_acts_rise c s (Fall (Learner l) what) = inl refl

  -- ---- learners

  -- the epoch is as it was, the first, or the next one after a Final of it
  abbrev Passes : ℕ → LearnerInEpoch × Option Stamped → Type 0
  Passes n p = (p.0.epoch ≡ n) ⊎ ((p.0.epoch ≡ 0) ⊎ ((p.0.epoch ≡ suc n) × HasFinal (ms ++ option_to_list p.1) n))

  learning_passes : (s : LearnerInEpoch) (o : Option Command) → Passes s.epoch (learner.learning s o)
  learning_passes s None = inl refl
  learning_passes s (Some z) = let p = learner.learning s (Some z) in inr (inr (refl, (s.state.number, _, among_right ms (option_to_list p.1) _ (inl refl))))

  learner_passes : (s : LearnerInEpoch) (m : Stamped) → Among ms m → Passes s.epoch (learner.take s m)
  learner_passes s (Offered c) p = inl refl
  learner_passes s (InEpoch e (Proposed c)) p = inl refl
  learner_passes s (InEpoch e (Asked r)) p = inl refl
  learner_passes s (InEpoch e (Answered r a q v)) p = inl refl
  learner_passes s (InEpoch e (Sent r c v)) p = inl refl
  learner_passes s (InEpoch e (Voted r a v)) p = cond_cases (Passes s.epoch) (nat_eq e s.epoch && nat_lt a s.state.config.acceptors) _ _
      (λ b. learning_passes (learner.with_state s (learner_take s.state (Voted r a v))) (first_checkpoint (learner_take s.state (Voted r a v)).learned)) (λ b. inl refl)
  learner_passes s (Final e l v) p = cond_cases (λ (u : LearnerInEpoch). Passes s.epoch (u, None)) (nat_eq e s.epoch) _ _
      (λ b. inr (inr (refl, (l, v, among_left ms [] (Final s.epoch l v) (subst (λ (i : ℕ). Among ms (Final i l v)) (eqb-true e s.epoch b) p))))) (λ b. inl refl)

-- ---- all of them

pub record FinalsBelow (config : Counts) (es : List Entry) : Type 0 where
  pub acceptors : (a : ℕ) → Below (messages es) (acceptor_at config a es).epoch
  pub coordinators : (c : ℕ) → Below (messages es) (coordinator_at config c es).epoch
  pub learners : (l : ℕ) → Below (messages es) (learner_at config l es).epoch
  pub all_messages : (m : Stamped) → Among (messages es) m → Below (messages es) (epoch_of m)

module _ (config : Counts) (es : List Entry) (k : FinalsBelow config es) where
  below_rises : (n m : ℕ) → Below (messages es) n → Rises (messages es) n m → Below (messages es) m
  below_rises n m h r = elim r [
    | inl q ↦ subst (λ (i : ℕ). Below (messages es) i) (sym q) h
    | inr t ↦ subst (λ (i : ℕ). Below (messages es) i) (sym t.2) (below_next (messages es) t.0 (k.all_messages (Final t.0 t.1.0 t.1.1) t.1.2) t.1)
  ]

  ballot_epoch : (n : ℕ) (m : Stamped) → IsBallot n m → epoch_of m ≡ n
  ballot_epoch n (Offered c) h = elim h [ ]
  ballot_epoch n (InEpoch i (Proposed c)) h = elim h [ ]
  ballot_epoch n (InEpoch i (Asked r)) h = h
  ballot_epoch n (InEpoch i (Answered r a q v)) h = h
  ballot_epoch n (InEpoch i (Sent r c v)) h = h
  ballot_epoch n (InEpoch i (Voted r a v)) h = h
  ballot_epoch n (Final i l v) h = elim h [ ]

  final_epoch : (n : ℕ) (m : Stamped) → IsFinal n m → epoch_of m ≡ n
  final_epoch n (Offered c) h = elim h [ ]
  final_epoch n (InEpoch i m) h = elim h [ ]
  final_epoch n (Final i l v) h = h

  offered_epoch : (c : Command) (m : Stamped) → Some (Offered c) ≡ Some m → epoch_of m ≡ 0
  offered_epoch c m g = let r : Offered c ≡ m = cc in sym (ap epoch_of r)

  nothing_sent : {P : Type 0} (o : Option Stamped) (m : Stamped) → o ≡ None → o ≡ Some m → P
  nothing_sent o m p q = absurd (cc)

  proposer_epoch : (p : ℕ) (s : ProposerState) (event : Event) (m : Stamped) → (proposer_acts p s event).1 ≡ Some m → epoch_of m ≡ 0
  proposer_epoch p s (Offer q d) m h = cond_cases (λ (u : ProposerState × Option Stamped). u.1 ≡ Some m → epoch_of m ≡ 0) (nat_eq p q) ((proposer_offer s d).0, Some (Offered (numbered s d))) (s, None)
      (λ b g. offered_epoch (numbered s d) m g) (λ b g. nothing_sent None m refl g) h
  proposer_epoch p s (Begin c r) m h = absurd (cc)
  proposer_epoch p s (Take node n) m h = absurd (cc)
  proposer_epoch p s (Fall node what) m h = absurd (cc)

  none_below : Below (messages es) 0
  none_below j less = absurd (omega (arith, less))

  sent_below : (node : Node) (event : Event) (m : Stamped) → sent_by config es node event ≡ Some m → Below (messages es) (epoch_of m)
  sent_below (Proposer p) event m q = subst (λ (i : ℕ). Below (messages es) i) (sym (proposer_epoch p (proposer_at p es) event m q)) none_below
  sent_below (Coordinator c) event m q =
      subst (λ (i : ℕ). Below (messages es) i) (sym (ballot_epoch (coordinator_at config c es).epoch m (subst (λ (o : Option Stamped). Ballots (coordinator_at config c es).epoch o) q (coordinator_sends c (coordinator_at config c es) (messages es) event)))) (k.coordinators c)
  sent_below (Acceptor a) event m q =
      subst (λ (i : ℕ). Below (messages es) i) (sym (ballot_epoch (acceptor_at config a es).epoch m (subst (λ (o : Option Stamped). Ballots (acceptor_at config a es).epoch o) q (acceptor_sends a (acceptor_at config a es) (messages es) event)))) (k.acceptors a)
  sent_below (Learner l) event m q =
      subst (λ (i : ℕ). Below (messages es) i) (sym (final_epoch (learner_at config l es).epoch m (subst (λ (o : Option Stamped). Finals (learner_at config l es).epoch o) q (learner_sends l (learner_at config l es) (messages es) event)))) (k.learners l)

  module _ (l : ℕ) where
    abbrev s : LearnerInEpoch
    s = learner_at config l es

    abbrev LearnerBelow : List Stamped → Event → Type 0
    LearnerBelow sent event = Below (messages es ++ sent) (learner_acts l s (messages es) event).0.epoch

    unchanged : (sent : List Stamped) → Below (messages es ++ sent) s.epoch
    unchanged sent = below_more (messages es) sent s.epoch (k.learners l)

    passed_below : (sent : List Stamped) (p : LearnerInEpoch × Option Stamped) → sent ≡ option_to_list p.1 → Passes (messages es) s.epoch p → Below (messages es ++ sent) p.0.epoch
    passed_below sent p own h = elim h [
      | inl q ↦ subst (λ (i : ℕ). Below (messages es ++ sent) i) (sym q) (unchanged sent)
      | inr t ↦ elim t [
        | inl q ↦ subst (λ (i : ℕ). Below (messages es ++ sent) i) (sym q) (below_more (messages es) sent 0 none_below)
        | inr u ↦ subst (λ (i : ℕ). Below (messages es ++ sent) i) (sym u.0) (below_next (messages es ++ sent) s.epoch (unchanged sent) (subst (λ (ns : List Stamped). HasFinal (messages es ++ ns) s.epoch) (sym own) u.1))
      ]
    ]

    other_at : {X : Type 0} (i : ℕ) (x y : X) → (l ≡ i → ⊥) → cond (nat_eq l i) x y ≡ y
    other_at i x y n = ap (λ (b : Bool). cond b x y) (ne_eqb l i n)

    learner_below : (sent : List Stamped) (event : Event) → sent ≡ sent_at config es event → LearnerBelow sent event
    learner_below sent (Offer p d) own = unchanged sent
    learner_below sent (Begin c r) own = unchanged sent
    learner_below sent (Take (Proposer p) n) own = unchanged sent
    learner_below sent (Take (Coordinator c) n) own = unchanged sent
    learner_below sent (Take (Acceptor a) n) own = unchanged sent
    learner_below sent (Take (Learner i) n) own = elim (nat_cases l i) [
      | inl q ↦ passed_below sent (learner_acts l s (messages es) (Take (Learner i) n))
          (own ∙ (λ j. option_to_list (learner_acts (sym q j) (learner_at config (sym q j) es) (messages es) (Take (Learner i) n)).1))
          (cond_cases (Passes (messages es) s.epoch) (nat_eq l i) _ _
          (λ b. with_message (Passes (messages es) s.epoch) (s, None) (learner.take s) (slice_get (messages es) n) (inl refl) (λ m g. learner_passes (messages es) s m (get_among (messages es) n m g))) (λ b. inl refl))
      | inr d ↦ subst (λ (u : LearnerInEpoch × Option Stamped). Below (messages es ++ sent) u.0.epoch) (sym (other_at i _ (s, None) d)) (unchanged sent)
    ]
    learner_below sent (Fall (Proposer p) what) own = unchanged sent
    learner_below sent (Fall (Coordinator c) what) own = unchanged sent
    learner_below sent (Fall (Acceptor a) what) own = unchanged sent
    learner_below sent (Fall (Learner i) what) own = cond_cases (λ (u : LearnerInEpoch × Option Stamped). Below (messages es ++ sent) u.0.epoch) (nat_eq l i) _ _
        (λ b. below_more (messages es) sent 0 none_below) (λ b. unchanged sent)

  more_below : (x : Entry) → Follows config es x → FinalsBelow config (x ∷ es)
  more_below x f = record {
    acceptors = λ a. below_more (messages es) x.sent _ (below_rises (acceptor_at config a es).epoch _ (k.acceptors a) (acceptor_acts_rise (messages es) a (acceptor_at config a es) x.event));
    coordinators = λ c. below_more (messages es) x.sent _ (below_rises (coordinator_at config c es).epoch _ (k.coordinators c) (coordinator_acts_rise (messages es) c (coordinator_at config c es) x.event));
    learners = λ l. learner_below l x.sent x.event f.own_messages;
    all_messages = λ m p. elim (among_append (messages es) x.sent m p) [
      | inl a ↦ below_more (messages es) x.sent (epoch_of m) (k.all_messages m a)
      | inr b ↦ below_more (messages es) x.sent (epoch_of m) (sent_below (node_of x.event) x.event m (one_sent (sent_by config es (node_of x.event) x.event) m (subst (λ (ms : List Stamped). Among ms m) f.own_messages b)))
    ];
  }

-- in a legal run every epoch below that of a node or of a message has a Final
pub finals_below : (config : Counts) (es : List Entry) → Legal config es → FinalsBelow config es
finals_below config [] legal = record {
  acceptors = λ a j less. absurd (omega (arith, less));
  coordinators = λ c j less. absurd (omega (arith, less));
  learners = λ l j less. absurd (omega (arith, less));
  all_messages = λ m p. elim p [ ];
}
finals_below config (x ∷ es) legal = more_below config es (finals_below config es legal.0) x legal.1
