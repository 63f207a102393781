-- What each step of a role in an epoch leaves: its configuration and number; and that it proposes nothing.
use Rattle.std.proofs.Common.{◌≡◌, ℕ, not, ◌&&◌, ◌||◌, nat_lt, List, [], ◌∷◌, Option, Some, None, slice_get, refl}
use Rattle.std.specs.Prelude.{nat_eq, slice_set}
use Rattle.std.specs.FinSet as set
use Rattle.gp_command.specs.declared.command.Command.{Command}
use Rattle.gp_history.specs.History.{History, has, size}
use Rattle.gp_round.specs.Counts.{Counts}
use Rattle.gp_round.specs.Rounds.{earlier, same_round, is_fast, is_multi}
use Rattle.gp_safe.specs.Held.{newer}
use Rattle.gp_msg.specs.declared.node.Node.TheVariants.{Proposer, Coordinator, Acceptor, Learner}
use Rattle.gp_msg.specs.declared.event.Event.{Event}
use Rattle.gp_msg.specs.declared.event.Event.TheVariants.{Offer, Begin, Take, Fall}
use Rattle.gp_msg.specs.Messages.{Message, Proposed, Asked, Answered, Sent, Voted, Part, Acceptors, Coordinators}
use Rattle.gp_coordinator.specs.State.{CoordinatorState}
use Rattle.gp_coordinator.specs.Replies.{reply_at}
use Rattle.gp_coordinator.specs.Table as coordinator
use Rattle.gp_acceptor.specs.State.{AcceptorState}
use Rattle.gp_acceptor.specs.Table as acceptor
use Rattle.gp_learner.specs.State.{LearnerState}
use Rattle.gp_learner.specs.Table as learner
use Rattle.gp_cstructs.proofs.Lists.{cond_cases}
use Rattle.gp_epoch.specs.Cut.{first_checkpoint}
use Rattle.gp_msg.specs.Messages.{Stamped, Offered, InEpoch, Final, Entry}
use Rattle.gp_coordinator.specs.Epochs as coordinators
use Rattle.gp_coordinator.specs.Epochs.{CoordinatorInEpoch}
use Rattle.gp_acceptor.specs.Epochs as acceptors
use Rattle.gp_acceptor.specs.Epochs.{AcceptorInEpoch}
use Rattle.gp_learner.specs.Epochs as learners
use Rattle.gp_learner.specs.Epochs.{LearnerInEpoch}
use Rattle.gp_run.specs.Messages.{messages, on_message}
use Rattle.gp_run.specs.States.{coordinator_kept, coordinator_acts, coordinator_at, acceptor_kept, acceptor_acts, acceptor_at, learner_acts, learner_at}

pub on_message_cases : {X : Type 0} (P : X → Type 0) (x : X) (f : Stamped → X) (o : Option Stamped) → P x → ((m : Stamped) → P (f m)) → P (on_message x f o)
on_message_cases P x f None p q = p
on_message_cases P x f (Some m) p q = q m

abbrev nothing_sent : Option Message
nothing_sent = None

-- ---- acceptors

module _ (config : Counts) (number : ℕ) where
  -- the state is of this acceptor
  pub record IsAcceptor (s : AcceptorState) : Type 0 where
    pub own_config : s.config ≡ config
    pub own_number : s.number ≡ number

  with_vote_own : (s : AcceptorState) (o : Option History) → IsAcceptor s → IsAcceptor (acceptor.with_vote s o)
  with_vote_own s None k = k
  with_vote_own s (Some v) k = record { own_config = k.own_config; own_number = k.own_number }

  with_value_own : (s : AcceptorState) (c : ℕ) (o : Option History) → IsAcceptor s → IsAcceptor (acceptor.with_value s c o)
  with_value_own s c None k = k
  with_value_own s c (Some v) k = record { own_config = k.own_config; own_number = k.own_number }

  raised_own : (s : AcceptorState) (m : Message) → IsAcceptor s → (r : _) → IsAcceptor (acceptor.raised s r)
  raised_own s m k r = cond_cases IsAcceptor (earlier s.round r) _ _ (λ e. record { own_config = k.own_config; own_number = k.own_number }) (λ e. k)

  take_own : (s : AcceptorState) (m : Message) → IsAcceptor s → IsAcceptor (acceptor.acceptor_take s m).0
  take_own s (Proposed c) k = cond_cases (λ (p : AcceptorState × Option Message). IsAcceptor p.0) (same_round s.voted s.round && is_fast s.round.mode && not (has s.vote c)) _ _ (λ e. record { own_config = k.own_config; own_number = k.own_number }) (λ e. k)
  take_own s (Asked r) k = cond_cases (λ (p : AcceptorState × Option Message). IsAcceptor p.0) (earlier s.round r) _ _ (λ e. record { own_config = k.own_config; own_number = k.own_number }) (λ e. k)
  take_own s (Answered r a q v) k = k
  take_own s (Sent r c v) k = cond_cases (λ (p : AcceptorState × Option Message). IsAcceptor p.0) (not (earlier r s.round) && nat_lt c s.config.coordinators) _ _
      (λ e. with_vote_own (acceptor.holding (acceptor.raised s r) c v) (acceptor.next_vote_of (acceptor.holding (acceptor.raised s r) c v))
      (with_value_own (acceptor.raised s r) c (newer (acceptor.value_at (acceptor.raised s r).held c) v) (raised_own s (Asked r) k r)))
      (λ e. k)
  take_own s (Voted r a v) k = k

  fall_own : (s : AcceptorState) (p : Part) → IsAcceptor s → IsAcceptor (acceptor.acceptor_fall s p)
  fall_own s (Acceptors r q v) k = record { own_config = k.own_config; own_number = k.own_number }
  fall_own s (Coordinators r) k = k

  abbrev IsOwnAcceptor : AcceptorInEpoch → Type 0
  IsOwnAcceptor s = IsAcceptor s.state

  receive_own : (s : AcceptorInEpoch) (m : Stamped) → IsOwnAcceptor s → IsOwnAcceptor (acceptors.take s m).0
  receive_own s (Offered c) k = take_own s.state (Proposed c) k
  receive_own s (InEpoch e m) k = cond_cases (λ (p : AcceptorInEpoch × Option Stamped). IsOwnAcceptor p.0) (nat_eq e s.epoch) _ _ (λ b. take_own s.state m k) (λ b. k)
  receive_own s (Final e l v) k = cond_cases IsOwnAcceptor (nat_lt e s.epoch) _ _ (λ b. k) (λ b. record { own_config = k.own_config; own_number = k.own_number })

  pub acts_own : (s : AcceptorInEpoch) (ms : List Stamped) (event : Event) → IsOwnAcceptor s → IsOwnAcceptor (acceptor_acts number s ms event).0
  acts_own s ms (Offer p d) k = k
  acts_own s ms (Begin c r) k = k
  acts_own s ms (Take (Proposer p) n) k = k
  acts_own s ms (Take (Coordinator c) n) k = k
  acts_own s ms (Take (Acceptor b) n) k = cond_cases (λ (p : AcceptorInEpoch × Option Stamped). IsOwnAcceptor p.0) (nat_eq number b) _ _
      (λ e. on_message_cases (λ (p : AcceptorInEpoch × Option Stamped). IsOwnAcceptor p.0) (s, None) (acceptors.take s) (slice_get ms n) k (λ m. receive_own s m k)) (λ e. k)
  acts_own s ms (Take (Learner l) n) k = k
  acts_own s ms (Fall (Proposer p) what) k = k
  acts_own s ms (Fall (Coordinator c) what) k = k
  acts_own s ms (Fall (Acceptor b) what) k = cond_cases (λ (p : AcceptorInEpoch × Option Stamped). IsOwnAcceptor p.0) (nat_eq number b) _ _
      (λ e. fall_own s.state (acceptor_kept s ms what).part k) (λ e. k)
  acts_own s ms (Fall (Learner l) what) k = k

pub acceptor_own : (config : Counts) (a : ℕ) (es : List Entry) → IsAcceptor config a (acceptor_at config a es).state
acceptor_own config a [] = record { own_config = refl; own_number = refl }
acceptor_own config a (e ∷ es) = acts_own config a (acceptor_at config a es) (messages es) e.event (acceptor_own config a es)

-- an acceptor proposes nothing
pub acceptor_proposes_nothing : (s : AcceptorState) (m : Message) (c : Command) → (acceptor.acceptor_take s m).1 ≡ Some (Proposed c) → ⊥
acceptor_proposes_nothing s (Proposed d) c = cond_cases (λ (p : AcceptorState × Option Message). p.1 ≡ Some (Proposed c) → ⊥) (same_round s.voted s.round && is_fast s.round.mode && not (has s.vote d)) _ _ (λ e h. cc) (λ e h. cc)
acceptor_proposes_nothing s (Asked r) c = cond_cases (λ (p : AcceptorState × Option Message). p.1 ≡ Some (Proposed c) → ⊥) (earlier s.round r) _ _ (λ e h. cc) (λ e h. cc)
acceptor_proposes_nothing s (Answered r a q v) c = λ h. cc
acceptor_proposes_nothing s (Sent r d v) c = cond_cases (λ (p : AcceptorState × Option Message). p.1 ≡ Some (Proposed c) → ⊥) (not (earlier r s.round) && nat_lt d s.config.coordinators) _ _
    (λ e. let t : AcceptorState = acceptor.holding (acceptor.raised s r) d v in told t.number t.voted t.round t.vote (acceptor.next_vote_of t)) (λ e h. cc)
  where
    told : (n : ℕ) (q r : _) (v : History) (o : Option History) → acceptor.told_vote n q r v o ≡ Some (Proposed c) → ⊥
    told n q r v None = λ h. cc
    told n q r v (Some w) = cond_cases (λ (o : Option Message). o ≡ Some (Proposed c) → ⊥) (earlier q r || nat_lt (size v) (size w)) (Some (Voted r n w)) None (λ e (h : Some (Voted r n w) ≡ Some (Proposed c)). cc) (λ e (h : nothing_sent ≡ Some (Proposed c)). cc)
acceptor_proposes_nothing s (Voted r a v) c = λ h. cc

-- ---- coordinators

module _ (config : Counts) (number : ℕ) where
  pub record IsCoordinator (s : CoordinatorState) : Type 0 where
    pub own_config : s.config ≡ config
    pub own_number : s.number ≡ number

  abbrev OwnFirst : CoordinatorState × Option Message → Type 0
  OwnFirst p = IsCoordinator p.0

  extended_own : (s : CoordinatorState) (o : Option History) (c : Command) → IsCoordinator s → IsCoordinator (coordinator.extended s o c).0
  extended_own s None c k = k
  extended_own s (Some w) c k = cond_cases OwnFirst (not (has w c) && not (is_fast s.round.mode)) _ _ (λ e. record { own_config = k.own_config; own_number = k.own_number }) (λ e. k)

  coordinator_begin_own : (s : CoordinatorState) (r : _) → IsCoordinator s → IsCoordinator (coordinator.coordinator_begin s r).0
  coordinator_begin_own s r k = cond_cases OwnFirst (earlier s.round r) _ _ (λ e. record { own_config = k.own_config; own_number = k.own_number }) (λ e. k)

  coordinator_take_own : (s : CoordinatorState) (m : Message) → IsCoordinator s → IsCoordinator (coordinator.coordinator_take s m).0
  coordinator_take_own s (Proposed c) k = extended_own (record s { pending = coordinator.pending_with s.pending c }) s.value c (record { own_config = k.own_config; own_number = k.own_number })
  coordinator_take_own s (Asked r) k = cond_cases OwnFirst (is_multi r.mode && earlier s.round r) _ _ (λ e. record { own_config = k.own_config; own_number = k.own_number }) (λ e. k)
  coordinator_take_own s (Answered r a q v) k = cond_cases OwnFirst (coordinator.expects s r a) _ _
      (λ e. cond_cases OwnFirst _ _ _ (λ f. record { own_config = k.own_config; own_number = k.own_number }) (λ f. record { own_config = k.own_config; own_number = k.own_number })) (λ e. k)
  coordinator_take_own s (Sent r c v) k = k
  coordinator_take_own s (Voted r a v) k = k

  coordinator_fall_own : (s : CoordinatorState) (p : Part) → IsCoordinator s → IsCoordinator (coordinator.coordinator_fall s p)
  coordinator_fall_own s (Acceptors r q v) k = k
  coordinator_fall_own s (Coordinators r) k = record { own_config = k.own_config; own_number = k.own_number }

  abbrev IsOwnCoordinator : CoordinatorInEpoch → Type 0
  IsOwnCoordinator s = IsCoordinator s.state

  abbrev OwnPair : CoordinatorInEpoch × Option Stamped → Type 0
  OwnPair p = IsOwnCoordinator p.0

  pub coordinator_receive_own : (s : CoordinatorInEpoch) (m : Stamped) → IsOwnCoordinator s → IsOwnCoordinator (coordinators.take s m).0
  coordinator_receive_own s (Offered c) k = cond_cases OwnPair (set.contains s.done c) _ _ (λ b. k) (λ b. coordinator_take_own s.state (Proposed c) k)
  coordinator_receive_own s (InEpoch e m) k = cond_cases OwnPair (nat_eq e s.epoch) _ _ (λ b. coordinator_take_own s.state m k) (λ b. k)
  coordinator_receive_own s (Final e l v) k = cond_cases IsOwnCoordinator (nat_lt e s.epoch) _ _ (λ b. record { own_config = k.own_config; own_number = k.own_number }) (λ b. record { own_config = k.own_config; own_number = k.own_number })

  pub coordinator_acts_own : (s : CoordinatorInEpoch) (ms : List Stamped) (event : Event) → IsOwnCoordinator s → IsOwnCoordinator (coordinator_acts number s ms event).0
  coordinator_acts_own s ms (Offer p d) k = k
  coordinator_acts_own s ms (Begin b r) k = cond_cases OwnPair (nat_eq number b) _ _ (λ e. coordinator_begin_own s.state r k) (λ e. k)
  coordinator_acts_own s ms (Take (Proposer p) n) k = k
  coordinator_acts_own s ms (Take (Coordinator b) n) k = cond_cases OwnPair (nat_eq number b) _ _
      (λ e. on_message_cases OwnPair (s, None) (coordinators.take s) (slice_get ms n) k (λ m. coordinator_receive_own s m k)) (λ e. k)
  coordinator_acts_own s ms (Take (Acceptor a) n) k = k
  coordinator_acts_own s ms (Take (Learner l) n) k = k
  coordinator_acts_own s ms (Fall (Proposer p) what) k = k
  coordinator_acts_own s ms (Fall (Coordinator b) what) k = cond_cases OwnPair (nat_eq number b) _ _ (λ e. coordinator_fall_own s.state (coordinator_kept s ms what).part k) (λ e. k)
  coordinator_acts_own s ms (Fall (Acceptor a) what) k = k
  coordinator_acts_own s ms (Fall (Learner l) what) k = k

pub coordinator_own : (config : Counts) (c : ℕ) (es : List Entry) → IsCoordinator config c (coordinator_at config c es).state
coordinator_own config c [] = record { own_config = refl; own_number = refl }
coordinator_own config c (e ∷ es) = coordinator_acts_own config c (coordinator_at config c es) (messages es) e.event (coordinator_own config c es)

pub begin_proposes_nothing : (s : CoordinatorState) (r : _) (c : Command) → (coordinator.coordinator_begin s r).1 ≡ Some (Proposed c) → ⊥
begin_proposes_nothing s r c = cond_cases (λ (p : CoordinatorState × Option Message). p.1 ≡ Some (Proposed c) → ⊥) (earlier s.round r) _ _ (λ e h. cc) (λ e h. cc)

pub coordinator_proposes_nothing : (s : CoordinatorState) (m : Message) (c : Command) → (coordinator.coordinator_take s m).1 ≡ Some (Proposed c) → ⊥
coordinator_proposes_nothing s (Proposed d) c = by_value s.value
  where
    by_value : (o : Option History) → (coordinator.extended (record s { pending = coordinator.pending_with s.pending d }) o d).1 ≡ Some (Proposed c) → ⊥
    by_value None = λ h. cc
    by_value (Some w) = cond_cases (λ (p : CoordinatorState × Option Message). p.1 ≡ Some (Proposed c) → ⊥) (not (has w d) && not (is_fast s.round.mode)) _ _ (λ e h. cc) (λ e h. cc)
coordinator_proposes_nothing s (Asked r) c = cond_cases (λ (p : CoordinatorState × Option Message). p.1 ≡ Some (Proposed c) → ⊥) (is_multi r.mode && earlier s.round r) _ _ (λ e h. cc) (λ e h. cc)
coordinator_proposes_nothing s (Answered r a q v) c = cond_cases (λ (p : CoordinatorState × Option Message). p.1 ≡ Some (Proposed c) → ⊥) (coordinator.expects s r a) _ _
    (λ e. after (record s { answers = slice_set s.answers a (Some (record { round = q; vote = v })) })) (λ e h. cc)
  where
    after : (t : CoordinatorState) → (coordinator.answered t).1 ≡ Some (Proposed c) → ⊥
    after t = cond_cases (λ (p : CoordinatorState × Option Message). p.1 ≡ Some (Proposed c) → ⊥) (coordinator.is_enough t.config.acceptors (reply_at t.answers)) (record t { value = Some (coordinator.chosen t) }, Some (Sent t.round t.number (coordinator.chosen t))) (t, None)
        (λ f (h : Some (Sent t.round t.number (coordinator.chosen t)) ≡ Some (Proposed c)). cc) (λ f (h : nothing_sent ≡ Some (Proposed c)). cc)
coordinator_proposes_nothing s (Sent r d v) c = λ h. cc
coordinator_proposes_nothing s (Voted r a v) c = λ h. cc

-- ---- learners

module _ (config : Counts) (number : ℕ) where
  pub record IsLearner (s : LearnerState) : Type 0 where
    pub own_config : s.config ≡ config
    pub own_number : s.number ≡ number

  abbrev IsOwnLearner : LearnerInEpoch → Type 0
  IsOwnLearner s = IsLearner s.state

  abbrev OwnLearnerPair : LearnerInEpoch × Option Stamped → Type 0
  OwnLearnerPair p = IsOwnLearner p.0

  learning_own : (s : LearnerInEpoch) (o : Option Command) → IsOwnLearner s → IsOwnLearner (learners.learning s o).0
  learning_own s None k = k
  learning_own s (Some z) k = record { own_config = k.own_config; own_number = k.own_number }

  learner_take_own : (s : LearnerState) (r : _) (a : ℕ) (v : History) → IsLearner s → IsLearner (learner.learner_take s (Voted r a v))
  learner_take_own s r a v k = cond_cases IsLearner (nat_lt a s.config.acceptors) _ _ (λ e. record { own_config = k.own_config; own_number = k.own_number }) (λ e. k)

  learner_receive_own : (s : LearnerInEpoch) (m : Stamped) → IsOwnLearner s → IsOwnLearner (learners.take s m).0
  learner_receive_own s (Offered c) k = k
  learner_receive_own s (InEpoch e (Proposed c)) k = k
  learner_receive_own s (InEpoch e (Asked r)) k = k
  learner_receive_own s (InEpoch e (Answered r a q v)) k = k
  learner_receive_own s (InEpoch e (Sent r c v)) k = k
  learner_receive_own s (InEpoch e (Voted r a v)) k = cond_cases OwnLearnerPair (nat_eq e s.epoch && nat_lt a s.state.config.acceptors) _ _
      (λ b. learning_own (learners.with_state s (learner.learner_take s.state (Voted r a v))) (first_checkpoint (learner.learner_take s.state (Voted r a v)).learned) (learner_take_own s.state r a v k)) (λ b. k)
  learner_receive_own s (Final e l v) k = cond_cases IsOwnLearner (nat_eq e s.epoch) _ _ (λ b. record { own_config = k.own_config; own_number = k.own_number }) (λ b. k)

  learner_acts_own : (s : LearnerInEpoch) (ms : List Stamped) (event : Event) → IsOwnLearner s → IsOwnLearner (learner_acts number s ms event).0
  learner_acts_own s ms (Offer p d) k = k
  learner_acts_own s ms (Begin c r) k = k
  learner_acts_own s ms (Take (Proposer p) n) k = k
  learner_acts_own s ms (Take (Coordinator c) n) k = k
  learner_acts_own s ms (Take (Acceptor a) n) k = k
  learner_acts_own s ms (Take (Learner i) n) k = cond_cases OwnLearnerPair (nat_eq number i) _ _
      (λ e. on_message_cases OwnLearnerPair (s, None) (learners.take s) (slice_get ms n) k (λ m. learner_receive_own s m k)) (λ e. k)
  learner_acts_own s ms (Fall (Proposer p) what) k = k
  learner_acts_own s ms (Fall (Coordinator c) what) k = k
  learner_acts_own s ms (Fall (Acceptor a) what) k = k
  learner_acts_own s ms (Fall (Learner i) what) k = cond_cases OwnLearnerPair (nat_eq number i) _ _ (λ e. record { own_config = k.own_config; own_number = k.own_number }) (λ e. k)

pub learner_own : (config : Counts) (l : ℕ) (es : List Entry) → IsLearner config l (learner_at config l es).state
learner_own config l [] = record { own_config = refl; own_number = refl }
learner_own config l (e ∷ es) = learner_acts_own config l (learner_at config l es) (messages es) e.event (learner_own config l es)
