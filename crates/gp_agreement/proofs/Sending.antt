-- What each kind of node sends.
use Rattle.std.proofs.Common.{◌≡◌, ℕ, ◌&&◌, nat_eq, nat_lt, List, [], ◌∷◌, Option, Some, None, slice_get, refl, subst, inl, inr}
use Rattle.std.specs.Option.{option_to_list}
use Rattle.std.specs.FinSet as set
use Rattle.gp_command.specs.declared.command.Command.{Command}
use Rattle.gp_round.specs.Counts.{Counts}
use Rattle.gp_msg.specs.declared.node.Node.{Node}
use Rattle.gp_msg.specs.declared.node.Node.TheVariants.{Proposer, Coordinator, Acceptor, Learner}
use Rattle.gp_msg.specs.declared.event.Event.{Event}
use Rattle.gp_msg.specs.declared.event.Event.TheVariants.{Offer, Begin, Take, Fall}
use Rattle.gp_msg.specs.Messages.{Message, Proposed, Asked, Answered, Sent, Voted, Stamped, Offered, InEpoch, Final, stamped, maybe_stamped, Entry}
use Rattle.gp_coordinator.specs.Table.{coordinator_begin, coordinator_take}
use Rattle.gp_acceptor.specs.Table.{acceptor_take}
use Rattle.gp_learner.specs.Table.{learner_take}
use Rattle.gp_cstructs.specs.CStructs.{Among}
use Rattle.gp_cstructs.proofs.Lists.{cond_cases, among_append}
use Rattle.gp_epoch.specs.Cut.{first_checkpoint}
use Rattle.gp_msg.specs.Nodes.{node_of}
use Rattle.gp_coordinator.specs.Epochs as coordinators
use Rattle.gp_coordinator.specs.Epochs.{CoordinatorInEpoch}
use Rattle.gp_acceptor.specs.Epochs as acceptors
use Rattle.gp_acceptor.specs.Epochs.{AcceptorInEpoch}
use Rattle.gp_learner.specs.Epochs as learners
use Rattle.gp_learner.specs.Epochs.{LearnerInEpoch}
use Rattle.gp_run.specs.Messages.{messages}
use Rattle.gp_run.specs.States.{proposer_acts, proposer_at, coordinator_acts, coordinator_at, acceptor_acts, acceptor_at, learner_acts, learner_at}
use Rattle.gp_run.specs.Legal.{sent_by, Legal}
use Rattle.gp_agreement.proofs.Steps.{begin_proposes_nothing, coordinator_proposes_nothing, acceptor_proposes_nothing, on_message_cases}

-- a message of an epoch, which is no proposal
abbrev pub IsBallot : ℕ → Stamped → Type 0
IsBallot e (Offered c) = ⊥
IsBallot e (InEpoch i (Proposed c)) = ⊥
IsBallot e (InEpoch i (Asked r)) = i ≡ e
IsBallot e (InEpoch i (Answered r a q v)) = i ≡ e
IsBallot e (InEpoch i (Sent r c v)) = i ≡ e
IsBallot e (InEpoch i (Voted r a v)) = i ≡ e
IsBallot e (Final i l v) = ⊥

-- what is sent in epoch e, if anything is, is a message of it
abbrev pub Ballots : ℕ → Option Stamped → Type 0
Ballots e None = Unit {0}
Ballots e (Some m) = IsBallot e m

one_stamped : (e : ℕ) (m : Message) → ((c : Command) → m ≡ Proposed c → ⊥) → IsBallot e (stamped e m)
one_stamped e (Proposed c) h = h c refl
one_stamped e (Asked r) h = refl
one_stamped e (Answered r a q v) h = refl
one_stamped e (Sent r c v) h = refl
one_stamped e (Voted r a v) h = refl

pub ballots : (e : ℕ) (o : Option Message) → ((c : Command) → o ≡ Some (Proposed c) → ⊥) → Ballots e (maybe_stamped e o)
ballots e None h = tt
ballots e (Some m) h = one_stamped e m (λ c q. h c (λ k. Some (q k)))

-- ---- acceptors and coordinators send messages of their epoch

abbrev AcceptorSends : ℕ → AcceptorInEpoch × Option Stamped → Type 0
AcceptorSends e p = Ballots e p.1

acceptor_receives : (s : AcceptorInEpoch) (m : Stamped) → Ballots s.epoch (acceptors.take s m).1
acceptor_receives s (Offered c) = ballots s.epoch (acceptor_take s.state (Proposed c)).1 (acceptor_proposes_nothing s.state (Proposed c))
acceptor_receives s (InEpoch e m) = cond_cases (AcceptorSends s.epoch) (nat_eq e s.epoch) _ _ (λ b. ballots s.epoch (acceptor_take s.state m).1 (acceptor_proposes_nothing s.state m)) (λ b. tt)
acceptor_receives s (Final e l v) = tt

pub acceptor_sends : (a : ℕ) (s : AcceptorInEpoch) (ms : List Stamped) (event : Event) → Ballots s.epoch (acceptor_acts a s ms event).1
acceptor_sends a s ms (Offer p d) = tt
acceptor_sends a s ms (Begin c r) = tt
acceptor_sends a s ms (Take (Proposer p) k) = tt
acceptor_sends a s ms (Take (Coordinator c) k) = tt
acceptor_sends a s ms (Take (Acceptor b) k) = cond_cases (AcceptorSends s.epoch) (nat_eq a b) _ _ (λ e. on_message_cases (AcceptorSends s.epoch) (s, None) (acceptors.take s) (slice_get ms k) tt (acceptor_receives s)) (λ e. tt)
acceptor_sends a s ms (Take (Learner l) k) = tt
acceptor_sends a s ms (Fall (Proposer p) what) = tt
acceptor_sends a s ms (Fall (Coordinator c) what) = tt
acceptor_sends a s ms (Fall (Acceptor b) what) = cond_cases (AcceptorSends s.epoch) (nat_eq a b) _ _ (λ e. tt) (λ e. tt)
acceptor_sends a s ms (Fall (Learner l) what) = tt

abbrev CoordinatorSends : ℕ → CoordinatorInEpoch × Option Stamped → Type 0
CoordinatorSends e p = Ballots e p.1

coordinator_receives : (s : CoordinatorInEpoch) (m : Stamped) → Ballots s.epoch (coordinators.take s m).1
coordinator_receives s (Offered c) = cond_cases (CoordinatorSends s.epoch) (set.contains s.done c) _ _ (λ b. tt) (λ b. ballots s.epoch (coordinator_take s.state (Proposed c)).1 (coordinator_proposes_nothing s.state (Proposed c)))
coordinator_receives s (InEpoch e m) = cond_cases (CoordinatorSends s.epoch) (nat_eq e s.epoch) _ _ (λ b. ballots s.epoch (coordinator_take s.state m).1 (coordinator_proposes_nothing s.state m)) (λ b. tt)
coordinator_receives s (Final e l v) = tt

pub coordinator_sends : (c : ℕ) (s : CoordinatorInEpoch) (ms : List Stamped) (event : Event) → Ballots s.epoch (coordinator_acts c s ms event).1
coordinator_sends c s ms (Offer p d) = tt
coordinator_sends c s ms (Begin b r) = cond_cases (CoordinatorSends s.epoch) (nat_eq c b) _ _ (λ e. ballots s.epoch (coordinator_begin s.state r).1 (begin_proposes_nothing s.state r)) (λ e. tt)
coordinator_sends c s ms (Take (Proposer p) k) = tt
coordinator_sends c s ms (Take (Coordinator b) k) = cond_cases (CoordinatorSends s.epoch) (nat_eq c b) _ _ (λ e. on_message_cases (CoordinatorSends s.epoch) (s, None) (coordinators.take s) (slice_get ms k) tt (coordinator_receives s)) (λ e. tt)
coordinator_sends c s ms (Take (Acceptor a) k) = tt
coordinator_sends c s ms (Take (Learner l) k) = tt
coordinator_sends c s ms (Fall (Proposer p) what) = tt
coordinator_sends c s ms (Fall (Coordinator b) what) = cond_cases (CoordinatorSends s.epoch) (nat_eq c b) _ _ (λ e. tt) (λ e. tt)
coordinator_sends c s ms (Fall (Acceptor a) what) = tt
coordinator_sends c s ms (Fall (Learner l) what) = tt

-- ---- learners send Final messages of their epoch

abbrev pub IsFinal : ℕ → Stamped → Type 0
IsFinal e (Offered c) = ⊥
IsFinal e (InEpoch i m) = ⊥
IsFinal e (Final i l v) = i ≡ e

abbrev pub Finals : ℕ → Option Stamped → Type 0
Finals e None = Unit {0}
Finals e (Some m) = IsFinal e m

abbrev LearnerSends : ℕ → LearnerInEpoch × Option Stamped → Type 0
LearnerSends e p = Finals e p.1

learning_sends : (s : LearnerInEpoch) (o : Option Command) → Finals s.epoch (learners.learning s o).1
learning_sends s None = tt
learning_sends s (Some z) = refl

learner_receives : (s : LearnerInEpoch) (m : Stamped) → Finals s.epoch (learners.take s m).1
learner_receives s (Offered c) = tt
learner_receives s (InEpoch e (Proposed c)) = tt
learner_receives s (InEpoch e (Asked r)) = tt
learner_receives s (InEpoch e (Answered r a q v)) = tt
learner_receives s (InEpoch e (Sent r c v)) = tt
learner_receives s (InEpoch e (Voted r a v)) = cond_cases (LearnerSends s.epoch) (nat_eq e s.epoch && nat_lt a s.state.config.acceptors) _ _
    (λ b. learning_sends (learners.with_state s (learner_take s.state (Voted r a v))) (first_checkpoint (learner_take s.state (Voted r a v)).learned)) (λ b. tt)
learner_receives s (Final e l v) = tt

pub learner_sends : (l : ℕ) (s : LearnerInEpoch) (ms : List Stamped) (event : Event) → Finals s.epoch (learner_acts l s ms event).1
learner_sends l s ms (Offer p d) = tt
learner_sends l s ms (Begin c r) = tt
learner_sends l s ms (Take (Proposer p) k) = tt
learner_sends l s ms (Take (Coordinator c) k) = tt
learner_sends l s ms (Take (Acceptor a) k) = tt
learner_sends l s ms (Take (Learner i) k) = cond_cases (LearnerSends s.epoch) (nat_eq l i) _ _ (λ e. on_message_cases (LearnerSends s.epoch) (s, None) (learners.take s) (slice_get ms k) tt (learner_receives s)) (λ e. tt)
learner_sends l s ms (Fall (Proposer p) what) = tt
learner_sends l s ms (Fall (Coordinator c) what) = tt
learner_sends l s ms (Fall (Acceptor a) what) = tt
learner_sends l s ms (Fall (Learner i) what) = cond_cases (LearnerSends s.epoch) (nat_eq l i) _ _ (λ e. tt) (λ e. tt)

-- ---- proposals are of no epoch

abbrev IsClean : Stamped → Type 0
IsClean (Offered c) = Unit {0}
IsClean (InEpoch e (Proposed c)) = ⊥
IsClean (InEpoch e (Asked r)) = Unit {0}
IsClean (InEpoch e (Answered r a q v)) = Unit {0}
IsClean (InEpoch e (Sent r c v)) = Unit {0}
IsClean (InEpoch e (Voted r a v)) = Unit {0}
IsClean (Final e l v) = Unit {0}

abbrev AreClean : Option Stamped → Type 0
AreClean None = Unit {0}
AreClean (Some m) = IsClean m

ballot_clean : (e : ℕ) (m : Stamped) → IsBallot e m → IsClean m
ballot_clean e (Offered c) h = tt
ballot_clean e (InEpoch i (Proposed c)) h = h
ballot_clean e (InEpoch i (Asked r)) h = tt
ballot_clean e (InEpoch i (Answered r a q v)) h = tt
ballot_clean e (InEpoch i (Sent r c v)) h = tt
ballot_clean e (InEpoch i (Voted r a v)) h = tt
ballot_clean e (Final i l v) h = tt

ballots_clean : (e : ℕ) (o : Option Stamped) → Ballots e o → AreClean o
ballots_clean e None h = tt
ballots_clean e (Some m) h = ballot_clean e m h

finals_clean : (e : ℕ) (o : Option Stamped) → Finals e o → AreClean o
finals_clean e None h = tt
finals_clean e (Some (Offered c)) h = tt
finals_clean e (Some (InEpoch i m)) h = elim h [ ]
finals_clean e (Some (Final i l v)) h = tt

proposer_clean : (p : ℕ) (s : _) (event : Event) → AreClean (proposer_acts p s event).1
proposer_clean p s (Offer q d) = cond_cases (λ (u : _ × Option Stamped). AreClean u.1) (nat_eq p q) _ _ (λ e. tt) (λ e. tt)
proposer_clean p s (Begin c r) = tt
proposer_clean p s (Take node k) = tt
proposer_clean p s (Fall node what) = tt

sent_clean : (config : Counts) (es : List Entry) (node : Node) (event : Event) → AreClean (sent_by config es node event)
sent_clean config es (Proposer p) event = proposer_clean p (proposer_at p es) event
sent_clean config es (Coordinator c) event = ballots_clean (coordinator_at config c es).epoch (coordinator_acts c (coordinator_at config c es) (messages es) event).1 (coordinator_sends c (coordinator_at config c es) (messages es) event)
sent_clean config es (Acceptor a) event = ballots_clean (acceptor_at config a es).epoch (acceptor_acts a (acceptor_at config a es) (messages es) event).1 (acceptor_sends a (acceptor_at config a es) (messages es) event)
sent_clean config es (Learner l) event = finals_clean (learner_at config l es).epoch (learner_acts l (learner_at config l es) (messages es) event).1 (learner_sends l (learner_at config l es) (messages es) event)

pub one_sent : (o : Option Stamped) (m : Stamped) → Among (option_to_list o) m → o ≡ Some m
one_sent None m p = elim p [ ]
one_sent (Some x) m p = elim p [ inl q ↦ (λ k. Some (q k)) | inr z ↦ elim z [ ] ]

-- in a legal run each proposal is of no epoch
pub proposals_are_of_no_epoch : (config : Counts) (es : List Entry) → Legal config es → (m : Stamped) → Among (messages es) m → (e : ℕ) (c : Command) → m ≡ InEpoch e (Proposed c) → ⊥
proposals_are_of_no_epoch config [] legal m p e c q = elim p [ ]
proposals_are_of_no_epoch config (x ∷ es) legal m p e c q = elim (among_append (messages es) x.sent m p) [
  | inl a ↦ proposals_are_of_no_epoch config es legal.0 m a e c q
  | inr b ↦
      let o = one_sent (sent_by config es (node_of x.event) x.event) m (subst (λ (ms : List Stamped). Among ms m) legal.1.own_messages b) in
      subst (λ (u : Option Stamped). AreClean u) (λ k. Some (q k)) (subst (λ (u : Option Stamped). AreClean u) o (sent_clean config es (node_of x.event) x.event))
]
