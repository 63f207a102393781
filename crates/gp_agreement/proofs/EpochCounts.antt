-- No epoch is greater than the number of entries.
use Rattle.std.proofs.Common.{◌≡◌, ◌≤◌, ℕ, suc, ◌&&◌, nat_eq, nat_lt, List, [], ◌∷◌, Option, Some, None, slice_get, length, refl, subst, inl, inr, arith}
use Rattle.std.specs.FinSet as set
use Rattle.gp_command.specs.declared.command.Command.{Command}
use Rattle.gp_round.specs.Counts.{Counts}
use Rattle.gp_msg.specs.declared.node.Node.{Node}
use Rattle.gp_msg.specs.declared.node.Node.TheVariants.{Proposer, Coordinator, Acceptor, Learner}
use Rattle.gp_msg.specs.declared.event.Event.{Event}
use Rattle.gp_msg.specs.declared.event.Event.TheVariants.{Offer, Begin, Take, Fall}
use Rattle.gp_msg.specs.declared.event.Kept.{Kept}
use Rattle.gp_msg.specs.declared.event.Kept.TheVariants as kept
use Rattle.gp_msg.specs.Messages.{Proposed, Asked, Answered, Sent, Voted, Stamped, Offered, InEpoch, Final, EpochPart, Entry}
use Rattle.gp_proposer.specs.State.{ProposerState}
use Rattle.gp_proposer.specs.Table.{proposer_offer, numbered}
use Rattle.gp_learner.specs.Table.{learner_take}
use Rattle.gp_cstructs.specs.CStructs.{Among}
use Rattle.gp_cstructs.proofs.Lists.{cond_cases, among_append, get_among}
use Rattle.gp_epoch.specs.Cut.{first_checkpoint}
use Rattle.gp_msg.specs.Nodes.{node_of}
use Rattle.gp_coordinator.specs.Epochs as coordinator
use Rattle.gp_coordinator.specs.Epochs.{CoordinatorInEpoch}
use Rattle.gp_acceptor.specs.Epochs as acceptor
use Rattle.gp_acceptor.specs.Epochs.{AcceptorInEpoch}
use Rattle.gp_learner.specs.Epochs as learner
use Rattle.gp_learner.specs.Epochs.{LearnerInEpoch}
use Rattle.gp_run.specs.Messages.{messages}
use Rattle.gp_run.specs.States.{proposer_acts, proposer_at, coordinator_kept, coordinator_acts, coordinator_at, acceptor_kept, acceptor_acts, acceptor_at, learner_acts, learner_at}
use Rattle.gp_run.specs.Legal.{sent_by, Follows, Legal}
use Rattle.gp_run.proofs.Choices.{with_message}
use Rattle.gp_agreement.specs.Epochs.{leads_to}
use Rattle.gp_agreement.proofs.Sending.{IsBallot, Ballots, IsFinal, Finals, acceptor_sends, coordinator_sends, learner_sends, one_sent}

pub same : (n : ℕ) → n ≤ n
same n = omega arith

later : (m n : ℕ) → m ≤ n → m ≤ suc n
later m n h = omega (arith, h)

none : (n : ℕ) → 0 ≤ n
none n = omega arith

-- if no message that was sent leads a node to an epoch above n
module _ (n : ℕ) (ms : List Stamped) (all : (m : Stamped) → Among ms m → leads_to m ≤ n) where
  acceptor_takes : (s : AcceptorInEpoch) (m : Stamped) → s.epoch ≤ n → leads_to m ≤ n → (acceptor.take s m).0.epoch ≤ n
  acceptor_takes s (Offered c) h k = h
  acceptor_takes s (InEpoch e m) h k = cond_cases (λ (u : AcceptorInEpoch × Option Stamped). u.0.epoch ≤ n) (nat_eq e s.epoch) _ _ (λ b. h) (λ b. h)
  acceptor_takes s (Final e l v) h k = cond_cases (λ (u : AcceptorInEpoch). u.epoch ≤ n) (nat_lt e s.epoch) _ _ (λ b. h) (λ b. k)

  acceptor_keeps : (s : AcceptorInEpoch) (what : Option Kept) → s.epoch ≤ n → (acceptor_kept s ms what).epoch ≤ n
  acceptor_keeps s None h = h
  acceptor_keeps s (Some (kept.Begin r)) h = h
  acceptor_keeps s (Some (kept.Take k)) h = with_message (λ (u : EpochPart). u.epoch ≤ n) (acceptor.durable s) (λ m. acceptor.durable (acceptor.take s m).0) (slice_get ms k) h (λ m q. acceptor_takes s m h (all m (get_among ms k m q)))

  acceptor_goes : (a : ℕ) (s : AcceptorInEpoch) (event : Event) → s.epoch ≤ n → (acceptor_acts a s ms event).0.epoch ≤ n
  acceptor_goes a s (Offer p d) h = h
  acceptor_goes a s (Begin c r) h = h
  acceptor_goes a s (Take (Proposer p) k) h = h
  acceptor_goes a s (Take (Coordinator c) k) h = h
  acceptor_goes a s (Take (Acceptor b) k) h = cond_cases (λ (u : AcceptorInEpoch × Option Stamped). u.0.epoch ≤ n) (nat_eq a b) _ _
      (λ e. with_message (λ (u : AcceptorInEpoch × Option Stamped). u.0.epoch ≤ n) (s, None) (acceptor.take s) (slice_get ms k) h (λ m q. acceptor_takes s m h (all m (get_among ms k m q)))) (λ e. h)
  acceptor_goes a s (Take (Learner l) k) h = h
  acceptor_goes a s (Fall (Proposer p) what) h = h
  acceptor_goes a s (Fall (Coordinator c) what) h = h
  acceptor_goes a s (Fall (Acceptor b) what) h = cond_cases (λ (u : AcceptorInEpoch × Option Stamped). u.0.epoch ≤ n) (nat_eq a b) _ _ (λ e. acceptor_keeps s what h) (λ e. h)
  acceptor_goes a s (Fall (Learner l) what) h = h

  coordinator_takes : (s : CoordinatorInEpoch) (m : Stamped) → s.epoch ≤ n → leads_to m ≤ n → (coordinator.take s m).0.epoch ≤ n
  coordinator_takes s (Offered c) h k = cond_cases (λ (u : CoordinatorInEpoch × Option Stamped). u.0.epoch ≤ n) (set.contains s.done c) _ _ (λ b. h) (λ b. h)
  coordinator_takes s (InEpoch e m) h k = cond_cases (λ (u : CoordinatorInEpoch × Option Stamped). u.0.epoch ≤ n) (nat_eq e s.epoch) _ _ (λ b. h) (λ b. h)
  coordinator_takes s (Final e l v) h k = cond_cases (λ (u : CoordinatorInEpoch). u.epoch ≤ n) (nat_lt e s.epoch) _ _ (λ b. h) (λ b. k)

  coordinator_keeps : (s : CoordinatorInEpoch) (what : Option Kept) → s.epoch ≤ n → (coordinator_kept s ms what).epoch ≤ n
  coordinator_keeps s None h = h
  coordinator_keeps s (Some (kept.Begin r)) h = h
  coordinator_keeps s (Some (kept.Take k)) h = with_message (λ (u : EpochPart). u.epoch ≤ n) (coordinator.durable s) (λ m. coordinator.durable (coordinator.take s m).0) (slice_get ms k) h (λ m q. coordinator_takes s m h (all m (get_among ms k m q)))

  coordinator_goes : (c : ℕ) (s : CoordinatorInEpoch) (event : Event) → s.epoch ≤ n → (coordinator_acts c s ms event).0.epoch ≤ n
  coordinator_goes c s (Offer p d) h = h
  coordinator_goes c s (Begin b r) h = cond_cases (λ (u : CoordinatorInEpoch × Option Stamped). u.0.epoch ≤ n) (nat_eq c b) _ _ (λ e. h) (λ e. h)
  coordinator_goes c s (Take (Proposer p) k) h = h
  coordinator_goes c s (Take (Coordinator b) k) h = cond_cases (λ (u : CoordinatorInEpoch × Option Stamped). u.0.epoch ≤ n) (nat_eq c b) _ _
      (λ e. with_message (λ (u : CoordinatorInEpoch × Option Stamped). u.0.epoch ≤ n) (s, None) (coordinator.take s) (slice_get ms k) h (λ m q. coordinator_takes s m h (all m (get_among ms k m q)))) (λ e. h)
  coordinator_goes c s (Take (Acceptor a) k) h = h
  coordinator_goes c s (Take (Learner l) k) h = h
  coordinator_goes c s (Fall (Proposer p) what) h = h
  coordinator_goes c s (Fall (Coordinator b) what) h = cond_cases (λ (u : CoordinatorInEpoch × Option Stamped). u.0.epoch ≤ n) (nat_eq c b) _ _ (λ e. coordinator_keeps s what h) (λ e. h)
  coordinator_goes c s (Fall (Acceptor a) what) h = h
  coordinator_goes c s (Fall (Learner l) what) h = h

-- a learner goes to the next epoch at most
abbrev Near : ℕ → LearnerInEpoch × Option Stamped → Type 0
Near n p = p.0.epoch ≤ suc n

learning_near : (s : LearnerInEpoch) (o : Option Command) → Near s.epoch (learner.learning s o)
learning_near s None = later s.epoch s.epoch (same s.epoch)
learning_near s (Some z) = same (suc s.epoch)

stays_near : (s : LearnerInEpoch) → Near s.epoch (s, None)
stays_near s = later s.epoch s.epoch (same s.epoch)

learner_takes : (s : LearnerInEpoch) (m : Stamped) → Near s.epoch (learner.take s m)
learner_takes s (Offered c) = stays_near s
learner_takes s (InEpoch e (Proposed c)) = stays_near s
learner_takes s (InEpoch e (Asked r)) = stays_near s
learner_takes s (InEpoch e (Answered r a q v)) = stays_near s
learner_takes s (InEpoch e (Sent r c v)) = stays_near s
learner_takes s (InEpoch e (Voted r a v)) = cond_cases (Near s.epoch) (nat_eq e s.epoch && nat_lt a s.state.config.acceptors) _ _
    (λ b. learning_near (learner.with_state s (learner_take s.state (Voted r a v))) (first_checkpoint (learner_take s.state (Voted r a v)).learned)) (λ b. stays_near s)
learner_takes s (Final e l v) = cond_cases (λ (u : LearnerInEpoch). Near s.epoch (u, None)) (nat_eq e s.epoch) _ _ (λ b. same (suc s.epoch)) (λ b. stays_near s)

learner_goes : (l : ℕ) (s : LearnerInEpoch) (ms : List Stamped) (event : Event) → Near s.epoch (learner_acts l s ms event)
learner_goes l s ms (Offer p d) = stays_near s
learner_goes l s ms (Begin c r) = stays_near s
learner_goes l s ms (Take (Proposer p) k) = stays_near s
learner_goes l s ms (Take (Coordinator c) k) = stays_near s
learner_goes l s ms (Take (Acceptor a) k) = stays_near s
learner_goes l s ms (Take (Learner i) k) = cond_cases (Near s.epoch) (nat_eq l i) _ _ (λ e. with_message (Near s.epoch) (s, None) (learner.take s) (slice_get ms k) (stays_near s) (λ m q. learner_takes s m)) (λ e. stays_near s)
learner_goes l s ms (Fall (Proposer p) what) = stays_near s
learner_goes l s ms (Fall (Coordinator c) what) = stays_near s
learner_goes l s ms (Fall (Acceptor a) what) = stays_near s
learner_goes l s ms (Fall (Learner i) what) = cond_cases (Near s.epoch) (nat_eq l i) _ _ (λ e. none (suc s.epoch)) (λ e. stays_near s)

-- ---- all of them

pub record AreCounted (config : Counts) (es : List Entry) : Type 0 where
  pub coordinators : (c : ℕ) → (coordinator_at config c es).epoch ≤ length es
  pub acceptors : (a : ℕ) → (acceptor_at config a es).epoch ≤ length es
  pub learners : (l : ℕ) → (learner_at config l es).epoch ≤ length es
  pub all_messages : (m : Stamped) → Among (messages es) m → leads_to m ≤ length es

ballot_reaches : (n k : ℕ) (m : Stamped) → n ≤ k → IsBallot n m → leads_to m ≤ suc k
ballot_reaches n k (Offered c) le h = elim h [ ]
ballot_reaches n k (InEpoch i (Proposed c)) le h = elim h [ ]
ballot_reaches n k (InEpoch i (Asked r)) le h = omega (arith, le, h)
ballot_reaches n k (InEpoch i (Answered r a q v)) le h = omega (arith, le, h)
ballot_reaches n k (InEpoch i (Sent r c v)) le h = omega (arith, le, h)
ballot_reaches n k (InEpoch i (Voted r a v)) le h = omega (arith, le, h)
ballot_reaches n k (Final i l v) le h = elim h [ ]

final_reaches : (n k : ℕ) (m : Stamped) → n ≤ k → IsFinal n m → leads_to m ≤ suc k
final_reaches n k (Offered c) le h = elim h [ ]
final_reaches n k (InEpoch i m) le h = elim h [ ]
final_reaches n k (Final i l v) le h = omega (arith, le, h)

offered_reaches : (k : ℕ) (c : Command) (m : Stamped) → Some (Offered c) ≡ Some m → leads_to m ≤ k
offered_reaches k c m q = let same_message : Offered c ≡ m = cc in subst (λ (x : Stamped). leads_to x ≤ k) same_message (none k)

nothing_sent : {P : Type 0} (o : Option Stamped) (m : Stamped) → o ≡ None → o ≡ Some m → P
nothing_sent o m p q = absurd (cc)

proposer_reaches : (k p : ℕ) (s : ProposerState) (event : Event) (m : Stamped) → (proposer_acts p s event).1 ≡ Some m → leads_to m ≤ k
proposer_reaches k p s (Offer q d) m = cond_cases (λ (u : ProposerState × Option Stamped). u.1 ≡ Some m → leads_to m ≤ k) (nat_eq p q) ((proposer_offer s d).0, Some (Offered (numbered s d))) (s, None)
    (λ b h. offered_reaches k (numbered s d) m h) (λ b h. nothing_sent None m refl h)
proposer_reaches k p s (Begin c r) m = λ h. nothing_sent None m refl h
proposer_reaches k p s (Take node i) m = λ h. nothing_sent None m refl h
proposer_reaches k p s (Fall node what) m = λ h. nothing_sent None m refl h

module _ (config : Counts) (es : List Entry) (k : AreCounted config es) where
  sent_reaches : (node : Node) (event : Event) (m : Stamped) → sent_by config es node event ≡ Some m → leads_to m ≤ suc (length es)
  sent_reaches (Proposer p) event m q = proposer_reaches (suc (length es)) p (proposer_at p es) event m q
  sent_reaches (Coordinator c) event m q = ballot_reaches (coordinator_at config c es).epoch (length es) m (k.coordinators c)
      (subst (λ (o : Option Stamped). Ballots (coordinator_at config c es).epoch o) q (coordinator_sends c (coordinator_at config c es) (messages es) event))
  sent_reaches (Acceptor a) event m q = ballot_reaches (acceptor_at config a es).epoch (length es) m (k.acceptors a)
      (subst (λ (o : Option Stamped). Ballots (acceptor_at config a es).epoch o) q (acceptor_sends a (acceptor_at config a es) (messages es) event))
  sent_reaches (Learner l) event m q = final_reaches (learner_at config l es).epoch (length es) m (k.learners l)
      (subst (λ (o : Option Stamped). Finals (learner_at config l es).epoch o) q (learner_sends l (learner_at config l es) (messages es) event))

  through : (a b n : ℕ) → a ≤ suc b → b ≤ n → a ≤ suc n
  through a b n p q = omega (arith, p, q)

  more_counted : (x : Entry) → Follows config es x → AreCounted config (x ∷ es)
  more_counted x f = record {
    coordinators = λ c. later _ (length es) (coordinator_goes (length es) (messages es) k.all_messages c (coordinator_at config c es) x.event (k.coordinators c));
    acceptors = λ a. later _ (length es) (acceptor_goes (length es) (messages es) k.all_messages a (acceptor_at config a es) x.event (k.acceptors a));
    learners = λ l. through _ (learner_at config l es).epoch (length es) (learner_goes l (learner_at config l es) (messages es) x.event) (k.learners l);
    all_messages = λ m p. elim (among_append (messages es) x.sent m p) [
      | inl a ↦ later (leads_to m) (length es) (k.all_messages m a)
      | inr b ↦ sent_reaches (node_of x.event) x.event m (one_sent (sent_by config es (node_of x.event) x.event) m (subst (λ (ms : List Stamped). Among ms m) f.own_messages b))
    ];
  }

-- no epoch of a legal run is greater than the number of its entries
pub all_counted : (config : Counts) (es : List Entry) → Legal config es → AreCounted config es
all_counted config [] legal = record { coordinators = λ c. none 0; acceptors = λ a. none 0; learners = λ l. none 0; all_messages = λ m p. elim p [ ] }
all_counted config (x ∷ es) legal = more_counted config es (all_counted config es legal.0) x legal.1

-- no message leads a node to an epoch above the number of entries
pub message_counted : (config : Counts) (es : List Entry) → Legal config es → (k : ℕ) (m : Stamped) → slice_get (messages es) k ≡ Some m → leads_to m ≤ length es
message_counted config es legal k m q = (all_counted config es legal).all_messages m (get_among (messages es) k m q)
