-- The state of each node after a run, by its own events.
use Rattle.std.specs.Prelude.{ℕ, cond, nat_eq, List, [], ◌∷◌, slice_get, Option, Some, None}
use Rattle.gp_round.specs.Counts.{Counts}
use Rattle.gp_msg.specs.declared.node.Node.TheVariants.{Proposer, Coordinator, Acceptor, Learner}
use Rattle.gp_msg.specs.declared.event.Event.{Event}
use Rattle.gp_msg.specs.declared.event.Event.TheVariants.{Offer, Begin, Take, Fall}
use Rattle.gp_msg.specs.declared.event.Kept.{Kept}
use Rattle.gp_msg.specs.declared.event.Kept.TheVariants as kept
use Rattle.gp_proposer.specs.State.{ProposerState}
use Rattle.gp_proposer.specs.Table as proposer
use Rattle.gp_msg.specs.Messages.{Stamped, maybe_stamped, EpochPart, Entry}
use Rattle.gp_coordinator.specs.Epochs as coordinator
use Rattle.gp_coordinator.specs.Epochs.{CoordinatorInEpoch}
use Rattle.gp_acceptor.specs.Epochs as acceptor
use Rattle.gp_acceptor.specs.Epochs.{AcceptorInEpoch}
use Rattle.gp_learner.specs.Epochs as learner
use Rattle.gp_learner.specs.Epochs.{LearnerInEpoch}
use Rattle.gp_run.specs.Messages.{messages, on_message}

-- the message that a crash keeps as taken, among these, which were sent
abbrev pub message_kept : List Stamped → Option Kept → Option Stamped
message_kept ms None = None
message_kept ms (Some (kept.Begin r)) = None
message_kept ms (Some (kept.Take k)) = slice_get ms k

-- ---- proposers, which have no epoch

-- what proposer p does in this state at an event: its next state, and the message that it sends
abbrev pub proposer_acts : ℕ → ProposerState → Event → ProposerState × Option Stamped
proposer_acts p s (Offer q d) = cond (nat_eq p q) ((proposer.proposer_offer s d).0, maybe_stamped 0 (proposer.proposer_offer s d).1) (s, None)
proposer_acts p s (Begin c r) = (s, None)
proposer_acts p s (Take node k) = (s, None)
proposer_acts p s (Fall node what) = (s, None)

-- the state of proposer p after these entries
abbrev pub proposer_at : ℕ → List Entry → ProposerState
proposer_at p [] = proposer.opening p
proposer_at p (e ∷ es) = (proposer_acts p (proposer_at p es) e.event).0

-- ---- coordinators

-- the durable part after a crash that keeps this step, whose message is m: the part before the crash, or the part after that step
abbrev pub coordinator_after_crash : CoordinatorInEpoch → Option Kept → Option Stamped → EpochPart
coordinator_after_crash s None m = coordinator.durable s
coordinator_after_crash s (Some (kept.Begin r)) m = coordinator.durable (coordinator.begin s r).0
coordinator_after_crash s (Some (kept.Take k)) m = on_message (coordinator.durable s) (λ x. coordinator.durable (coordinator.take s x).0) m

-- the same, after these messages were sent
abbrev pub coordinator_kept : CoordinatorInEpoch → List Stamped → Option Kept → EpochPart
coordinator_kept s ms what = coordinator_after_crash s what (message_kept ms what)

-- what coordinator c does in this state at an event, after these messages were sent: its next state, and the message that it sends
abbrev pub coordinator_acts : ℕ → CoordinatorInEpoch → List Stamped → Event → CoordinatorInEpoch × Option Stamped
coordinator_acts c s ms (Offer p d) = (s, None)
coordinator_acts c s ms (Begin b r) = cond (nat_eq c b) (coordinator.begin s r) (s, None)
coordinator_acts c s ms (Take (Proposer p) k) = (s, None)
coordinator_acts c s ms (Take (Coordinator b) k) = cond (nat_eq c b) (on_message (s, None) (coordinator.take s) (slice_get ms k)) (s, None)
coordinator_acts c s ms (Take (Acceptor a) k) = (s, None)
coordinator_acts c s ms (Take (Learner l) k) = (s, None)
coordinator_acts c s ms (Fall (Proposer p) what) = (s, None)
coordinator_acts c s ms (Fall (Coordinator b) what) = cond (nat_eq c b) (coordinator.fall s (coordinator_kept s ms what), None) (s, None)
coordinator_acts c s ms (Fall (Acceptor a) what) = (s, None)
coordinator_acts c s ms (Fall (Learner l) what) = (s, None)

-- the state of coordinator c after these entries
abbrev pub coordinator_at : Counts → ℕ → List Entry → CoordinatorInEpoch
coordinator_at config c [] = coordinator.opening config c
coordinator_at config c (e ∷ es) = (coordinator_acts c (coordinator_at config c es) (messages es) e.event).0

-- ---- acceptors

-- the durable part after a crash that keeps this step, whose message is m: the part before the crash, or the part after that step
abbrev pub acceptor_after_crash : AcceptorInEpoch → Option Kept → Option Stamped → EpochPart
acceptor_after_crash s None m = acceptor.durable s
acceptor_after_crash s (Some (kept.Begin r)) m = acceptor.durable s
acceptor_after_crash s (Some (kept.Take k)) m = on_message (acceptor.durable s) (λ x. acceptor.durable (acceptor.take s x).0) m

-- the same, after these messages were sent
abbrev pub acceptor_kept : AcceptorInEpoch → List Stamped → Option Kept → EpochPart
acceptor_kept s ms what = acceptor_after_crash s what (message_kept ms what)

-- what acceptor a does in this state at an event, after these messages were sent: its next state, and the message that it sends
abbrev pub acceptor_acts : ℕ → AcceptorInEpoch → List Stamped → Event → AcceptorInEpoch × Option Stamped
acceptor_acts a s ms (Offer p d) = (s, None)
acceptor_acts a s ms (Begin c r) = (s, None)
acceptor_acts a s ms (Take (Proposer p) k) = (s, None)
acceptor_acts a s ms (Take (Coordinator c) k) = (s, None)
acceptor_acts a s ms (Take (Acceptor b) k) = cond (nat_eq a b) (on_message (s, None) (acceptor.take s) (slice_get ms k)) (s, None)
acceptor_acts a s ms (Take (Learner l) k) = (s, None)
acceptor_acts a s ms (Fall (Proposer p) what) = (s, None)
acceptor_acts a s ms (Fall (Coordinator c) what) = (s, None)
acceptor_acts a s ms (Fall (Acceptor b) what) = cond (nat_eq a b) (acceptor.fall s (acceptor_kept s ms what), None) (s, None)
acceptor_acts a s ms (Fall (Learner l) what) = (s, None)

-- the state of acceptor a after these entries
abbrev pub acceptor_at : Counts → ℕ → List Entry → AcceptorInEpoch
acceptor_at config a [] = acceptor.opening config a
acceptor_at config a (e ∷ es) = (acceptor_acts a (acceptor_at config a es) (messages es) e.event).0

-- ---- learners

-- what learner l does in this state at an event, after these messages were sent: its next state, and the message that it sends
abbrev pub learner_acts : ℕ → LearnerInEpoch → List Stamped → Event → LearnerInEpoch × Option Stamped
learner_acts l s ms (Offer p d) = (s, None)
learner_acts l s ms (Begin c r) = (s, None)
learner_acts l s ms (Take (Proposer p) k) = (s, None)
learner_acts l s ms (Take (Coordinator c) k) = (s, None)
learner_acts l s ms (Take (Acceptor a) k) = (s, None)
learner_acts l s ms (Take (Learner i) k) = cond (nat_eq l i) (on_message (s, None) (learner.take s) (slice_get ms k)) (s, None)
learner_acts l s ms (Fall (Proposer p) what) = (s, None)
learner_acts l s ms (Fall (Coordinator c) what) = (s, None)
learner_acts l s ms (Fall (Acceptor a) what) = (s, None)
learner_acts l s ms (Fall (Learner i) what) = cond (nat_eq l i) (learner.fall s, None) (s, None)

-- the state of learner l after these entries
abbrev pub learner_at : Counts → ℕ → List Entry → LearnerInEpoch
learner_at config l [] = learner.opening config l
learner_at config l (e ∷ es) = (learner_acts l (learner_at config l es) (messages es) e.event).0
