-- The rounds of a message are those of the durable part of its sender.
use Rattle.std.proofs.Common.{◌≡◌, ℕ, Bool, true, false, cond, not, ◌&&◌, max, List, refl, ap, arith, Option, Some, None}
use Rattle.std.specs.Prelude.{nat_eq, nat_lt, slice_get, slice_set}
use Rattle.std.specs.FinSet as set
use Rattle.gp_history.specs.History.{History, has, push}
use Rattle.gp_round.specs.declared.round.Round.{Round}
use Rattle.gp_round.specs.Rounds.{earlier, same_round, is_fast, is_multi}
use Rattle.gp_msg.specs.declared.node.Node.{Node}
use Rattle.gp_msg.specs.declared.node.Node.TheVariants as node
use Rattle.gp_msg.specs.declared.event.Event.{Event}
use Rattle.gp_msg.specs.declared.event.Event.TheVariants.{Offer, Begin, Take, Fall}
use Rattle.gp_msg.specs.Messages.{Message, Proposed, Asked, Answered, Sent, Voted, Stamped, Offered, InEpoch, Final, maybe_stamped}
use Rattle.gp_acceptor.specs.State.{AcceptorState}
use Rattle.gp_acceptor.specs.Table.{acceptor_take, counted, next_vote_of, with_vote, told_vote, holding, raised}
use Rattle.gp_acceptor.specs.Epochs as acceptor
use Rattle.gp_acceptor.specs.Epochs.{AcceptorInEpoch}
use Rattle.gp_coordinator.specs.State.{CoordinatorState}
use Rattle.gp_coordinator.specs.Table.{coordinator_begin, coordinator_take, answered, extended, is_enough}
use Rattle.gp_coordinator.specs.Table as leader_table
use Rattle.gp_coordinator.specs.Replies.{reply_at}
use Rattle.gp_coordinator.specs.Epochs as coordinator
use Rattle.gp_coordinator.specs.Epochs.{CoordinatorInEpoch}
use Rattle.gp_run.specs.TopCount.{rounds_of, message_rounds, greatest_count}
use Rattle.gp_run.proofs.Choices.{chosen, with_message}
use Rattle.gp_run.specs.States.{proposer_acts, coordinator_acts, acceptor_acts, learner_acts}
use Rattle.gp_proposer.specs.State.{ProposerState}
use Rattle.gp_command.specs.declared.command.Command.{Command}
use Rattle.gp_learner.specs.Table as learner_table
use Rattle.gp_learner.specs.Epochs as learner
use Rattle.gp_learner.specs.Epochs.{LearnerInEpoch}
use Rattle.gp_cell.specs.declared.roles.Core.{Core}
use Rattle.gp_cell.specs.declared.roles.Core.TheVariants.{Proposer, Coordinator, Acceptor, Learner}
use Rattle.gp_cell.specs.Cores.{acts, part_in}
use Rattle.gp_cell.specs.Plans.{HasRole}
use Rattle.gp_round.proofs.Counting.{left_true}
use Rattle.gp_round.proofs.Orders.{same_round_is}
use Rattle.gp_stage.specs.Tops.{top_in}

-- the message, if there is one, has rounds up to this count and one of it
abbrev pub Tops : Option Stamped → ℕ → Type 0
Tops None top = Unit {0}
Tops (Some m) top = greatest_count (rounds_of m) ≡ top

abbrev TopsOf : Option Message → ℕ → Type 0
TopsOf None top = Unit {0}
TopsOf (Some m) top = greatest_count (message_rounds m) ≡ top

stamped_tops : (e : ℕ) (o : Option Message) (top : ℕ) → TopsOf o top → Tops (maybe_stamped e o) top
stamped_tops e None top h = tt
stamped_tops e (Some (Proposed c)) top h = h
stamped_tops e (Some (Asked r)) top h = h
stamped_tops e (Some (Answered r a q v)) top h = h
stamped_tops e (Some (Sent r c v)) top h = h
stamped_tops e (Some (Voted r a v)) top h = h

-- ---- acceptors

abbrev VoterTops : AcceptorState × Option Message → Type 0
VoterTops p = TopsOf p.1 (max p.0.round.count p.0.voted.count)

told_tops : (s : AcceptorState) (o : Option History) → TopsOf (told_vote s.number s.voted s.round s.vote o) (max (with_vote s o).round.count (with_vote s o).voted.count)
told_tops s None = tt
told_tops s (Some v) = chosen (λ o. TopsOf o (max s.round.count s.round.count)) _ (Some (Voted s.round s.number v)) None (omega arith) tt

proposed_tops : (s : AcceptorState) (b : Bool) (v : History) → (b ≡ true → s.voted ≡ s.round) → VoterTops (cond {A = AcceptorState × Option Message} b (record s { vote = v }, Some (Voted s.round s.number v)) (s, None))
proposed_tops s true v h = let e = ap (λ (r : Round). r.count) (h refl) in omega arith
proposed_tops s false v h = tt

voter_tops : (s : AcceptorState) (m : Message) → VoterTops (acceptor_take s m)
voter_tops s (Proposed c) = proposed_tops s (same_round s.voted s.round && is_fast s.round.mode && not (has s.vote c)) (push s.vote c)
    (λ h. same_round_is s.voted s.round (left_true (same_round s.voted s.round) (is_fast s.round.mode) (left_true (same_round s.voted s.round && is_fast s.round.mode) (not (has s.vote c)) h)))
voter_tops s (Asked r) = chosen VoterTops (earlier s.round r) _ (s, None) (omega arith) tt
voter_tops s (Answered r a q v) = tt
voter_tops s (Sent r c v) = chosen VoterTops (not (earlier r s.round) && nat_lt c s.config.coordinators) (counted (holding (raised s r) c v)) (s, None)
    (told_tops (holding (raised s r) c v) (next_vote_of (holding (raised s r) c v))) tt
voter_tops s (Voted r a v) = tt

abbrev AcceptorTops : AcceptorInEpoch × Option Stamped → Type 0
AcceptorTops p = Tops p.1 (max p.0.state.round.count p.0.state.voted.count)

voter_stepped : (s : AcceptorInEpoch) (step : AcceptorState × Option Message) → VoterTops step → AcceptorTops (acceptor.stepped s step)
voter_stepped s step h = stamped_tops s.epoch step.1 (max step.0.round.count step.0.voted.count) h

acceptor_tops : (s : AcceptorInEpoch) (m : Stamped) → AcceptorTops (acceptor.take s m)
acceptor_tops s (Offered c) = voter_stepped s (acceptor_take s.state (Proposed c)) (voter_tops s.state (Proposed c))
acceptor_tops s (InEpoch e m) = chosen AcceptorTops (nat_eq e s.epoch) (acceptor.stepped s (acceptor_take s.state m)) (s, None) (voter_stepped s (acceptor_take s.state m) (voter_tops s.state m)) tt
acceptor_tops s (Final e l v) = tt

acceptor_acts_tops : (a : ℕ) (s : AcceptorInEpoch) (ms : List Stamped) (event : Event) → AcceptorTops (acceptor_acts a s ms event)
acceptor_acts_tops a s ms (Offer p d) = tt
acceptor_acts_tops a s ms (Begin c r) = tt
acceptor_acts_tops a s ms (Take (node.Proposer p) k) = tt
acceptor_acts_tops a s ms (Take (node.Coordinator c) k) = tt
acceptor_acts_tops a s ms (Take (node.Acceptor b) k) = chosen AcceptorTops (nat_eq a b) _ (s, None) (with_message AcceptorTops (s, None) (acceptor.take s) (slice_get ms k) tt (λ m e. acceptor_tops s m)) tt
acceptor_acts_tops a s ms (Take (node.Learner l) k) = tt
acceptor_acts_tops a s ms (Fall (node.Proposer p) what) = tt
acceptor_acts_tops a s ms (Fall (node.Coordinator c) what) = tt
acceptor_acts_tops a s ms (Fall (node.Acceptor b) what) = chosen AcceptorTops (nat_eq a b) _ (s, None) tt tt
acceptor_acts_tops a s ms (Fall (node.Learner l) what) = tt

-- ---- coordinators

abbrev LeaderTops : CoordinatorState × Option Message → Type 0
LeaderTops p = TopsOf p.1 p.0.round.count

extended_tops : (s : CoordinatorState) (o : Option History) (c : Command) → LeaderTops (extended s o c)
extended_tops s None c = tt
extended_tops s (Some w) c = chosen LeaderTops _ (record s { value = Some (push w c) }, Some (Sent s.round s.number (push w c))) (s, None) (omega arith) tt

answered_tops : (s : CoordinatorState) → LeaderTops (answered s)
answered_tops s = chosen LeaderTops (is_enough s.config.acceptors (reply_at s.answers)) (record s { value = Some (leader_table.chosen s) }, Some (Sent s.round s.number (leader_table.chosen s))) (s, None) (omega arith) tt

leader_tops : (s : CoordinatorState) (m : Message) → LeaderTops (coordinator_take s m)
leader_tops s (Proposed c) = extended_tops (record s { pending = leader_table.pending_with s.pending c }) s.value c
leader_tops s (Asked r) = chosen LeaderTops (is_multi r.mode && earlier s.round r) (leader_table.begun s r, None) (s, None) tt tt
leader_tops s (Answered r a q v) = chosen LeaderTops (leader_table.expects s r a) (answered (record s { answers = slice_set s.answers a (Some (record { round = q; vote = v })) })) (s, None)
    (answered_tops (record s { answers = slice_set s.answers a (Some (record { round = q; vote = v })) })) tt
leader_tops s (Sent r c v) = tt
leader_tops s (Voted r a v) = tt

begin_tops : (s : CoordinatorState) (r : Round) → LeaderTops (coordinator_begin s r)
begin_tops s r = chosen LeaderTops (earlier s.round r) _ (s, None) (omega arith) tt

abbrev CoordinatorTops : CoordinatorInEpoch × Option Stamped → Type 0
CoordinatorTops p = Tops p.1 p.0.state.round.count

leader_stepped : (s : CoordinatorInEpoch) (step : CoordinatorState × Option Message) → LeaderTops step → CoordinatorTops (coordinator.stepped s step)
leader_stepped s step h = stamped_tops s.epoch step.1 step.0.round.count h

coordinator_tops : (s : CoordinatorInEpoch) (m : Stamped) → CoordinatorTops (coordinator.take s m)
coordinator_tops s (Offered c) = chosen CoordinatorTops (set.contains s.done c) (s, None) (coordinator.stepped s (coordinator_take s.state (Proposed c))) tt (leader_stepped s (coordinator_take s.state (Proposed c)) (leader_tops s.state (Proposed c)))
coordinator_tops s (InEpoch e m) = chosen CoordinatorTops (nat_eq e s.epoch) (coordinator.stepped s (coordinator_take s.state m)) (s, None) (leader_stepped s (coordinator_take s.state m) (leader_tops s.state m)) tt
coordinator_tops s (Final e l v) = tt

coordinator_acts_tops : (c : ℕ) (s : CoordinatorInEpoch) (ms : List Stamped) (event : Event) → CoordinatorTops (coordinator_acts c s ms event)
coordinator_acts_tops c s ms (Offer p d) = tt
coordinator_acts_tops c s ms (Begin b r) = chosen CoordinatorTops (nat_eq c b) (coordinator.begin s r) (s, None) (leader_stepped s (coordinator_begin s.state r) (begin_tops s.state r)) tt
coordinator_acts_tops c s ms (Take (node.Proposer p) k) = tt
coordinator_acts_tops c s ms (Take (node.Coordinator b) k) = chosen CoordinatorTops (nat_eq c b) _ (s, None) (with_message CoordinatorTops (s, None) (coordinator.take s) (slice_get ms k) tt (λ m e. coordinator_tops s m)) tt
coordinator_acts_tops c s ms (Take (node.Acceptor a) k) = tt
coordinator_acts_tops c s ms (Take (node.Learner l) k) = tt
coordinator_acts_tops c s ms (Fall (node.Proposer p) what) = tt
coordinator_acts_tops c s ms (Fall (node.Coordinator b) what) = chosen CoordinatorTops (nat_eq c b) _ (s, None) tt tt
coordinator_acts_tops c s ms (Fall (node.Acceptor a) what) = tt
coordinator_acts_tops c s ms (Fall (node.Learner l) what) = tt

-- ---- learners and proposers

abbrev LearnerTops : LearnerInEpoch × Option Stamped → Type 0
LearnerTops p = Tops p.1 0

learning_tops : (s : LearnerInEpoch) (o : Option Command) → LearnerTops (learner.learning s o)
learning_tops s None = tt
learning_tops s (Some z) = refl

learner_tops : (s : LearnerInEpoch) (m : Stamped) → LearnerTops (learner.take s m)
learner_tops s (Offered c) = tt
learner_tops s (InEpoch e (Proposed c)) = tt
learner_tops s (InEpoch e (Asked r)) = tt
learner_tops s (InEpoch e (Answered r a q v)) = tt
learner_tops s (InEpoch e (Sent r c v)) = tt
learner_tops s (InEpoch e (Voted r a v)) = chosen LearnerTops (nat_eq e s.epoch && nat_lt a s.state.config.acceptors) (learner.hearing s (learner_table.learner_take s.state (Voted r a v))) (s, None) (learning_tops _ _) tt
learner_tops s (Final e l v) = tt

learner_acts_tops : (l : ℕ) (s : LearnerInEpoch) (ms : List Stamped) (event : Event) → LearnerTops (learner_acts l s ms event)
learner_acts_tops l s ms (Offer p d) = tt
learner_acts_tops l s ms (Begin c r) = tt
learner_acts_tops l s ms (Take (node.Proposer p) k) = tt
learner_acts_tops l s ms (Take (node.Coordinator c) k) = tt
learner_acts_tops l s ms (Take (node.Acceptor a) k) = tt
learner_acts_tops l s ms (Take (node.Learner i) k) = chosen LearnerTops (nat_eq l i) _ (s, None) (with_message LearnerTops (s, None) (learner.take s) (slice_get ms k) tt (λ m e. learner_tops s m)) tt
learner_acts_tops l s ms (Fall (node.Proposer p) what) = tt
learner_acts_tops l s ms (Fall (node.Coordinator c) what) = tt
learner_acts_tops l s ms (Fall (node.Acceptor a) what) = tt
learner_acts_tops l s ms (Fall (node.Learner i) what) = chosen LearnerTops (nat_eq l i) _ (s, None) tt tt

proposer_acts_tops : (p : ℕ) (s : ProposerState) (event : Event) → Tops (proposer_acts p s event).1 0
proposer_acts_tops p s (Offer q d) = chosen (λ (x : ProposerState × Option Stamped). Tops x.1 0) (nat_eq p q) _ (s, None) refl tt
proposer_acts_tops p s (Begin c r) = tt
proposer_acts_tops p s (Take n k) = tt
proposer_acts_tops p s (Fall n what) = tt

-- what a node sends at an event has the greatest count of its durable part then
pub acts_tops : (n : Node) (core : Core) (ms : List Stamped) (event : Event) → HasRole n core → Tops (acts n core ms event).1 (top_in (part_in (acts n core ms event).0))
acts_tops (node.Proposer p) (Proposer s) ms event h = proposer_acts_tops p s event
acts_tops (node.Proposer p) (Coordinator s) ms event h = absurd h
acts_tops (node.Proposer p) (Acceptor s) ms event h = absurd h
acts_tops (node.Proposer p) (Learner s) ms event h = absurd h
acts_tops (node.Coordinator c) (Proposer s) ms event h = absurd h
acts_tops (node.Coordinator c) (Coordinator s) ms event h = coordinator_acts_tops c s ms event
acts_tops (node.Coordinator c) (Acceptor s) ms event h = absurd h
acts_tops (node.Coordinator c) (Learner s) ms event h = absurd h
acts_tops (node.Acceptor a) (Proposer s) ms event h = absurd h
acts_tops (node.Acceptor a) (Coordinator s) ms event h = absurd h
acts_tops (node.Acceptor a) (Acceptor s) ms event h = acceptor_acts_tops a s ms event
acts_tops (node.Acceptor a) (Learner s) ms event h = absurd h
acts_tops (node.Learner l) (Proposer s) ms event h = absurd h
acts_tops (node.Learner l) (Coordinator s) ms event h = absurd h
acts_tops (node.Learner l) (Acceptor s) ms event h = absurd h
acts_tops (node.Learner l) (Learner s) ms event h = learner_acts_tops l s ms event
