-- Who asks for a round: the coordinator that begins it, and nobody else.
use Rattle.std.proofs.Common.{◌≡◌, ◌⊎◌, inl, inr, ℕ, Bool, true, false, ◌&&◌, cond, List, ◌∷◌, Option, Some, None, refl, subst, ap}
use Rattle.std.specs.Prelude.{not, nat_eq, slice_get, slice_set}
use Rattle.std.specs.FinSet as set
use Rattle.std.proofs.lemmas.Bool.{eq-eqb}
use Rattle.gp_command.specs.declared.command.Command.{Command}
use Rattle.gp_history.specs.History.{History, has, push}
use Rattle.gp_round.specs.declared.round.Round.{Round}
use Rattle.gp_round.specs.Counts.{Counts}
use Rattle.gp_round.specs.Rounds.{earlier, is_multi, is_fast}
use Rattle.gp_msg.specs.declared.node.Node.{Node}
use Rattle.gp_msg.specs.declared.node.Node.TheVariants.{Proposer, Coordinator, Acceptor, Learner}
use Rattle.gp_msg.specs.declared.event.Event.{Event}
use Rattle.gp_msg.specs.declared.event.Event.TheVariants.{Offer, Begin, Take, Fall}
use Rattle.gp_msg.specs.Messages.{Message, Proposed, Asked, Answered, Sent, Voted, Stamped, Offered, InEpoch, Final, maybe_stamped, Entry}
use Rattle.gp_coordinator.specs.State.{CoordinatorState}
use Rattle.gp_coordinator.specs.Table as coordinator
use Rattle.gp_coordinator.specs.Epochs as coordinators
use Rattle.gp_coordinator.specs.Epochs.{CoordinatorInEpoch}
use Rattle.gp_acceptor.specs.State.{AcceptorState}
use Rattle.gp_acceptor.specs.Table as acceptor
use Rattle.gp_acceptor.specs.Epochs as acceptors
use Rattle.gp_acceptor.specs.Epochs.{AcceptorInEpoch}
use Rattle.gp_proposer.specs.State.{ProposerState}
use Rattle.gp_run.specs.Messages.{messages}
use Rattle.gp_msg.specs.Nodes.{node_of}
use Rattle.gp_run.specs.States.{proposer_acts, proposer_at, coordinator_acts, coordinator_at, acceptor_acts, acceptor_at, learner_acts, learner_at}
use Rattle.gp_run.specs.Legal.{sent_by, Follows}
use Rattle.gp_run.proofs.Choices.{chosen, with_message}
use Rattle.gp_cstructs.specs.CStructs.{Among}
use Rattle.gp_cstructs.proofs.Lists.{among_append}
use Rattle.gp_agreement.proofs.Sending.{Finals, learner_sends, one_sent}

-- the message asks for no round
abbrev AsksNothing : Stamped → Type 0
AsksNothing (Offered c) = Unit {0}
AsksNothing (InEpoch e (Proposed c)) = Unit {0}
AsksNothing (InEpoch e (Asked r)) = ⊥
AsksNothing (InEpoch e (Answered r a q v)) = Unit {0}
AsksNothing (InEpoch e (Sent r c v)) = Unit {0}
AsksNothing (InEpoch e (Voted r a v)) = Unit {0}
AsksNothing (Final e l v) = Unit {0}

abbrev SentAsksNothing : Option Stamped → Type 0
SentAsksNothing None = Unit {0}
SentAsksNothing (Some m) = AsksNothing m

abbrev SaysNothing : Option Message → Type 0
SaysNothing None = Unit {0}
SaysNothing (Some (Proposed c)) = Unit {0}
SaysNothing (Some (Asked r)) = ⊥
SaysNothing (Some (Answered r a q v)) = Unit {0}
SaysNothing (Some (Sent r c v)) = Unit {0}
SaysNothing (Some (Voted r a v)) = Unit {0}

stamped_nothing : (e : ℕ) (o : Option Message) → SaysNothing o → SentAsksNothing (maybe_stamped e o)
stamped_nothing e None h = tt
stamped_nothing e (Some (Proposed c)) h = tt
stamped_nothing e (Some (Asked r)) h = h
stamped_nothing e (Some (Answered r a q v)) h = tt
stamped_nothing e (Some (Sent r c v)) h = tt
stamped_nothing e (Some (Voted r a v)) h = tt

-- ---- proposers and coordinators

proposer_asks : (p : ℕ) (s : ProposerState) (event : Event) → SentAsksNothing (proposer_acts p s event).1
proposer_asks p s (Offer q d) = chosen (λ (u : ProposerState × Option Stamped). SentAsksNothing u.1) (nat_eq p q) _ (s, None) tt tt
proposer_asks p s (Begin c r) = tt
proposer_asks p s (Take node k) = tt
proposer_asks p s (Fall node what) = tt

abbrev StepAsks : CoordinatorState × Option Message → Type 0
StepAsks p = SaysNothing p.1

extended_asks : (s : CoordinatorState) (o : Option History) (c : Command) → StepAsks (coordinator.extended s o c)
extended_asks s None c = tt
extended_asks s (Some w) c = chosen StepAsks (not (has w c) && not (is_fast s.round.mode)) (record s { value = Some (push w c) }, Some (Sent s.round s.number (push w c))) (s, None) tt tt

answered_asks : (s : CoordinatorState) → StepAsks (coordinator.answered s)
answered_asks s = chosen StepAsks _ (record s { value = Some (coordinator.chosen s) }, Some (Sent s.round s.number (coordinator.chosen s))) (s, None) tt tt

take_asks : (s : CoordinatorState) (m : Message) → StepAsks (coordinator.coordinator_take s m)
take_asks s (Proposed c) = extended_asks (record s { pending = coordinator.pending_with s.pending c }) s.value c
take_asks s (Asked r) = chosen StepAsks (is_multi r.mode && earlier s.round r) (coordinator.begun s r, None) (s, None) tt tt
take_asks s (Answered r a q v) = chosen StepAsks (coordinator.expects s r a) (coordinator.answered (record s { answers = slice_set s.answers a (Some (record { round = q; vote = v })) })) (s, None)
    (answered_asks (record s { answers = slice_set s.answers a (Some (record { round = q; vote = v })) })) tt
take_asks s (Sent r c v) = tt
take_asks s (Voted r a v) = tt

abbrev EpochStepAsks : CoordinatorInEpoch × Option Stamped → Type 0
EpochStepAsks p = SentAsksNothing p.1

receives_asks : (s : CoordinatorInEpoch) (m : Stamped) → EpochStepAsks (coordinators.take s m)
receives_asks s (Offered c) = chosen EpochStepAsks (set.contains s.done c) (s, None) (coordinators.stepped s (coordinator.coordinator_take s.state (Proposed c))) tt
    (stamped_nothing s.epoch (coordinator.coordinator_take s.state (Proposed c)).1 (take_asks s.state (Proposed c)))
receives_asks s (InEpoch e m) = chosen EpochStepAsks (nat_eq e s.epoch) (coordinators.stepped s (coordinator.coordinator_take s.state m)) (s, None)
    (stamped_nothing s.epoch (coordinator.coordinator_take s.state m).1 (take_asks s.state m)) tt
receives_asks s (Final e l v) = tt

-- nothing is asked for, unless the event begins a round
abbrev AsksUnlessBegun : Event → Option Stamped → Type 0
AsksUnlessBegun (Offer p d) o = SentAsksNothing o
AsksUnlessBegun (Begin c r) o = Unit {0}
AsksUnlessBegun (Take node k) o = SentAsksNothing o
AsksUnlessBegun (Fall node what) o = SentAsksNothing o

coordinator_asks : (c : ℕ) (s : CoordinatorInEpoch) (ms : List Stamped) (event : Event) → AsksUnlessBegun event (coordinator_acts c s ms event).1
coordinator_asks c s ms (Offer p d) = tt
coordinator_asks c s ms (Begin b r) = tt
coordinator_asks c s ms (Take (Proposer p) k) = tt
coordinator_asks c s ms (Take (Coordinator b) k) =
    chosen EpochStepAsks (nat_eq c b) _ (s, None) (with_message EpochStepAsks (s, None) (coordinators.take s) (slice_get ms k) tt (λ m e. receives_asks s m)) tt
coordinator_asks c s ms (Take (Acceptor a) k) = tt
coordinator_asks c s ms (Take (Learner l) k) = tt
coordinator_asks c s ms (Fall (Proposer p) what) = tt
coordinator_asks c s ms (Fall (Coordinator b) what) = chosen EpochStepAsks (nat_eq c b) _ (s, None) tt tt
coordinator_asks c s ms (Fall (Acceptor a) what) = tt
coordinator_asks c s ms (Fall (Learner l) what) = tt

-- ---- acceptors and learners

abbrev VoteAsks : AcceptorState × Option Message → Type 0
VoteAsks p = SaysNothing p.1

told_asks : (n : ℕ) (q r : Round) (v : History) (o : Option History) → SaysNothing (acceptor.told_vote n q r v o)
told_asks n q r v None = tt
told_asks n q r v (Some w) = chosen SaysNothing _ (Some (Voted r n w)) None tt tt

vote_asks : (s : AcceptorState) (m : Message) → VoteAsks (acceptor.acceptor_take s m)
vote_asks s (Proposed c) = chosen VoteAsks _ (record s { vote = push s.vote c }, Some (Voted s.round s.number (push s.vote c))) (s, None) tt tt
vote_asks s (Asked r) = chosen VoteAsks (earlier s.round r) _ (s, None) tt tt
vote_asks s (Answered r a q v) = tt
vote_asks s (Sent r c v) = chosen VoteAsks _ (acceptor.counted (acceptor.holding (acceptor.raised s r) c v)) (s, None)
    (let t : AcceptorState = acceptor.holding (acceptor.raised s r) c v in told_asks t.number t.voted t.round t.vote (acceptor.next_vote_of t)) tt
vote_asks s (Voted r a v) = tt

abbrev AcceptorAsks : AcceptorInEpoch × Option Stamped → Type 0
AcceptorAsks p = SentAsksNothing p.1

acceptor_receives : (s : AcceptorInEpoch) (m : Stamped) → AcceptorAsks (acceptors.take s m)
acceptor_receives s (Offered c) = stamped_nothing s.epoch (acceptor.acceptor_take s.state (Proposed c)).1 (vote_asks s.state (Proposed c))
acceptor_receives s (InEpoch e m) = chosen AcceptorAsks (nat_eq e s.epoch) (acceptors.stepped s (acceptor.acceptor_take s.state m)) (s, None)
    (stamped_nothing s.epoch (acceptor.acceptor_take s.state m).1 (vote_asks s.state m)) tt
acceptor_receives s (Final e l v) = tt

acceptor_asks : (a : ℕ) (s : AcceptorInEpoch) (ms : List Stamped) (event : Event) → AcceptorAsks (acceptor_acts a s ms event)
acceptor_asks a s ms (Offer p d) = tt
acceptor_asks a s ms (Begin c r) = tt
acceptor_asks a s ms (Take (Proposer p) k) = tt
acceptor_asks a s ms (Take (Coordinator c) k) = tt
acceptor_asks a s ms (Take (Acceptor b) k) = chosen AcceptorAsks (nat_eq a b) _ (s, None) (with_message AcceptorAsks (s, None) (acceptors.take s) (slice_get ms k) tt (λ m e. acceptor_receives s m)) tt
acceptor_asks a s ms (Take (Learner l) k) = tt
acceptor_asks a s ms (Fall (Proposer p) what) = tt
acceptor_asks a s ms (Fall (Coordinator c) what) = tt
acceptor_asks a s ms (Fall (Acceptor b) what) = chosen AcceptorAsks (nat_eq a b) _ (s, None) tt tt
acceptor_asks a s ms (Fall (Learner l) what) = tt

final_asks : (e : ℕ) (o : Option Stamped) → Finals e o → SentAsksNothing o
final_asks e None h = tt
final_asks e (Some (Offered c)) h = absurd h
final_asks e (Some (InEpoch i m)) h = absurd h
final_asks e (Some (Final i l v)) h = tt

-- ---- all nodes

nothing_unless : (event : Event) (o : Option Stamped) → SentAsksNothing o → AsksUnlessBegun event o
nothing_unless (Offer p d) o h = h
nothing_unless (Begin c r) o h = tt
nothing_unless (Take node k) o h = h
nothing_unless (Fall node what) o h = h

node_asks : (config : Counts) (es : List Entry) (node : Node) (event : Event) → AsksUnlessBegun event (sent_by config es node event)
node_asks config es (Proposer p) event = nothing_unless event (proposer_acts p (proposer_at p es) event).1 (proposer_asks p (proposer_at p es) event)
node_asks config es (Coordinator c) event = coordinator_asks c (coordinator_at config c es) (messages es) event
node_asks config es (Acceptor a) event = nothing_unless event (acceptor_acts a (acceptor_at config a es) (messages es) event).1 (acceptor_asks a (acceptor_at config a es) (messages es) event)
node_asks config es (Learner l) event =
    nothing_unless event (learner_acts l (learner_at config l es) (messages es) event).1
    (final_asks (learner_at config l es).epoch (learner_acts l (learner_at config l es) (messages es) event).1 (learner_sends l (learner_at config l es) (messages es) event))

-- the event begins round r at a coordinator that is in epoch n
pub record BeginsIn (config : Counts) (es : List Entry) (event : Event) (n : ℕ) (r : Round) : Type 0 where
  pub c : ℕ
  pub event_is : event ≡ Begin c r
  pub epoch_is : (coordinator_at config c es).epoch ≡ n

begin_asks : (config : Counts) (es : List Entry) (c : ℕ) (q : Round) (n : ℕ) (r : Round) → (coordinator_acts c (coordinator_at config c es) (messages es) (Begin c q)).1 ≡ Some (InEpoch n (Asked r)) → (q ≡ r) × ((coordinator_at config c es).epoch ≡ n)
begin_asks config es c q n r o = by_number (nat_eq c c) (eq-eqb c c refl) o
  where
    s : CoordinatorInEpoch
    s = coordinator_at config c es

    by_test : (x : Bool) → maybe_stamped s.epoch (cond {A = CoordinatorState × Option Message} x (coordinator.begun s.state q, Some (Asked q)) (s.state, None)).1 ≡ Some (InEpoch n (Asked r)) → (q ≡ r) × (s.epoch ≡ n)
    by_test true e = (cc, cc)
    by_test false e = absurd (cc)

    by_number : (x : Bool) → x ≡ true → (cond {A = CoordinatorInEpoch × Option Stamped} x (coordinators.begin s q) (s, None)).1 ≡ Some (InEpoch n (Asked r)) → (q ≡ r) × (s.epoch ≡ n)
    by_number true t e = by_test (earlier s.state.round q) e
    by_number false t e = absurd (cc)

asked_by : (config : Counts) (es : List Entry) (event : Event) (n : ℕ) (r : Round) → AsksUnlessBegun event (sent_by config es (node_of event) event) → sent_by config es (node_of event) event ≡ Some (InEpoch n (Asked r)) → BeginsIn config es event n r
asked_by config es (Offer p d) n r h o = absurd (subst SentAsksNothing o h)
asked_by config es (Begin c q) n r h o = let k = begin_asks config es c q n r o in record { c = c; event_is = ap (λ x. Begin c x) k.0; epoch_is = k.1 }
asked_by config es (Take node k) n r h o = absurd (subst SentAsksNothing o h)
asked_by config es (Fall node what) n r h o = absurd (subst SentAsksNothing o h)

-- **a round that is asked for was asked for before, or is begun now**
pub asked_or_begun : (config : Counts) (es : List Entry) (e : Entry) (n : ℕ) (r : Round) → Follows config es e → Among (messages (e ∷ es)) (InEpoch n (Asked r))
    → Among (messages es) (InEpoch n (Asked r)) ⊎ BeginsIn config es e.event n r
asked_or_begun config es e n r follows m = elim (among_append (messages es) e.sent (InEpoch n (Asked r)) m) [
  | inl before ↦ inl before
  | inr now ↦
      let o = one_sent (sent_by config es (node_of e.event) e.event) (InEpoch n (Asked r)) (subst (λ (ms : List Stamped). Among ms (InEpoch n (Asked r))) follows.own_messages now) in
      inr (asked_by config es e.event n r (node_asks config es (node_of e.event) e.event) o)
]
