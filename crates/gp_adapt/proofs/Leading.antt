-- Who sends values in a round that is not multi: its lead alone.
use Rattle.std.proofs.Common.{◌≡◌, ◌⊎◌, inl, inr, ℕ, suc, true, ◌&&◌, List, [], ◌∷◌, Option, Some, None, refl, sym, subst, ap}
use Rattle.std.specs.Prelude.{not, nat_eq, nat_lt, slice_get, slice_set}
use Rattle.std.specs.FinSet as set
use Rattle.std.proofs.lemmas.Bool.{eqb-true}
use Rattle.gp_command.specs.declared.command.Command.{Command}
use Rattle.gp_history.specs.History.{History, has, push}
use Rattle.gp_round.specs.declared.round.Mode.{Mode}
use Rattle.gp_round.specs.declared.round.Mode.TheVariants.{Single, Multi, Fast}
use Rattle.gp_round.specs.declared.round.Round.{Round}
use Rattle.gp_round.specs.Counts.{Counts}
use Rattle.gp_round.specs.Configs.{is_owner, lead_of}
use Rattle.gp_round.specs.Rounds.{earlier, round_zero, is_multi, is_fast}
use Rattle.gp_round.proofs.Owners.{owned}
use Rattle.gp_msg.specs.declared.node.Node.{Node}
use Rattle.gp_msg.specs.declared.node.Node.TheVariants.{Proposer, Coordinator, Acceptor, Learner}
use Rattle.gp_msg.specs.declared.event.Event.{Event}
use Rattle.gp_msg.specs.declared.event.Event.TheVariants.{Offer, Begin, Take, Fall}
use Rattle.gp_msg.specs.declared.event.Kept.{Kept}
use Rattle.gp_msg.specs.declared.event.Kept.TheVariants as kept
use Rattle.gp_msg.specs.Messages.{Message, Proposed, Asked, Answered, Sent, Voted, Stamped, Offered, InEpoch, Final, maybe_stamped, EpochPart, Part, Acceptors, Coordinators, Entry}
use Rattle.gp_coordinator.specs.State.{CoordinatorState}
use Rattle.gp_coordinator.specs.Table as coordinator
use Rattle.gp_coordinator.specs.Epochs as coordinators
use Rattle.gp_coordinator.specs.Epochs.{CoordinatorInEpoch}
use Rattle.gp_acceptor.specs.State.{AcceptorState}
use Rattle.gp_acceptor.specs.Table as acceptor
use Rattle.gp_acceptor.specs.Epochs as acceptors
use Rattle.gp_acceptor.specs.Epochs.{AcceptorInEpoch}
use Rattle.gp_msg.specs.Nodes.{node_of}
use Rattle.gp_run.specs.Messages.{messages}
use Rattle.gp_run.specs.States.{proposer_acts, proposer_at, coordinator_kept, coordinator_acts, coordinator_at, acceptor_acts, acceptor_at, learner_acts, learner_at}
use Rattle.gp_run.specs.Legal.{Legal, fits, sent_by}
use Rattle.gp_run.proofs.Choices.{chosen, chosen_where, with_message}
use Rattle.gp_cstructs.specs.CStructs.{Among}
use Rattle.gp_cstructs.proofs.Lists.{among_append}
use Rattle.gp_agreement.proofs.Sending.{Finals, learner_sends, one_sent}
use Rattle.gp_round.proofs.Counting.{left_true, right_true}

-- r is a multi round, round zero, or has this lead
abbrev pub IsLedBy : ℕ → Round → Type 0
IsLedBy c r = (is_multi r.mode ≡ true) ⊎ ((r ≡ round_zero) ⊎ (r.lead ≡ c))

-- a value is of a round that its sender leads
abbrev pub IsLed : Stamped → Type 0
IsLed (Offered c) = Unit {0}
IsLed (InEpoch e (Proposed c)) = Unit {0}
IsLed (InEpoch e (Asked r)) = Unit {0}
IsLed (InEpoch e (Answered r a q v)) = Unit {0}
IsLed (InEpoch e (Sent r c v)) = IsLedBy c r
IsLed (InEpoch e (Voted r a v)) = Unit {0}
IsLed (Final e l v) = Unit {0}

-- so is what is sent, if it is a value
abbrev IsSentLed : Option Stamped → Type 0
IsSentLed None = Unit {0}
IsSentLed (Some m) = IsLed m

abbrev IsMessageLed : Option Message → Type 0
IsMessageLed None = Unit {0}
IsMessageLed (Some (Proposed c)) = Unit {0}
IsMessageLed (Some (Asked r)) = Unit {0}
IsMessageLed (Some (Answered r a q v)) = Unit {0}
IsMessageLed (Some (Sent r c v)) = IsLedBy c r
IsMessageLed (Some (Voted r a v)) = Unit {0}

stamped_led : (e : ℕ) (o : Option Message) → IsMessageLed o → IsSentLed (maybe_stamped e o)
stamped_led e None h = tt
stamped_led e (Some (Proposed c)) h = tt
stamped_led e (Some (Asked r)) h = tt
stamped_led e (Some (Answered r a q v)) h = tt
stamped_led e (Some (Sent r c v)) h = h
stamped_led e (Some (Voted r a v)) h = tt

-- ---- coordinators

module _ (n : ℕ) where
  -- the coordinator has this number, and leads its round
  abbrev LeadsRound : CoordinatorState → Type 0
  LeadsRound s = (s.number ≡ n) × IsLedBy n s.round

  abbrev StepLed : CoordinatorState × Option Message → Type 0
  StepLed p = LeadsRound p.0 × IsMessageLed p.1

  value_led : (s : CoordinatorState) → LeadsRound s → IsLedBy s.number s.round
  value_led s h = subst (λ (k : ℕ). IsLedBy k s.round) (sym h.0) h.1

  extended_led : (s : CoordinatorState) (o : Option History) (c : Command) → LeadsRound s → StepLed (coordinator.extended s o c)
  extended_led s None c h = (h, tt)
  extended_led s (Some w) c h = chosen StepLed (not (has w c) && not (is_fast s.round.mode)) (record s { value = Some (push w c) }, Some (Sent s.round s.number (push w c))) (s, None) (h, value_led s h) (h, tt)

  answered_led : (s : CoordinatorState) → LeadsRound s → StepLed (coordinator.answered s)
  answered_led s h = chosen StepLed _ (record s { value = Some (coordinator.chosen s) }, Some (Sent s.round s.number (coordinator.chosen s))) (s, None) (h, value_led s h) (h, tt)

  begin_led : (s : CoordinatorState) (r : Round) → LeadsRound s → IsLedBy n r → StepLed (coordinator.coordinator_begin s r)
  begin_led s r h k = chosen StepLed (earlier s.round r) (coordinator.begun s r, Some (Asked r)) (s, None) ((h.0, k), tt) (h, tt)

  take_led : (s : CoordinatorState) (m : Message) → LeadsRound s → StepLed (coordinator.coordinator_take s m)
  take_led s (Proposed c) h = extended_led (record s { pending = coordinator.pending_with s.pending c }) s.value c h
  take_led s (Asked r) h = chosen_where StepLed (is_multi r.mode && earlier s.round r) (coordinator.begun s r, None) (s, None) (λ e. ((h.0, inl (left_true (is_multi r.mode) (earlier s.round r) e)), tt)) (h, tt)
  take_led s (Answered r a q v) h = chosen StepLed (coordinator.expects s r a) (coordinator.answered (record s { answers = slice_set s.answers a (Some (record { round = q; vote = v })) })) (s, None)
      (answered_led (record s { answers = slice_set s.answers a (Some (record { round = q; vote = v })) }) h) (h, tt)
  take_led s (Sent r c v) h = (h, tt)
  take_led s (Voted r a v) h = (h, tt)

  abbrev EpochStepLed : CoordinatorInEpoch × Option Stamped → Type 0
  EpochStepLed p = LeadsRound p.0.state × IsSentLed p.1

  stepped_led : (s : CoordinatorInEpoch) (p : CoordinatorState × Option Message) → StepLed p → EpochStepLed (coordinators.stepped s p)
  stepped_led s p h = (h.0, stamped_led s.epoch p.1 h.1)

  receive_led : (s : CoordinatorInEpoch) (m : Stamped) → LeadsRound s.state → EpochStepLed (coordinators.take s m)
  receive_led s (Offered c) h = chosen EpochStepLed (set.contains s.done c) (s, None) (coordinators.stepped s (coordinator.coordinator_take s.state (Proposed c))) (h, tt) (stepped_led s (coordinator.coordinator_take s.state (Proposed c)) (take_led s.state (Proposed c) h))
  receive_led s (InEpoch e m) h = chosen EpochStepLed (nat_eq e s.epoch) (coordinators.stepped s (coordinator.coordinator_take s.state m)) (s, None) (stepped_led s (coordinator.coordinator_take s.state m) (take_led s.state m h)) (h, tt)
  receive_led s (Final e l v) h = (chosen (λ (u : CoordinatorInEpoch). LeadsRound u.state) (nat_lt e s.epoch) (coordinators.settled s v) (coordinators.entered (coordinators.settled s v) (suc e)) h (h.0, inr (inl refl)), tt)

  -- the part that survives is that of a round that the coordinator leads
  abbrev PartLed : Part → Type 0
  PartLed (Acceptors r q v) = Unit {0}
  PartLed (Coordinators r) = IsLedBy n r

  fall_led : (s : CoordinatorState) (p : Part) → LeadsRound s → PartLed p → LeadsRound (coordinator.coordinator_fall s p)
  fall_led s (Acceptors r q v) h k = h
  fall_led s (Coordinators r) h k = (h.0, k)

  -- what the coordinator keeps begun, it leads
  abbrev MayKeep : Option Kept → Type 0
  MayKeep None = Unit {0}
  MayKeep (Some (kept.Begin r)) = IsLedBy n r
  MayKeep (Some (kept.Take k)) = Unit {0}

  -- what the coordinator begins, or keeps begun in a fall, it leads
  abbrev MayBegin : Event → Type 0
  MayBegin (Offer p d) = Unit {0}
  MayBegin (Begin c r) = nat_eq n c ≡ true → IsLedBy n r
  MayBegin (Take node k) = Unit {0}
  MayBegin (Fall (Proposer p) what) = Unit {0}
  MayBegin (Fall (Coordinator c) what) = nat_eq n c ≡ true → MayKeep what
  MayBegin (Fall (Acceptor a) what) = Unit {0}
  MayBegin (Fall (Learner l) what) = Unit {0}

  kept_led : (s : CoordinatorInEpoch) (ms : List Stamped) (what : Option Kept) → LeadsRound s.state → MayKeep what → PartLed (coordinator_kept s ms what).part
  kept_led s ms None h k = h.1
  kept_led s ms (Some (kept.Begin r)) h k = (stepped_led s (coordinator.coordinator_begin s.state r) (begin_led s.state r h k)).0.1
  kept_led s ms (Some (kept.Take i)) h k = with_message (λ (p : EpochPart). PartLed p.part) (coordinators.durable s) (λ m. coordinators.durable (coordinators.take s m).0) (slice_get ms i) h.1 (λ m e. (receive_led s m h).0.1)

  acts_led : (s : CoordinatorInEpoch) (ms : List Stamped) (event : Event) → LeadsRound s.state → MayBegin event → EpochStepLed (coordinator_acts n s ms event)
  acts_led s ms (Offer p d) h k = (h, tt)
  acts_led s ms (Begin b r) h k = chosen_where EpochStepLed (nat_eq n b) (coordinators.begin s r) (s, None) (λ e. stepped_led s (coordinator.coordinator_begin s.state r) (begin_led s.state r h (k e))) (h, tt)
  acts_led s ms (Take (Proposer p) i) h k = (h, tt)
  acts_led s ms (Take (Coordinator b) i) h k = chosen EpochStepLed (nat_eq n b) _ _ (with_message EpochStepLed (s, None) (coordinators.take s) (slice_get ms i) (h, tt) (λ m e. receive_led s m h)) (h, tt)
  acts_led s ms (Take (Acceptor a) i) h k = (h, tt)
  acts_led s ms (Take (Learner l) i) h k = (h, tt)
  acts_led s ms (Fall (Proposer p) what) h k = (h, tt)
  acts_led s ms (Fall (Coordinator b) what) h k =
      chosen_where EpochStepLed (nat_eq n b) (coordinators.fall s (coordinator_kept s ms what), None) (s, None) (λ e. (fall_led s.state (coordinator_kept s ms what).part h (kept_led s ms what h (k e)), tt)) (h, tt)
  acts_led s ms (Fall (Acceptor a) what) h k = (h, tt)
  acts_led s ms (Fall (Learner l) what) h k = (h, tt)

-- a round that a coordinator owns is led by it
owned_led : (count c : ℕ) (r : Round) → is_owner count c r ≡ true → IsLedBy c r
owned_led count c r h = by_mode r.mode refl
  where
    led : (m : Mode) → r.mode ≡ m → nat_eq r.lead (lead_of m c) ≡ true
    led m e = subst (λ (k : Mode). nat_eq r.lead (lead_of k c) ≡ true) e (owned count c r h).led

    by_mode : (m : Mode) → r.mode ≡ m → IsLedBy c r
    by_mode Single e = inr (inr (eqb-true r.lead c (led Single e)))
    by_mode Multi e = inl (ap is_multi e)
    by_mode Fast e = inr (inr (eqb-true r.lead c (led Fast e)))

own_led : (n c : ℕ) (r : Round) → nat_eq n c ≡ true → IsLedBy c r → IsLedBy n r
own_led n c r e h = subst (λ (k : ℕ). IsLedBy k r) (sym (eqb-true n c e)) h

-- what fits may begin
may_begin : (config : Counts) (es : List Entry) (n : ℕ) (event : Event) → fits config es event ≡ true → MayBegin n event
may_begin config es n (Offer p d) h = tt
may_begin config es n (Begin c r) h = λ e. own_led n c r e (owned_led config.coordinators c r h)
may_begin config es n (Take node k) h = tt
may_begin config es n (Fall (Proposer p) what) h = tt
may_begin config es n (Fall (Coordinator c) None) h = λ e. tt
may_begin config es n (Fall (Coordinator c) (Some (kept.Begin r))) h = λ e. own_led n c r e (owned_led config.coordinators c r (right_true (nat_lt c config.coordinators) (is_owner config.coordinators c r) h))
may_begin config es n (Fall (Coordinator c) (Some (kept.Take k))) h = λ e. tt
may_begin config es n (Fall (Acceptor a) what) h = tt
may_begin config es n (Fall (Learner l) what) h = tt

led_at : (config : Counts) (c : ℕ) (es : List Entry) → Legal config es → LeadsRound c (coordinator_at config c es).state
led_at config c [] legal = (refl, inr (inl refl))
led_at config c (e ∷ es) legal = (acts_led c (coordinator_at config c es) (messages es) e.event (led_at config c es legal.0) (may_begin config es c e.event legal.1.event_fits)).0

-- ---- the other nodes send no values

proposer_led : (p : ℕ) (s : _) (event : Event) → IsSentLed (proposer_acts p s event).1
proposer_led p s (Offer q d) = chosen (λ (u : _ × Option Stamped). IsSentLed u.1) (nat_eq p q) _ (s, None) tt tt
proposer_led p s (Begin c r) = tt
proposer_led p s (Take node k) = tt
proposer_led p s (Fall node what) = tt

abbrev VoteLed : AcceptorState × Option Message → Type 0
VoteLed p = IsMessageLed p.1

told_led : (n : ℕ) (q r : Round) (v : History) (o : Option History) → IsMessageLed (acceptor.told_vote n q r v o)
told_led n q r v None = tt
told_led n q r v (Some w) = chosen IsMessageLed _ (Some (Voted r n w)) None tt tt

vote_led : (s : AcceptorState) (m : Message) → VoteLed (acceptor.acceptor_take s m)
vote_led s (Proposed c) = chosen VoteLed _ (record s { vote = push s.vote c }, Some (Voted s.round s.number (push s.vote c))) (s, None) tt tt
vote_led s (Asked r) = chosen VoteLed (earlier s.round r) _ (s, None) tt tt
vote_led s (Answered r a q v) = tt
vote_led s (Sent r c v) = chosen VoteLed _ (acceptor.counted (acceptor.holding (acceptor.raised s r) c v)) (s, None)
    (let t : AcceptorState = acceptor.holding (acceptor.raised s r) c v in told_led t.number t.voted t.round t.vote (acceptor.next_vote_of t)) tt
vote_led s (Voted r a v) = tt

abbrev AcceptorLed : AcceptorInEpoch × Option Stamped → Type 0
AcceptorLed p = IsSentLed p.1

acceptor_receives : (s : AcceptorInEpoch) (m : Stamped) → AcceptorLed (acceptors.take s m)
acceptor_receives s (Offered c) = stamped_led s.epoch (acceptor.acceptor_take s.state (Proposed c)).1 (vote_led s.state (Proposed c))
acceptor_receives s (InEpoch e m) = chosen AcceptorLed (nat_eq e s.epoch) (acceptors.stepped s (acceptor.acceptor_take s.state m)) (s, None) (stamped_led s.epoch (acceptor.acceptor_take s.state m).1 (vote_led s.state m)) tt
acceptor_receives s (Final e l v) = tt

acceptor_led : (a : ℕ) (s : AcceptorInEpoch) (ms : List Stamped) (event : Event) → AcceptorLed (acceptor_acts a s ms event)
acceptor_led a s ms (Offer p d) = tt
acceptor_led a s ms (Begin c r) = tt
acceptor_led a s ms (Take (Proposer p) k) = tt
acceptor_led a s ms (Take (Coordinator c) k) = tt
acceptor_led a s ms (Take (Acceptor b) k) = chosen AcceptorLed (nat_eq a b) _ _ (with_message AcceptorLed (s, None) (acceptors.take s) (slice_get ms k) tt (λ m e. acceptor_receives s m)) tt
acceptor_led a s ms (Take (Learner l) k) = tt
acceptor_led a s ms (Fall (Proposer p) what) = tt
acceptor_led a s ms (Fall (Coordinator c) what) = tt
acceptor_led a s ms (Fall (Acceptor b) what) = chosen AcceptorLed (nat_eq a b) _ (s, None) tt tt
acceptor_led a s ms (Fall (Learner l) what) = tt

-- what a learner sends is a Final
final_led : (e : ℕ) (o : Option Stamped) → Finals e o → IsSentLed o
final_led e None h = tt
final_led e (Some (Offered c)) h = absurd h
final_led e (Some (InEpoch i m)) h = absurd h
final_led e (Some (Final i l v)) h = tt

-- ---- each message of a run

node_led : (config : Counts) (es : List Entry) → Legal config es → (node : Node) (event : Event) → fits config es event ≡ true → IsSentLed (sent_by config es node event)
node_led config es legal (Proposer p) event h = proposer_led p (proposer_at p es) event
node_led config es legal (Coordinator c) event h = (acts_led c (coordinator_at config c es) (messages es) event (led_at config c es legal) (may_begin config es c event h)).1
node_led config es legal (Acceptor a) event h = acceptor_led a (acceptor_at config a es) (messages es) event
node_led config es legal (Learner l) event h = final_led (learner_at config l es).epoch (learner_acts l (learner_at config l es) (messages es) event).1 (learner_sends l (learner_at config l es) (messages es) event)

-- **each value of a legal run is of a multi round, or of one that its sender leads**
pub messages_led : (config : Counts) (es : List Entry) → Legal config es → (m : Stamped) → Among (messages es) m → IsLed m
messages_led config [] legal m h = elim h [ ]
messages_led config (e ∷ es) legal m h = elim (among_append (messages es) e.sent m h) [
  | inl before ↦ messages_led config es legal.0 m before
  | inr now ↦
      let o : Option Stamped = sent_by config es (node_of e.event) e.event in
      let is : o ≡ Some m = one_sent o m (subst (λ (ms : List Stamped). Among ms m) legal.1.own_messages now) in
      subst IsSentLed is (node_led config es legal.0 (node_of e.event) e.event legal.1.event_fits)
]
