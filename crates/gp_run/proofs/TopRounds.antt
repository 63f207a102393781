-- The greatest count of a round is that of a message or of a coordinator.
use Rattle.std.proofs.Common.{◌≡◌, ℕ, zero, suc, ◌≤◌, ◌&&◌, List, [], ◌∷◌, ◌++◌, Option, Some, None, slice_get, max, arith}
use Rattle.std.specs.Prelude.{nat_eq, nat_lt}
use Rattle.std.specs.List.{flat_map}
use Rattle.std.specs.FinSet as set
use Rattle.std.proofs.Math.Nat.{le_refl, le_antisymm, le-max_left, le-max_right, max-le}
use Rattle.gp_command.specs.declared.command.Command.{Command}
use Rattle.gp_history.specs.History.{History}
use Rattle.gp_round.specs.Counts.{Counts}
use Rattle.gp_round.specs.declared.round.Round.{Round}
use Rattle.gp_msg.specs.declared.node.Node.TheVariants.{Proposer, Coordinator, Acceptor, Learner}
use Rattle.gp_msg.specs.declared.event.Event.{Event}
use Rattle.gp_msg.specs.declared.event.Event.TheVariants.{Offer, Begin, Take, Fall}
use Rattle.gp_msg.specs.declared.event.Kept.{Kept}
use Rattle.gp_msg.specs.declared.event.Kept.TheVariants as kept
use Rattle.gp_msg.specs.Messages.{Message, Proposed, Asked, Answered, Sent, Voted, Part, Acceptors, Coordinators}
use Rattle.gp_coordinator.specs.State.{CoordinatorState}
use Rattle.gp_coordinator.specs.Table as coordinator_table
use Rattle.gp_acceptor.specs.State.{AcceptorState}
use Rattle.gp_acceptor.specs.Table as acceptor_table
use Rattle.gp_learner.specs.State.{LearnerState}
use Rattle.gp_learner.specs.Table.{learner_take}
use Rattle.gp_run.specs.TopCount.{message_rounds, coordinator_rounds, acceptor_rounds, learner_rounds, rounds_below}
use Rattle.gp_run.proofs.Counting.{AreUpTo, none_up_to, cons_up_to, head_up_to, append_up_to, left_up_to, right_up_to, below_up_to, up_to_below, up_to_each}
use Rattle.gp_run.proofs.RoleRounds.{one_up_to, two_up_to, AcceptorIsUpTo, acceptor_takes, RepliesUpTo, no_rounds, coordinator_begins, coordinator_takes, learner_takes}
use Rattle.gp_learner.specs.Epochs.{first_checkpoint}
use Rattle.gp_msg.specs.Messages.{Stamped, Offered, InEpoch, Final, EpochPart, Entry}
use Rattle.gp_coordinator.specs.Epochs as coordinator
use Rattle.gp_coordinator.specs.Epochs.{CoordinatorInEpoch}
use Rattle.gp_acceptor.specs.Epochs as acceptor
use Rattle.gp_acceptor.specs.Epochs.{AcceptorInEpoch}
use Rattle.gp_learner.specs.Epochs as learner
use Rattle.gp_learner.specs.Epochs.{LearnerInEpoch}
use Rattle.gp_run.specs.Messages.{messages}
use Rattle.gp_run.specs.States.{coordinator_kept, coordinator_acts, coordinator_at, acceptor_kept, acceptor_acts, acceptor_at, learner_acts, learner_at}
use Rattle.gp_run.specs.TopCount.{rounds_of, rounds_in, top_count, top_of_messages, top_of_coordinators}
use Rattle.gp_run.proofs.Choices.{chosen, with_message}

module _ (t : ℕ) where
  -- ---- acceptors

  abbrev AcceptorUpTo : AcceptorInEpoch × Option Stamped → Type 0
  AcceptorUpTo p = AcceptorIsUpTo t p.0.state

  one_message : (s : AcceptorInEpoch) (m : Message) → AcceptorIsUpTo t s.state → AreUpTo t (message_rounds m) → AcceptorIsUpTo t (acceptor_table.acceptor_take s.state m).0
  one_message s m h k = let u = acceptor_takes t s.state m h k in record { round = u.round; voted = u.voted }

  from_zero : (s : AcceptorInEpoch) (e : ℕ) → AcceptorIsUpTo t (acceptor.entered s e).state
  from_zero s e = record { round = omega arith; voted = omega arith }

  acceptor_receives : (s : AcceptorInEpoch) (m : Stamped) → AcceptorIsUpTo t s.state → AreUpTo t (rounds_of m) → AcceptorUpTo (acceptor.take s m)
  acceptor_receives s (Offered c) h k = one_message s (Proposed c) h k
  acceptor_receives s (InEpoch e m) h k = chosen AcceptorUpTo (nat_eq e s.epoch) (acceptor.stepped s (acceptor_table.acceptor_take s.state m)) (s, None) (one_message s m h k) h
  acceptor_receives s (Final e l v) h k = chosen (λ (u : AcceptorInEpoch). AcceptorIsUpTo t u.state) (nat_lt e s.epoch) s (acceptor.entered s (suc e)) h (from_zero s (suc e))

  abbrev PartUpTo : Part → Type 0
  PartUpTo (Acceptors r q v) = (r.count ≤ t) × (q.count ≤ t)
  PartUpTo (Coordinators r) = Unit {0}

  falls : (s : AcceptorState) (p : Part) → AcceptorIsUpTo t s → PartUpTo p → AcceptorIsUpTo t (acceptor_table.acceptor_fall s p)
  falls s (Acceptors r q v) h k = record { round = k.0; voted = k.1 }
  falls s (Coordinators r) h k = h

  abbrev AllUpTo : List Stamped → Type 0
  AllUpTo ms = (k : ℕ) (m : Stamped) → slice_get ms k ≡ Some m → AreUpTo t (rounds_of m)

  kept_up_to : (s : AcceptorInEpoch) (ms : List Stamped) (what : Option Kept) → AcceptorIsUpTo t s.state → AllUpTo ms → PartUpTo (acceptor_kept s ms what).part
  kept_up_to s ms None h all = (h.round, h.voted)
  kept_up_to s ms (Some (kept.Begin r)) h all = (h.round, h.voted)
  kept_up_to s ms (Some (kept.Take k)) h all = with_message (λ (p : EpochPart). PartUpTo p.part) (acceptor.durable s) (λ m. acceptor.durable (acceptor.take s m).0) (slice_get ms k) (h.round, h.voted)
      (λ m e. let u = acceptor_receives s m h (all k m e) in (u.round, u.voted))

  acceptor_acts_up_to : (a : ℕ) (s : AcceptorInEpoch) (ms : List Stamped) (event : Event) → AcceptorIsUpTo t s.state → AllUpTo ms → AcceptorUpTo (acceptor_acts a s ms event)
  acceptor_acts_up_to a s ms (Offer p d) h all = h
  acceptor_acts_up_to a s ms (Begin c r) h all = h
  acceptor_acts_up_to a s ms (Take (Proposer p) k) h all = h
  acceptor_acts_up_to a s ms (Take (Coordinator c) k) h all = h
  acceptor_acts_up_to a s ms (Take (Acceptor b) k) h all =
      chosen AcceptorUpTo (nat_eq a b) _ _ (with_message AcceptorUpTo (s, None) (acceptor.take s) (slice_get ms k) h (λ m e. acceptor_receives s m h (all k m e))) h
  acceptor_acts_up_to a s ms (Take (Learner l) k) h all = h
  acceptor_acts_up_to a s ms (Fall (Proposer p) what) h all = h
  acceptor_acts_up_to a s ms (Fall (Coordinator c) what) h all = h
  acceptor_acts_up_to a s ms (Fall (Acceptor b) what) h all =
      chosen AcceptorUpTo (nat_eq a b) (acceptor.fall s (acceptor_kept s ms what), None) (s, None) (falls s.state (acceptor_kept s ms what).part h (kept_up_to s ms what h all)) h
  acceptor_acts_up_to a s ms (Fall (Learner l) what) h all = h

  -- ---- what coordinators hold of acceptors

  abbrev RepliesAre : CoordinatorInEpoch × Option Stamped → Type 0
  RepliesAre p = RepliesUpTo t p.0.state

  coordinator_receives : (s : CoordinatorInEpoch) (m : Stamped) → RepliesUpTo t s.state → AreUpTo t (rounds_of m) → RepliesAre (coordinator.take s m)
  coordinator_receives s (Offered c) h k = chosen RepliesAre (set.contains s.done c) (s, None) (coordinator.stepped s (coordinator_table.coordinator_take s.state (Proposed c))) h (coordinator_takes t s.state (Proposed c) h k).answers
  coordinator_receives s (InEpoch e m) h k = chosen RepliesAre (nat_eq e s.epoch) (coordinator.stepped s (coordinator_table.coordinator_take s.state m)) (s, None) (coordinator_takes t s.state m h k).answers h
  coordinator_receives s (Final e l v) h k = chosen (λ (u : CoordinatorInEpoch). RepliesUpTo t u.state) (nat_lt e s.epoch) (coordinator.settled s v) (coordinator.entered (coordinator.settled s v) (suc e)) h (no_rounds t s.state.config.acceptors)

  coordinator_falls : (s : CoordinatorState) (p : Part) → RepliesUpTo t s → RepliesUpTo t (coordinator_table.coordinator_fall s p)
  coordinator_falls s (Acceptors r q v) h = h
  coordinator_falls s (Coordinators r) h = no_rounds t s.config.acceptors

  coordinator_acts_up_to : (c : ℕ) (s : CoordinatorInEpoch) (ms : List Stamped) (event : Event) → RepliesUpTo t s.state → AllUpTo ms → RepliesAre (coordinator_acts c s ms event)
  coordinator_acts_up_to c s ms (Offer p d) h all = h
  coordinator_acts_up_to c s ms (Begin b r) h all = chosen RepliesAre (nat_eq c b) (coordinator.begin s r) (s, None) (coordinator_begins t s.state r h).answers h
  coordinator_acts_up_to c s ms (Take (Proposer p) k) h all = h
  coordinator_acts_up_to c s ms (Take (Coordinator b) k) h all =
      chosen RepliesAre (nat_eq c b) _ _ (with_message RepliesAre (s, None) (coordinator.take s) (slice_get ms k) h (λ m e. coordinator_receives s m h (all k m e))) h
  coordinator_acts_up_to c s ms (Take (Acceptor a) k) h all = h
  coordinator_acts_up_to c s ms (Take (Learner l) k) h all = h
  coordinator_acts_up_to c s ms (Fall (Proposer p) what) h all = h
  coordinator_acts_up_to c s ms (Fall (Coordinator b) what) h all =
      chosen RepliesAre (nat_eq c b) (coordinator.fall s (coordinator_kept s ms what), None) (s, None) (coordinator_falls s.state (coordinator_kept s ms what).part h) h
  coordinator_acts_up_to c s ms (Fall (Acceptor a) what) h all = h
  coordinator_acts_up_to c s ms (Fall (Learner l) what) h all = h

  -- ---- learners

  abbrev VotesUpTo : LearnerInEpoch → Type 0
  VotesUpTo s = AreUpTo t (learner_rounds s.state)

  abbrev VotesAre : LearnerInEpoch × Option Stamped → Type 0
  VotesAre p = VotesUpTo p.0

  learning_up_to : (s : LearnerInEpoch) (o : Option Command) → VotesUpTo s → VotesAre (learner.learning s o)
  learning_up_to s None h = h
  learning_up_to s (Some z) h = none_up_to t

  one_vote : (s : LearnerState) (r : Round) (a : ℕ) (v : History) → AreUpTo t (learner_rounds s) → AreUpTo t (r ∷ []) → AreUpTo t (learner_rounds (learner_take s (Voted r a v)))
  one_vote s r a v h k = learner_takes t s (Voted r a v) h k

  learner_receives : (s : LearnerInEpoch) (m : Stamped) → VotesUpTo s → AreUpTo t (rounds_of m) → VotesAre (learner.take s m)
  learner_receives s (Offered c) h k = h
  learner_receives s (InEpoch e (Proposed c)) h k = h
  learner_receives s (InEpoch e (Asked r)) h k = h
  learner_receives s (InEpoch e (Answered r a q v)) h k = h
  learner_receives s (InEpoch e (Sent r c v)) h k = h
  learner_receives s (InEpoch e (Voted r a v)) h k = chosen VotesAre (nat_eq e s.epoch && nat_lt a s.state.config.acceptors) (learner.hearing s (learner_take s.state (Voted r a v))) (s, None)
      (learning_up_to (learner.with_state s (learner_take s.state (Voted r a v))) (first_checkpoint (learner_take s.state (Voted r a v)).learned) (one_vote s.state r a v h k)) h
  learner_receives s (Final e l v) h k = chosen VotesUpTo (nat_eq e s.epoch) (learner.passed s v) s (none_up_to t) h

  learner_acts_are : (l : ℕ) (s : LearnerInEpoch) (ms : List Stamped) (event : Event) → VotesUpTo s → AllUpTo ms → VotesAre (learner_acts l s ms event)
  learner_acts_are l s ms (Offer p d) h all = h
  learner_acts_are l s ms (Begin c r) h all = h
  learner_acts_are l s ms (Take (Proposer p) k) h all = h
  learner_acts_are l s ms (Take (Coordinator c) k) h all = h
  learner_acts_are l s ms (Take (Acceptor a) k) h all = h
  learner_acts_are l s ms (Take (Learner i) k) h all =
      chosen VotesAre (nat_eq l i) _ _ (with_message VotesAre (s, None) (learner.take s) (slice_get ms k) h (λ m e. learner_receives s m h (all k m e))) h
  learner_acts_are l s ms (Fall (Proposer p) what) h all = h
  learner_acts_are l s ms (Fall (Coordinator c) what) h all = h
  learner_acts_are l s ms (Fall (Acceptor a) what) h all = h
  learner_acts_are l s ms (Fall (Learner i) what) h all = chosen VotesAre (nat_eq l i) (learner.fall s, None) (s, None) (none_up_to t) h

  -- ---- if all messages have rounds up to t

  front : {X : Type 0} (xs ys : List X) (k : ℕ) (x : X) → slice_get xs k ≡ Some x → slice_get (xs ++ ys) k ≡ Some x
  front [] ys k x e = cc
  front (y ∷ xs) ys zero x e = e
  front (y ∷ xs) ys (suc k) x e = front xs ys k x e

  earlier_up_to : (x : Entry) (es : List Entry) → AllUpTo (messages (x ∷ es)) → AllUpTo (messages es)
  earlier_up_to x es all k m e = all k m (front (messages es) x.sent k m e)

  acceptors_up_to : (config : Counts) (a : ℕ) (es : List Entry) → AllUpTo (messages es) → AcceptorIsUpTo t (acceptor_at config a es).state
  acceptors_up_to config a [] all = record { round = omega arith; voted = omega arith }
  acceptors_up_to config a (x ∷ es) all = acceptor_acts_up_to a (acceptor_at config a es) (messages es) x.event (acceptors_up_to config a es (earlier_up_to x es all)) (earlier_up_to x es all)

  replies_up_to : (config : Counts) (c : ℕ) (es : List Entry) → AllUpTo (messages es) → RepliesUpTo t (coordinator_at config c es).state
  replies_up_to config c [] all = no_rounds t config.acceptors
  replies_up_to config c (x ∷ es) all = coordinator_acts_up_to c (coordinator_at config c es) (messages es) x.event (replies_up_to config c es (earlier_up_to x es all)) (earlier_up_to x es all)

  votes_up_to : (config : Counts) (l : ℕ) (es : List Entry) → AllUpTo (messages es) → VotesUpTo (learner_at config l es)
  votes_up_to config l [] all = none_up_to t
  votes_up_to config l (x ∷ es) all = learner_acts_are l (learner_at config l es) (messages es) x.event (votes_up_to config l es (earlier_up_to x es all)) (earlier_up_to x es all)

-- ---- the greatest count

-- the rounds of coordinators
abbrev own_rounds : Counts → List Entry → ℕ → List Round
own_rounds config es c = (coordinator_at config c es).state.round ∷ []

pub top_is : (config : Counts) (es : List Entry) → top_count config es ≡ max (top_of_messages (messages es)) (top_of_coordinators config es)
top_is config es =
    let t = max (top_of_messages (messages es)) (top_of_coordinators config es) in
    let sent : AreUpTo t (flat_map rounds_of (messages es)) = le-max_left (top_of_messages (messages es)) (top_of_coordinators config es) in
    let own : AreUpTo t (rounds_below config.coordinators (own_rounds config es)) = le-max_right (top_of_messages (messages es)) (top_of_coordinators config es) in
    let all : AllUpTo t (messages es) = λ k m e. up_to_each t rounds_of (messages es) k m sent e in
    let most = append_up_to t _ _
    (append_up_to t _ _
    (append_up_to t (flat_map rounds_of (messages es)) _ sent
    (below_up_to t config.coordinators (λ c. coordinator_rounds (coordinator_at config c es).state)
    (λ c h. cons_up_to t (coordinator_at config c es).state.round _ (head_up_to t (coordinator_at config c es).state.round [] (up_to_below t config.coordinators (own_rounds config es) own c h)) (replies_up_to t config c es all))))
    (below_up_to t config.acceptors (λ a. acceptor_rounds (acceptor_at config a es).state)
    (λ a h. let u = acceptors_up_to t config a es all in two_up_to t (acceptor_at config a es).state.round (acceptor_at config a es).state.voted u.round u.voted)))
    (below_up_to t config.learners (λ l. learner_rounds (learner_at config l es).state) (λ l h. votes_up_to t config l es all)) in
    let top = top_count config es in
    let whole : AreUpTo top (rounds_in config es) = le_refl top in
    let front = left_up_to top _ (rounds_below config.acceptors (λ a. acceptor_rounds (acceptor_at config a es).state)) (left_up_to top _ (rounds_below config.learners (λ l. learner_rounds (learner_at config l es).state)) whole) in
    let least = max-le (left_up_to top (flat_map rounds_of (messages es)) _ front)
    (below_up_to top config.coordinators (own_rounds config es) (λ c h. one_up_to top (coordinator_at config c es).state.round
    (head_up_to top (coordinator_at config c es).state.round _ (up_to_below top config.coordinators (λ c. coordinator_rounds (coordinator_at config c es).state) (right_up_to top (flat_map rounds_of (messages es)) _ front) c h)))) in
    le_antisymm most least
