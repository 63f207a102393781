-- The rounds that the roles take on and send: those that they had, and those of the message.
use Rattle.std.proofs.Common.{ℕ, zero, suc, ◌≤◌, ◌&&◌, [], ◌∷◌, Some, None, map}
use Rattle.std.specs.Prelude.{not, nat_lt, Option}
use Rattle.std.specs.List.{flat_map}
use Rattle.std.specs.declared.cmp.Ordering.{Ordering}
use Rattle.std.specs.declared.cmp.Ordering.TheVariants.{Equal, Less, Greater}
use Rattle.std.specs.Ordering.{match_ordering}
use Rattle.std.specs.BTreeMap.{insert_entry}
use Rattle.std.proofs.Math.Nat.{le_refl}
use Rattle.gp_command.specs.declared.command.Command.{Command}
use Rattle.gp_history.specs.History.{History, has, push}
use Rattle.gp_round.specs.Rounds.{earlier, same_round, is_fast, is_multi}
use Rattle.gp_round.specs.declared.round.Round.{Round}
use Rattle.gp_coordinator.specs.State.{Reply}
use Rattle.gp_acceptor.specs.Table.{newer}
use Rattle.gp_msg.specs.Messages.{Message, Proposed, Asked, Answered, Sent, Voted}
use Rattle.gp_coordinator.specs.State.{CoordinatorState}
use Rattle.gp_coordinator.specs.Replies.{unanswered}
use Rattle.gp_coordinator.specs.Table.{chosen as coordinator_choice, begun, coordinator_begin, coordinator_take, expects, extended, answered, pending_with}
use Rattle.gp_acceptor.specs.State.{AcceptorState, nobody}
use Rattle.gp_acceptor.specs.Table.{raised, holding, counted, with_value, with_vote, value_at, told_vote, next_vote_of, acceptor_take}
use Rattle.gp_learner.specs.State.{LearnerState, Votes}
use Rattle.gp_learner.specs.Table.{learner_take, voter_cmp, vote_of, votes_held, votes_with, hearing}
use Rattle.gp_round.proofs.Counting.{right_true}
use Rattle.gp_run.specs.TopCount.{message_rounds, reply_rounds, learner_rounds}
use Rattle.gp_run.proofs.Counting.{AreUpTo, none_up_to, cons_up_to, head_up_to, tail_up_to, set_up_to, earlier_le}
use Rattle.gp_run.proofs.Choices.{chosen, chosen_where}
use Rattle.gp_run.proofs.Owning.{replied}

-- the rounds of a message that may be there
abbrev pub IsUpTo : ℕ → Option Message → Type 0
IsUpTo t None = Unit {0}
IsUpTo t (Some m) = AreUpTo t (message_rounds m)

pub one_up_to : (t : ℕ) (r : Round) → r.count ≤ t → AreUpTo t (r ∷ [])
one_up_to t r h = cons_up_to t r [] h (none_up_to t)

pub two_up_to : (t : ℕ) (r q : Round) → r.count ≤ t → q.count ≤ t → AreUpTo t (r ∷ q ∷ [])
two_up_to t r q h k = cons_up_to t r (q ∷ []) h (one_up_to t q k)

-- ---- acceptors

-- the state and what is sent have rounds up to t
pub record AcceptorUpTo (t : ℕ) (u : AcceptorState × Option Message) : Type 0 where
  pub round : u.0.round.count ≤ t
  pub voted : u.0.voted.count ≤ t
  pub message : IsUpTo t u.1

pub record AcceptorIsUpTo (t : ℕ) (s : AcceptorState) : Type 0 where
  pub round : s.round.count ≤ t
  pub voted : s.voted.count ≤ t

quiet : (t : ℕ) (s : AcceptorState) → AcceptorIsUpTo t s → AcceptorUpTo t (s, None)
quiet t s h = record { round = h.round; voted = h.voted; message = tt }

raised_up_to : (t : ℕ) (s : AcceptorState) (r : Round) → AcceptorIsUpTo t s → r.count ≤ t → AcceptorIsUpTo t (raised s r)
raised_up_to t s r h k = chosen (AcceptorIsUpTo t) (earlier s.round r) _ _ (record { round = k; voted = h.voted }) h

with_value_up_to : (t : ℕ) (s : AcceptorState) (c : ℕ) (o : Option History) → AcceptorIsUpTo t s → AcceptorIsUpTo t (with_value s c o)
with_value_up_to t s c None h = h
with_value_up_to t s c (Some v) h = record { round = h.round; voted = h.voted }

with_vote_up_to : (t : ℕ) (s : AcceptorState) (o : Option History) → AcceptorIsUpTo t s → AcceptorIsUpTo t (with_vote s o)
with_vote_up_to t s None h = h
with_vote_up_to t s (Some v) h = record { round = h.round; voted = h.round }

told_up_to : (t number : ℕ) (voted round : Round) (vote : History) (o : Option History) → round.count ≤ t → IsUpTo t (told_vote number voted round vote o)
told_up_to t number voted round vote None h = tt
told_up_to t number voted round vote (Some v) h = chosen (IsUpTo t) _ (Some (Voted round number v)) None (one_up_to t round h) tt

counted_up_to : (t : ℕ) (s : AcceptorState) → AcceptorIsUpTo t s → AcceptorUpTo t (counted s)
counted_up_to t s h =
    let next = with_vote_up_to t s (next_vote_of s) h in
    record { round = next.round; voted = next.voted; message = told_up_to t s.number s.voted s.round s.vote (next_vote_of s) h.round }

pub acceptor_takes : (t : ℕ) (s : AcceptorState) (m : Message) → AcceptorIsUpTo t s → AreUpTo t (message_rounds m) → AcceptorUpTo t (acceptor_take s m)
acceptor_takes t s (Proposed c) h k =
    chosen (AcceptorUpTo t) (same_round s.voted s.round && is_fast s.round.mode && not (has s.vote c))
    (record s { vote = push s.vote c }, Some (Voted s.round s.number (push s.vote c))) (s, None)
    (record { round = h.round; voted = h.voted; message = one_up_to t s.round h.round }) (quiet t s h)
acceptor_takes t s (Asked r) h k =
    let asked = head_up_to t r [] k in
    chosen (AcceptorUpTo t) (earlier s.round r)
    (record s { round = r; held = nobody s.config.coordinators }, Some (Answered r s.number s.voted s.vote)) (s, None)
    (record { round = asked; voted = h.voted; message = two_up_to t r s.voted asked h.voted }) (quiet t s h)
acceptor_takes t s (Answered r a q v) h k = quiet t s h
acceptor_takes t s (Sent r c v) h k =
    let in_round = raised_up_to t s r h (head_up_to t r [] k) in
    chosen (AcceptorUpTo t) (not (earlier r s.round) && nat_lt c s.config.coordinators) (counted (holding (raised s r) c v)) (s, None)
    (counted_up_to t (holding (raised s r) c v) (with_value_up_to t (raised s r) c (newer (value_at (raised s r).held c) v) in_round)) (quiet t s h)
acceptor_takes t s (Voted r a v) h k = quiet t s h

-- ---- learners

rounds_inserted : (t : ℕ) (votes : Votes) (r : Round) (a : ℕ) (v : History) → AreUpTo t (map (λ x. x.0.0) votes) → r.count ≤ t → AreUpTo t (map (λ x. x.0.0) (insert_entry voter_cmp votes (r, a) v))
rounds_inserted t [] r a v h k = one_up_to t r k
rounds_inserted t (x ∷ votes) r a v h k = step (voter_cmp (r, a) x.0) (rounds_inserted t votes r a v (tail_up_to t x.0.0 _ h) k) where
  step : (o : Ordering) → AreUpTo t (map (λ y. y.0.0) (insert_entry voter_cmp votes (r, a) v)) → AreUpTo t (map (λ y. y.0.0) (match_ordering o (((r, a), v) ∷ x ∷ votes) ((x.0, v) ∷ votes) (x ∷ insert_entry voter_cmp votes (r, a) v)))
  step Less more = cons_up_to t r (map (λ y. y.0.0) (x ∷ votes)) k h
  step Equal more = h
  step Greater more = cons_up_to t x.0.0 (map (λ y. y.0.0) (insert_entry voter_cmp votes (r, a) v)) (head_up_to t x.0.0 _ h) more

held_up_to : (t : ℕ) (votes : Votes) (r : Round) (a : ℕ) (o : Option History) → AreUpTo t (map (λ x. x.0.0) votes) → r.count ≤ t → AreUpTo t (map (λ x. x.0.0) (votes_held votes r a o))
held_up_to t votes r a None h k = h
held_up_to t votes r a (Some v) h k = rounds_inserted t votes r a v h k

pub learner_takes : (t : ℕ) (s : LearnerState) (m : Message) → AreUpTo t (learner_rounds s) → AreUpTo t (message_rounds m) → AreUpTo t (learner_rounds (learner_take s m))
learner_takes t s (Proposed c) h k = h
learner_takes t s (Asked r) h k = h
learner_takes t s (Answered r a q v) h k = h
learner_takes t s (Sent r c v) h k = h
learner_takes t s (Voted r a v) h k =
    chosen (λ (x : LearnerState). AreUpTo t (learner_rounds x)) (nat_lt a s.config.acceptors) (hearing s r (votes_with s.votes r a v)) s
    (held_up_to t s.votes r a (newer (vote_of s.votes r a) v) h (head_up_to t r [] k)) h

-- ---- coordinators

-- after a step from s: the round does not go back, the answers have rounds up to t, and what is sent is of its round
pub record CoordinatorStep (t : ℕ) (s : CoordinatorState) (u : CoordinatorState × Option Message) : Type 0 where
  pub forward : s.round.count ≤ u.0.round.count
  pub answers : AreUpTo t (flat_map reply_rounds u.0.answers)
  pub message : IsUpTo u.0.round.count u.1

-- the answers of a coordinator
abbrev pub RepliesUpTo : ℕ → CoordinatorState → Type 0
RepliesUpTo t s = AreUpTo t (flat_map reply_rounds s.answers)

rests : (t : ℕ) (s : CoordinatorState) → RepliesUpTo t s → CoordinatorStep t s (s, None)
rests t s h = record { forward = le_refl s.round.count; answers = h; message = tt }

pub no_rounds : (t n : ℕ) → AreUpTo t (flat_map reply_rounds (unanswered n))
no_rounds t zero = none_up_to t
no_rounds t (suc n) = no_rounds t n

pub coordinator_begins : (t : ℕ) (s : CoordinatorState) (r : Round) → RepliesUpTo t s → CoordinatorStep t s (coordinator_begin s r)
coordinator_begins t s r h =
    chosen_where (CoordinatorStep t s) (earlier s.round r) _ _
    (λ e. record { forward = earlier_le s.round r e; answers = no_rounds t s.config.acceptors; message = one_up_to r.count r (le_refl r.count) })
    (rests t s h)

sends : (t : ℕ) (s : CoordinatorState) (v : History) → RepliesUpTo t s → CoordinatorStep t s (record s { value = Some v }, Some (Sent s.round s.number v))
sends t s v h = record { forward = le_refl s.round.count; answers = h; message = one_up_to s.round.count s.round (le_refl s.round.count) }

extends : (t : ℕ) (s : CoordinatorState) (o : Option History) (c : Command) → RepliesUpTo t s → CoordinatorStep t s (extended s o c)
extends t s None c h = rests t s h
extends t s (Some w) c h = chosen (CoordinatorStep t s) _ _ _ (sends t s (push w c) h) (rests t s h)

answering : (t : ℕ) (s : CoordinatorState) → RepliesUpTo t s → CoordinatorStep t s (answered s)
answering t s h = chosen (CoordinatorStep t s) _ _ _ (sends t s (coordinator_choice s) h) (rests t s h)

pub coordinator_takes : (t : ℕ) (s : CoordinatorState) (m : Message) → RepliesUpTo t s → AreUpTo t (message_rounds m) → CoordinatorStep t s (coordinator_take s m)
coordinator_takes t s (Proposed c) h k =
    let u : CoordinatorState = record s { pending = pending_with s.pending c } in
    let step = extends t u s.value c h in
    record { forward = step.forward; answers = step.answers; message = step.message }
coordinator_takes t s (Asked r) h k =
    chosen_where (CoordinatorStep t s) (is_multi r.mode && earlier s.round r) (begun s r, None) (s, None)
    (λ e. record { forward = earlier_le s.round r (right_true (is_multi r.mode) (earlier s.round r) e); answers = no_rounds t s.config.acceptors; message = tt })
    (rests t s h)
coordinator_takes t s (Answered r a q v) h k =
    let reply : Reply = record { round = q; vote = v } in
    let more : RepliesUpTo t (replied s r a q v) = set_up_to t reply_rounds s.answers a (Some reply) h (tail_up_to t r (q ∷ []) k) in
    let step = answering t (replied s r a q v) more in
    chosen (CoordinatorStep t s) (expects s r a) (answered (replied s r a q v)) (s, None)
    (record { forward = step.forward; answers = step.answers; message = step.message })
    (rests t s h)
coordinator_takes t s (Sent r c v) h k = rests t s h
coordinator_takes t s (Voted r a v) h k = rests t s h
