-- No round of a run has a greater count than its top count, and takes bring no greater one.
use Rattle.std.proofs.Common.{◌≡◌, ℕ, zero, suc, ◌<◌, ◌≤◌, true, false, cond, ◌&&◌, List, [], ◌∷◌, ◌++◌, Some, None, inl, inr, refl, sym, ap, ◌∙◌, subst, arith, map}
use Rattle.std.specs.Prelude.{Option, not, nat_eq, nat_lt, slice_get, slice_set}
use Rattle.std.specs.List.{flat_map}
use Rattle.std.specs.Option.{option_to_list}
use Rattle.std.specs.Map.{lookup}
use Rattle.std.specs.BTreeMap.{is_at}
use Rattle.std.specs.Ordering.{is_lt, is_gt, is_eq, nat_cmp, ordering_then}
use Rattle.std.specs.declared.cmp.Ordering.{Ordering}
use Rattle.std.specs.declared.cmp.Ordering.TheVariants.{Less, Equal, Greater}
use Rattle.std.specs.FinSet as set
use Rattle.std.proofs.Math.Nat.{le_refl}
use Rattle.std.proofs.lemmas.Bool.{ltb-true}
use Rattle.std.proofs.lemmas.Bool.Decides.{nat_tests}
use Rattle.gp_history.specs.History.{History, has}
use Rattle.gp_command.specs.declared.command.Command.{Command}
use Rattle.gp_round.specs.Counts.{Counts}
use Rattle.gp_round.specs.declared.round.Round.{Round}
use Rattle.gp_round.specs.Rounds.{earlier, is_fast, is_multi}
use Rattle.gp_msg.specs.Messages.{Message, Proposed, Asked, Answered, Sent, Voted, Stamped, Offered, InEpoch, Final, Entry, maybe_stamped}
use Rattle.gp_msg.specs.declared.node.Node.{Node}
use Rattle.gp_msg.specs.declared.node.Node.TheVariants.{Proposer, Coordinator, Acceptor, Learner}
use Rattle.gp_msg.specs.declared.event.Event.TheVariants.{Begin, Take}
use Rattle.gp_msg.specs.Nodes.{is_present}
use Rattle.gp_run.proofs.Counting.{AreUpTo, none_up_to, cons_up_to, head_up_to, tail_up_to, append_up_to, left_up_to, right_up_to, each_up_to, below_up_to, up_to_below, up_to_each}
use Rattle.gp_run.proofs.RoleRounds.{IsUpTo, two_up_to, AcceptorIsUpTo, acceptor_takes, RepliesUpTo, no_rounds, coordinator_begins, coordinator_takes, learner_takes}
use Rattle.gp_coordinator.specs.State.{CoordinatorState}
use Rattle.gp_coordinator.specs.Table.{begun, coordinator_begin, coordinator_take, pending_with, expects, is_enough, extended, answered}
use Rattle.gp_acceptor.specs.Table.{acceptor_take}
use Rattle.gp_learner.specs.State.{Votes}
use Rattle.gp_learner.specs.Table.{learner_take, vote_of, voter_cmp}
use Rattle.gp_epoch.specs.Cut.{first_checkpoint, cut}
use Rattle.gp_run.specs.Messages.{messages}
use Rattle.gp_run.specs.Legal.{sent_by}
use Rattle.gp_run.specs.Runs.{entry_after, run_onto}
use Rattle.gp_run.specs.TopCount.{message_rounds, reply_rounds, coordinator_rounds, acceptor_rounds, learner_rounds, rounds_below, greatest_count, rounds_of, rounds_in, top_count}
use Rattle.gp_run.specs.States.{coordinator_at, coordinator_acts, acceptor_at, acceptor_acts, learner_at, learner_acts}
use Rattle.gp_coordinator.specs.Epochs.{CoordinatorInEpoch}
use Rattle.gp_coordinator.specs.Epochs as coordinator
use Rattle.gp_acceptor.specs.Epochs.{AcceptorInEpoch}
use Rattle.gp_acceptor.specs.Epochs as acceptor
use Rattle.gp_learner.specs.Epochs.{LearnerInEpoch}
use Rattle.gp_learner.specs.Epochs as learner
use Rattle.gp_run.proofs.Choices.{chosen, with_message}
use Rattle.gp_driver.specs.Sweeps.{takes, swept}
use Rattle.gp_driver.proofs.RunsKeep.{in_either, only}

-- ---- what the tables bring

pub record CoordinatorUpTo (t : ℕ) (s : CoordinatorState) : Type 0 where
  pub round : s.round.count ≤ t
  pub replies : RepliesUpTo t s

record CoordinatorNext (t : ℕ) (u : CoordinatorState × Option Message) : Type 0 where
  pub state : CoordinatorUpTo t u.0
  pub message : IsUpTo t u.1

more_up_to : (t n : ℕ) (o : Option Message) → n ≤ t → IsUpTo n o → IsUpTo t o
more_up_to t n None h k = tt
more_up_to t n (Some m) h k = let l : greatest_count (message_rounds m) ≤ n = k in omega (arith, l, h)

extended_round : (s : CoordinatorState) (o : Option History) (c : Command) → (extended s o c).0.round ≡ s.round
extended_round s None c = refl
extended_round s (Some w) c = chosen (λ (u : CoordinatorState × Option Message). u.0.round ≡ s.round) (not (has w c) && not (is_fast s.round.mode)) _ _ refl refl

answered_round : (s : CoordinatorState) → (answered s).0.round ≡ s.round
answered_round s = chosen (λ (u : CoordinatorState × Option Message). u.0.round ≡ s.round) (is_enough s.config.acceptors _) _ _ refl refl

round_after : (t : ℕ) (s : CoordinatorState) (m : Message) → s.round.count ≤ t → AreUpTo t (message_rounds m) → (coordinator_take s m).0.round.count ≤ t
round_after t s (Proposed c) h k = subst (λ (r : Round). r.count ≤ t) (sym (extended_round (record s { pending = pending_with s.pending c }) s.value c)) h
round_after t s (Asked r) h k = chosen (λ (u : CoordinatorState × Option Message). u.0.round.count ≤ t) (is_multi r.mode && earlier s.round r) (begun s r, None) (s, None) (head_up_to t r [] k) h
round_after t s (Answered r a q v) h k =
    chosen (λ (u : CoordinatorState × Option Message). u.0.round.count ≤ t) (expects s r a) (answered (record s { answers = slice_set s.answers a (Some (record { round = q; vote = v })) })) (s, None)
    (subst (λ (x : Round). x.count ≤ t) (sym (answered_round (record s { answers = slice_set s.answers a (Some (record { round = q; vote = v })) }))) h) h
round_after t s (Sent r c v) h k = h
round_after t s (Voted r a v) h k = h

coordinator_next : (t : ℕ) (s : CoordinatorState) (m : Message) → CoordinatorUpTo t s → AreUpTo t (message_rounds m) → CoordinatorNext t (coordinator_take s m)
coordinator_next t s m h k =
    let step = coordinator_takes t s m h.replies k in
    let r = round_after t s m h.round k in
    record { state = record { round = r; replies = step.answers }; message = more_up_to t _ _ r step.message }

coordinator_next_begin : (t : ℕ) (s : CoordinatorState) (r : Round) → CoordinatorUpTo t s → r.count ≤ t → CoordinatorNext t (coordinator_begin s r)
coordinator_next_begin t s r h k =
    let step = coordinator_begins t s r h.replies in
    let n = chosen (λ (u : CoordinatorState × Option Message). u.0.round.count ≤ t) (earlier s.round r) (begun s r, Some (Asked r)) (s, None) k h.round in
    record { state = record { round = n; replies = step.answers }; message = more_up_to t _ _ n step.message }

-- ---- over epochs

MaybeUpTo : ℕ → Option Stamped → Type 0
MaybeUpTo t o = (m : Stamped) → o ≡ Some m → AreUpTo t (rounds_of m)

nothing_up_to : (t : ℕ) → MaybeUpTo t None
unfolding MaybeUpTo
nothing_up_to t m e = cc

stamped_up_to : (t e : ℕ) (o : Option Message) → IsUpTo t o → MaybeUpTo t (maybe_stamped e o)
unfolding MaybeUpTo
stamped_up_to t e None h m q = cc
stamped_up_to t e (Some (Proposed c)) h m q = subst (λ (x : Stamped). AreUpTo t (rounds_of x)) (let is : Offered c ≡ m = cc in is) (none_up_to t)
stamped_up_to t e (Some (Asked r)) h m q = subst (λ (x : Stamped). AreUpTo t (rounds_of x)) (let is : InEpoch e (Asked r) ≡ m = cc in is) h
stamped_up_to t e (Some (Answered r a p v)) h m q = subst (λ (x : Stamped). AreUpTo t (rounds_of x)) (let is : InEpoch e (Answered r a p v) ≡ m = cc in is) h
stamped_up_to t e (Some (Sent r c v)) h m q = subst (λ (x : Stamped). AreUpTo t (rounds_of x)) (let is : InEpoch e (Sent r c v) ≡ m = cc in is) h
stamped_up_to t e (Some (Voted r a v)) h m q = subst (λ (x : Stamped). AreUpTo t (rounds_of x)) (let is : InEpoch e (Voted r a v) ≡ m = cc in is) h

record CoordinatorOk (t : ℕ) (u : CoordinatorInEpoch × Option Stamped) : Type 0 where
  pub state : CoordinatorUpTo t u.0.state
  pub sent : MaybeUpTo t u.1

record AcceptorOk (t : ℕ) (u : AcceptorInEpoch × Option Stamped) : Type 0 where
  pub state : AcceptorIsUpTo t u.0.state
  pub sent : MaybeUpTo t u.1

record LearnerOk (t : ℕ) (u : LearnerInEpoch × Option Stamped) : Type 0 where
  pub state : AreUpTo t (learner_rounds u.0.state)
  pub sent : MaybeUpTo t u.1

module _ (t : ℕ) where
  coordinator_steps : (s : CoordinatorInEpoch) (u : CoordinatorState × Option Message) → CoordinatorNext t u → CoordinatorOk t (coordinator.stepped s u)
  coordinator_steps s u n = record { state = n.state; sent = stamped_up_to t s.epoch u.1 n.message }

  coordinator_takes_up_to : (s : CoordinatorInEpoch) (m : Stamped) → CoordinatorUpTo t s.state → AreUpTo t (rounds_of m) → CoordinatorOk t (coordinator.take s m)
  coordinator_takes_up_to s (Offered c) h k =
      chosen (CoordinatorOk t) (set.contains s.done c) (s, None) (coordinator.stepped s (coordinator_take s.state (Proposed c)))
      (record { state = h; sent = nothing_up_to t }) (coordinator_steps s _ (coordinator_next t s.state (Proposed c) h (none_up_to t)))
  coordinator_takes_up_to s (InEpoch e m) h k =
      chosen (CoordinatorOk t) (nat_eq e s.epoch) (coordinator.stepped s (coordinator_take s.state m)) (s, None)
      (coordinator_steps s _ (coordinator_next t s.state m h k)) (record { state = h; sent = nothing_up_to t })
  coordinator_takes_up_to s (Final e l v) h k = record {
    state = chosen (λ (x : CoordinatorInEpoch). CoordinatorUpTo t x.state) (nat_lt e s.epoch) (coordinator.settled s v) (coordinator.entered (coordinator.settled s v) (suc e))
        (record { round = h.round; replies = h.replies }) (record { round = omega arith; replies = no_rounds t s.state.config.acceptors });
    sent = nothing_up_to t;
  }

  acceptor_takes_up_to : (s : AcceptorInEpoch) (m : Stamped) → AcceptorIsUpTo t s.state → AreUpTo t (rounds_of m) → AcceptorOk t (acceptor.take s m)
  acceptor_takes_up_to s (Offered c) h k = let n = acceptor_takes t s.state (Proposed c) h (none_up_to t) in record { state = record { round = n.round; voted = n.voted }; sent = stamped_up_to t s.epoch _ n.message }
  acceptor_takes_up_to s (InEpoch e m) h k =
      let n = acceptor_takes t s.state m h k in
      chosen (AcceptorOk t) (nat_eq e s.epoch) (acceptor.stepped s (acceptor_take s.state m)) (s, None)
      (record { state = record { round = n.round; voted = n.voted }; sent = stamped_up_to t s.epoch _ n.message }) (record { state = h; sent = nothing_up_to t })
  acceptor_takes_up_to s (Final e l v) h k = record {
    state = chosen (λ (x : AcceptorInEpoch). AcceptorIsUpTo t x.state) (nat_lt e s.epoch) s (acceptor.entered s (suc e)) h (record { round = omega arith; voted = omega arith });
    sent = nothing_up_to t;
  }

  final_up_to : (e l : ℕ) (v : History) → MaybeUpTo t (Some (Final e l v))
  unfolding MaybeUpTo
  final_up_to e l v m q = subst (λ (x : Stamped). AreUpTo t (rounds_of x)) (let is : Final e l v ≡ m = cc in is) (none_up_to t)

  learner_learns : (s : LearnerInEpoch) (o : Option Command) → AreUpTo t (learner_rounds s.state) → LearnerOk t (learner.learning s o)
  learner_learns s None h = record { state = h; sent = nothing_up_to t }
  learner_learns s (Some z) h = record { state = none_up_to t; sent = final_up_to s.epoch s.state.number (cut s.state.learned) }

  learner_takes_up_to : (s : LearnerInEpoch) (m : Stamped) → AreUpTo t (learner_rounds s.state) → AreUpTo t (rounds_of m) → LearnerOk t (learner.take s m)
  learner_takes_up_to s (Offered c) h k = record { state = h; sent = nothing_up_to t }
  learner_takes_up_to s (InEpoch e (Proposed c)) h k = record { state = h; sent = nothing_up_to t }
  learner_takes_up_to s (InEpoch e (Asked r)) h k = record { state = h; sent = nothing_up_to t }
  learner_takes_up_to s (InEpoch e (Answered r a q v)) h k = record { state = h; sent = nothing_up_to t }
  learner_takes_up_to s (InEpoch e (Sent r c v)) h k = record { state = h; sent = nothing_up_to t }
  learner_takes_up_to s (InEpoch e (Voted r a v)) h k =
      chosen (LearnerOk t) (nat_eq e s.epoch && nat_lt a s.state.config.acceptors) (learner.hearing s (learner_take s.state (Voted r a v))) (s, None)
      (learner_learns (learner.with_state s (learner_take s.state (Voted r a v))) (first_checkpoint (learner_take s.state (Voted r a v)).learned) (learner_takes t s.state (Voted r a v) h k))
      (record { state = h; sent = nothing_up_to t })
  learner_takes_up_to s (Final e l v) h k = record {
    state = chosen (λ (x : LearnerInEpoch). AreUpTo t (learner_rounds x.state)) (nat_eq e s.epoch) (learner.passed s v) s (none_up_to t) h;
    sent = nothing_up_to t;
  }

-- ---- a run

pub record RunUpTo (t : ℕ) (config : Counts) (es : List Entry) : Type 0 where
  pub sent : (k : ℕ) (m : Stamped) → slice_get (messages es) k ≡ Some m → AreUpTo t (rounds_of m)
  pub coordinators : (c : ℕ) → c < config.coordinators → CoordinatorUpTo t (coordinator_at config c es).state
  pub acceptors : (a : ℕ) → a < config.acceptors → AcceptorIsUpTo t (acceptor_at config a es).state
  pub learners : (l : ℕ) → l < config.learners → AreUpTo t (learner_rounds (learner_at config l es).state)

pub top_up_to : (config : Counts) (es : List Entry) → RunUpTo (top_count config es) config es
top_up_to config es =
    let t = top_count config es in
    let all : AreUpTo (top_count config es) (rounds_in config es) = le_refl t in
    let cs = rounds_below config.coordinators (λ c. coordinator_rounds (coordinator_at config c es).state) in
    let xs = rounds_below config.acceptors (λ a. acceptor_rounds (acceptor_at config a es).state) in
    let ls = rounds_below config.learners (λ l. learner_rounds (learner_at config l es).state) in
    let three = left_up_to t _ ls all in
    let two = left_up_to t _ xs three in
    let coordinators = right_up_to t (flat_map rounds_of (messages es)) cs two in
    let acceptors = right_up_to t (flat_map rounds_of (messages es) ++ cs) xs three in
    let learners = right_up_to t ((flat_map rounds_of (messages es) ++ cs) ++ xs) ls all in
    record {
      sent = λ k m e. up_to_each t rounds_of (messages es) k m (left_up_to t (flat_map rounds_of (messages es)) cs two) e;
      coordinators = λ c h. let r = up_to_below t config.coordinators (λ i. coordinator_rounds (coordinator_at config i es).state) coordinators c h in
          record { round = head_up_to t (coordinator_at config c es).state.round _ r; replies = tail_up_to t (coordinator_at config c es).state.round _ r };
      acceptors = λ a h. let r = up_to_below t config.acceptors (λ i. acceptor_rounds (acceptor_at config i es).state) acceptors a h in
          record { round = head_up_to t (acceptor_at config a es).state.round ((acceptor_at config a es).state.voted ∷ []) r; voted = head_up_to t (acceptor_at config a es).state.voted [] (tail_up_to t (acceptor_at config a es).state.round ((acceptor_at config a es).state.voted ∷ []) r) };
      learners = λ l h. up_to_below t config.learners (λ i. learner_rounds (learner_at config i es).state) learners l h;
    }

pub up_to_top : (t : ℕ) (config : Counts) (es : List Entry) → RunUpTo t config es → top_count config es ≤ t
up_to_top t config es run =
    append_up_to t _ _
    (append_up_to t _ _
    (append_up_to t (flat_map rounds_of (messages es)) _
    (each_up_to t rounds_of (messages es) run.sent)
    (below_up_to t config.coordinators (λ c. coordinator_rounds (coordinator_at config c es).state) (λ c h. cons_up_to t (coordinator_at config c es).state.round _ (run.coordinators c h).round (run.coordinators c h).replies)))
    (below_up_to t config.acceptors (λ a. acceptor_rounds (acceptor_at config a es).state) (λ a h. two_up_to t (acceptor_at config a es).state.round (acceptor_at config a es).state.voted (run.acceptors a h).round (run.acceptors a h).voted)))
    (below_up_to t config.learners (λ l. learner_rounds (learner_at config l es).state) (λ l h. run.learners l h))

pub more_rounds : (t n : ℕ) (config : Counts) (es : List Entry) → t ≤ n → RunUpTo t config es → RunUpTo n config es
more_rounds t n config es le run = record {
  sent = λ k m e. let h : greatest_count (rounds_of m) ≤ t = run.sent k m e in omega (arith, h, le);
  coordinators = λ c h. let r = run.coordinators c h in record { round = let a = r.round in omega (arith, a, le); replies = let b : greatest_count (flat_map reply_rounds (coordinator_at config c es).state.answers) ≤ t = r.replies in omega (arith, b, le) };
  acceptors = λ a h. let r = run.acceptors a h in record { round = let x = r.round in omega (arith, x, le); voted = let x = r.voted in omega (arith, x, le) };
  learners = λ l h. let b : greatest_count (learner_rounds (learner_at config l es).state) ≤ t = run.learners l h in omega (arith, b, le);
}

sent_up_to : (t : ℕ) (ms : List Stamped) (o : Option Stamped) → ((k : ℕ) (m : Stamped) → slice_get ms k ≡ Some m → AreUpTo t (rounds_of m)) → MaybeUpTo t o → (k : ℕ) (m : Stamped) → slice_get (ms ++ option_to_list o) k ≡ Some m → AreUpTo t (rounds_of m)
unfolding MaybeUpTo
sent_up_to t ms o all h k m e = elim (in_either ms (option_to_list o) k m e) [
  | inl old ↦ all k m old
  | inr new ↦ h m (only o new.0 m new.1)
]

module _ (t : ℕ) (config : Counts) (es : List Entry) (was : RunUpTo t config es) where
  one_take : (node : Node) (k : ℕ) → is_present config node ≡ true → RunUpTo t config (entry_after config es (Take node k) ∷ es)
  one_take (Proposer p) k there = record { sent = sent_up_to t (messages es) None was.sent (nothing_up_to t); coordinators = was.coordinators; acceptors = was.acceptors; learners = was.learners }
  one_take (Coordinator c) k there =
      let step : (i : ℕ) → i < config.coordinators → CoordinatorOk t (coordinator_acts i (coordinator_at config i es) (messages es) (Take (Coordinator c) k)) = λ i h.
      chosen (CoordinatorOk t) (nat_eq i c) _ _
      (with_message (CoordinatorOk t) (coordinator_at config i es, None) (coordinator.take (coordinator_at config i es)) (slice_get (messages es) k) (record { state = was.coordinators i h; sent = nothing_up_to t }) (λ m e. coordinator_takes_up_to t (coordinator_at config i es) m (was.coordinators i h) (was.sent k m e)))
      (record { state = was.coordinators i h; sent = nothing_up_to t }) in
      record {
        sent = sent_up_to t (messages es) (sent_by config es (Coordinator c) (Take (Coordinator c) k)) was.sent (step c (ltb-true c config.coordinators there)).sent;
        coordinators = λ i h. (step i h).state;
        acceptors = was.acceptors;
        learners = was.learners;
      }
  one_take (Acceptor a) k there =
      let step : (i : ℕ) → i < config.acceptors → AcceptorOk t (acceptor_acts i (acceptor_at config i es) (messages es) (Take (Acceptor a) k)) = λ i h.
      chosen (AcceptorOk t) (nat_eq i a) _ _
      (with_message (AcceptorOk t) (acceptor_at config i es, None) (acceptor.take (acceptor_at config i es)) (slice_get (messages es) k) (record { state = was.acceptors i h; sent = nothing_up_to t }) (λ m e. acceptor_takes_up_to t (acceptor_at config i es) m (was.acceptors i h) (was.sent k m e)))
      (record { state = was.acceptors i h; sent = nothing_up_to t }) in
      record {
        sent = sent_up_to t (messages es) (sent_by config es (Acceptor a) (Take (Acceptor a) k)) was.sent (step a (ltb-true a config.acceptors there)).sent;
        coordinators = was.coordinators;
        acceptors = λ i h. (step i h).state;
        learners = was.learners;
      }
  one_take (Learner l) k there =
      let step : (i : ℕ) → i < config.learners → LearnerOk t (learner_acts i (learner_at config i es) (messages es) (Take (Learner l) k)) = λ i h.
      chosen (LearnerOk t) (nat_eq i l) _ _
      (with_message (LearnerOk t) (learner_at config i es, None) (learner.take (learner_at config i es)) (slice_get (messages es) k) (record { state = was.learners i h; sent = nothing_up_to t }) (λ m e. learner_takes_up_to t (learner_at config i es) m (was.learners i h) (was.sent k m e)))
      (record { state = was.learners i h; sent = nothing_up_to t }) in
      record {
        sent = sent_up_to t (messages es) (sent_by config es (Learner l) (Take (Learner l) k)) was.sent (step l (ltb-true l config.learners there)).sent;
        coordinators = was.coordinators;
        acceptors = was.acceptors;
        learners = λ i h. (step i h).state;
      }

  pub one_begin : (c : ℕ) (r : Round) → c < config.coordinators → r.count ≤ t → RunUpTo t config (entry_after config es (Begin c r) ∷ es)
  one_begin c r there le =
      let step : (i : ℕ) → i < config.coordinators → CoordinatorOk t (coordinator_acts i (coordinator_at config i es) (messages es) (Begin c r)) = λ i h.
      chosen (CoordinatorOk t) (nat_eq i c) _ _
      (coordinator_steps t (coordinator_at config i es) _ (coordinator_next_begin t (coordinator_at config i es).state r (was.coordinators i h) le))
      (record { state = was.coordinators i h; sent = nothing_up_to t }) in
      record {
        sent = sent_up_to t (messages es) (sent_by config es (Coordinator c) (Begin c r)) was.sent (step c there).sent;
        coordinators = λ i h. (step i h).state;
        acceptors = was.acceptors;
        learners = was.learners;
      }

-- what each take of these nodes keeps, a sweep keeps
module _ (config : Counts) (P : List Entry → Type 0) (node : ℕ → Node) where
  kept_while_taking : (i : ℕ) (ks : List ℕ) (es : List Entry) → ((fs : List Entry) (k : ℕ) → P fs → P (entry_after config fs (Take (node i) k) ∷ fs)) → P es → P (run_onto config es (takes (node i) ks))
  kept_while_taking i [] es keeps h = h
  kept_while_taking i (k ∷ ks) es keeps h = kept_while_taking i ks (entry_after config es (Take (node i) k) ∷ es) keeps (keeps es k h)

  pub kept_while_swept : (n : ℕ) (ks : List ℕ) (es : List Entry) → ((i : ℕ) → i < n → (fs : List Entry) (k : ℕ) → P fs → P (entry_after config fs (Take (node i) k) ∷ fs)) → P es → P (swept config node n ks es)
  kept_while_swept zero ks es keeps h = h
  kept_while_swept (suc n) ks es keeps h = kept_while_taking n ks (swept config node n ks es) (keeps n (omega arith)) (kept_while_swept n ks es (λ i l. keeps i (omega (arith, l))) h)

pub swept_up_to : (t : ℕ) (config : Counts) (node : ℕ → Node) (n : ℕ) (ks : List ℕ) (es : List Entry) → ((i : ℕ) → i < n → is_present config (node i) ≡ true) → RunUpTo t config es → RunUpTo t config (swept config node n ks es)
swept_up_to t config node n ks es there h = kept_while_swept config (RunUpTo t config) node n ks es (λ i l fs k was. one_take t config fs was (node i) k (there i l)) h

-- ---- a round above all others is new to all

first_less : (o rest : Ordering) → is_lt o ≡ true → is_lt (ordering_then o rest) ≡ true
first_less Less rest e = refl
first_less Equal rest e = cc
first_less Greater rest e = cc

less : (a b : ℕ) → a < b → is_lt (nat_cmp a b) ≡ true
less a b l = grind (arith, nat_tests, l)

pub below_is_earlier : (i j : Round) → i.count < j.count → earlier i j ≡ true
below_is_earlier i j h = first_less (nat_cmp i.count j.count) _ (less i.count j.count h)

-- no vote is held in a round above all that a learner knows
pub no_vote_above : (t : ℕ) (votes : Votes) (r : Round) (i : ℕ) → AreUpTo t (map (λ v. v.0.0) votes) → t < r.count → vote_of votes r i ≡ None
no_vote_above t [] r i h l = refl
no_vote_above t (x ∷ votes) r i h l =
    ap (λ b. cond b (Some x.1) (lookup (is_at (voter_cmp (r, i))) votes)) (other (nat_cmp r.count x.0.0.count) _ _ (more r.count x.0.0.count (let c = head_up_to t x.0.0 (map (λ v. v.0.0) votes) h in omega (arith, c, l))))
    ∙ no_vote_above t votes r i (tail_up_to t x.0.0 (map (λ v. v.0.0) votes) h) l where
      more : (a b : ℕ) → b < a → is_gt (nat_cmp a b) ≡ true
      more a b g = grind (arith, nat_tests, g)

      other : (o p q : Ordering) → is_gt o ≡ true → is_eq (ordering_then (ordering_then o p) q) ≡ false
      other Less p q e = cc
      other Equal p q e = cc
      other Greater p q e = refl
