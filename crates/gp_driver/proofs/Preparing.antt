-- Before the first pass: all Final messages are taken, and then all proposals by coordinator 0.
use Rattle.std.proofs.Common.{◌≡◌, ℕ, suc, ◌+◌, ◌*◌, ◌<◌, ◌≤◌, Bool, true, false, cond, ◌&&◌, ◌||◌, List, [], ◌∷◌, ◌++◌, length, Some, None, inl, inr, refl, sym, ap, ◌∙◌, subst, arith, append_assoc}
use Rattle.std.specs.Prelude.{Option, not, nat_eq, nat_lt, slice_get, filter, max, ◌⊎◌}
use Rattle.std.specs.FinSet as set
use Rattle.std.specs.List.{list_any}
use Rattle.std.specs.Option.{option_to_list}
use Rattle.std.proofs.lemmas.Bool.{lt-ltb, ltb-true, ltb-false, eqb-true, eqb-false}
use Rattle.std.proofs.lemmas.List.{append-nil}
use Rattle.gp_command.specs.declared.command.Command.{Command}
use Rattle.gp_command.specs.Conflict.{same}
use Rattle.gp_command.proofs.ConflictLemmas.{same_itself, same-true}
use Rattle.gp_history.specs.History.{History, has, push}
use Rattle.gp_history.proofs.Tests.{any-append, left_of, right_of, one_of, never, not_true}
use Rattle.gp_round.specs.Counts.{Counts}
use Rattle.gp_round.specs.Rounds.{is_fast}
use Rattle.gp_msg.specs.Messages.{Message, Proposed, Asked, Answered, Sent, Voted, Stamped, Offered, InEpoch, Final, Entry, maybe_stamped}
use Rattle.gp_msg.specs.declared.node.Node.TheVariants.{Coordinator, Acceptor, Learner}
use Rattle.gp_coordinator.specs.State.{CoordinatorState}
use Rattle.gp_coordinator.specs.Table.{coordinator_take, pending_with, extended}
use Rattle.gp_msg.specs.declared.message.MsgKind.TheVariants as Kind
use Rattle.gp_driver.specs.Kinds.{kind_in, kind_number}
use Rattle.gp_run.specs.Messages.{messages}
use Rattle.gp_run.specs.Legal.{Legal}
use Rattle.gp_run.specs.TopCount.{top_count}
use Rattle.gp_run.specs.States.{coordinator_at, acceptor_at, learner_at}
use Rattle.gp_coordinator.specs.Epochs.{CoordinatorInEpoch}
use Rattle.gp_coordinator.specs.Epochs as coordinator
use Rattle.gp_acceptor.specs.Epochs.{AcceptorInEpoch}
use Rattle.gp_acceptor.specs.Epochs as acceptor
use Rattle.gp_learner.specs.Epochs.{LearnerInEpoch}
use Rattle.gp_learner.specs.Epochs as learner
use Rattle.gp_run.proofs.Choices.{chosen}
use Rattle.gp_driver.specs.Sweeps.{is_of, places, places_from, swept}
use Rattle.gp_driver.specs.Settling.{closings, prepared}
use Rattle.gp_driver.proofs.Lists.{Picked, StandFrom, stand_behind, picks, length-picked}
use Rattle.gp_driver.proofs.Sweeping.{none_sent, run}
use Rattle.gp_driver.proofs.Roles.{CoordinatorsTook, coordinators_take, AcceptorsTook, acceptors_take, LearnersTook, learners_take}
use Rattle.gp_driver.proofs.Closings.{AllSound, raised, closed_from, closed_by, closed-append, AreInOrder}
use Rattle.gp_driver.proofs.Counting.{opens, opens-append, nothing_opens}
use Rattle.gp_driver.proofs.RunsKeep.{RunKept, run_kept}
use Rattle.gp_driver.proofs.TopRounds.{RunUpTo, top_up_to, up_to_top, swept_up_to}
use Rattle.gp_driver.proofs.DoneKeep.{done_with, done_is_closed}
use Rattle.gp_driver.proofs.Offers.{is_offer, final_has, is_offered, is_closed, AreWithin, one_within, both_within}
use Rattle.gp_driver.proofs.Finishing.{IsReady, kept_apart}

-- the Final messages among xs were taken by all: nobody is in an epoch that they close, and their commands are done
record HaveTaken (config : Counts) (t : ℕ) (ms xs : List Stamped) (es : List Entry) : Type 0 where
  pub same_messages : messages es ≡ ms
  pub legal : Legal config es
  pub leads : closed_by xs ≤ (coordinator_at config 0 es).epoch
  pub answers : (a : ℕ) → a < config.acceptors → closed_by xs ≤ (acceptor_at config a es).epoch
  pub hears : (l : ℕ) → l < config.learners → closed_by xs ≤ (learner_at config l es).epoch
  pub done : (c : Command) → is_closed xs c ≡ true → set.contains (coordinator_at config 0 es).done c ≡ true
  pub apart : (c : Command) → is_closed xs c ≡ true → list_any (same c) (coordinator_at config 0 es).state.pending ≡ false
  pub rounds : RunUpTo t config es

-- ---- what a Final message makes of a state

leader_after : (s : CoordinatorInEpoch) (e l : ℕ) (v : History) (n : ℕ) → n ≤ s.epoch → e ≤ n → max n (suc e) ≤ (coordinator.take s (Final e l v)).0.epoch
leader_after s e l v n h k = by (nat_lt e s.epoch) refl where
  by : (b : Bool) → nat_lt e s.epoch ≡ b → max n (suc e) ≤ (cond b (coordinator.settled s v) (coordinator.entered (coordinator.settled s v) (suc e))).epoch
  by true q = let lt = ltb-true e s.epoch q in omega (arith, lt, h)
  by false q = let ge = ltb-false e s.epoch q in omega (arith, ge, h, k)

voter_after : (s : AcceptorInEpoch) (e l : ℕ) (v : History) (n : ℕ) → n ≤ s.epoch → e ≤ n → max n (suc e) ≤ (acceptor.take s (Final e l v)).0.epoch
voter_after s e l v n h k = by (nat_lt e s.epoch) refl where
  by : (b : Bool) → nat_lt e s.epoch ≡ b → max n (suc e) ≤ (cond b s (acceptor.entered s (suc e))).epoch
  by true q = let lt = ltb-true e s.epoch q in omega (arith, lt, h)
  by false q = let ge = ltb-false e s.epoch q in omega (arith, ge, h, k)

hearer_after : (s : LearnerInEpoch) (e l : ℕ) (v : History) (n : ℕ) → n ≤ s.epoch → e ≤ n → max n (suc e) ≤ (learner.take s (Final e l v)).0.epoch
hearer_after s e l v n h k = by (nat_eq e s.epoch) refl where
  by : (b : Bool) → nat_eq e s.epoch ≡ b → max n (suc e) ≤ (cond b (learner.passed s v) s).epoch
  by true q = let is = eqb-true e s.epoch q in omega (arith, is, h)
  by false q = let isnt : e ≡ s.epoch → ⊥ = eqb-false e s.epoch q in omega (arith, isnt, h, k)

-- done and pending are the same whether the epoch is entered or not
both_ways : (P : CoordinatorInEpoch → Type 0) (s : CoordinatorInEpoch) (e l : ℕ) (v : History) → P (coordinator.settled s v) → P (coordinator.entered (coordinator.settled s v) (suc e)) → P (coordinator.take s (Final e l v)).0
both_ways P s e l v a b = chosen P (nat_lt e s.epoch) (coordinator.settled s v) (coordinator.entered (coordinator.settled s v) (suc e)) a b

or_false : (b : Bool) → (b || false) ≡ b
or_false true = refl
or_false false = refl

closed_with : (xs : List Stamped) (m : Stamped) (c : Command) → is_closed (xs ++ m ∷ []) c ≡ (is_closed xs c || final_has c m)
closed_with xs m c = any-append (final_has c) xs (m ∷ []) ∙ ap (λ b. is_closed xs c || b) (or_false (final_has c m))

closed-snoc : (n : ℕ) (xs : List Stamped) (m : Stamped) → closed_from n (xs ++ m ∷ []) ≡ raised (closed_from n xs) m
closed-snoc n [] m = refl
closed-snoc n (x ∷ xs) m = closed-snoc (raised n x) xs m

module _ (config : Counts) (lead : 0 < config.coordinators) (t : ℕ) (ms : List Stamped) where
  -- ---- one Final message

  module _ (xs : List Stamped) (es : List Entry) (k e l : ℕ) (v : History) (here : slice_get ms k ≡ Some (Final e l v)) (order : e ≤ closed_by xs) (was : HaveTaken config t ms xs es) where
    took1 : CoordinatorsTook config 1 (Final e l v ∷ []) es (swept config Coordinator 1 (k ∷ []) es)
    took1 = coordinators_take config 1 (k ∷ []) (Final e l v ∷ []) es (ap (λ zs. slice_get zs k) was.same_messages ∙ here, tt)

    sent1 : messages (swept config Coordinator 1 (k ∷ []) es) ≡ ms
    sent1 = took1.sent ∙ append-nil (messages es) ∙ was.same_messages

    took2 : AcceptorsTook config (Final e l v ∷ []) (swept config Coordinator 1 (k ∷ []) es) (swept config Acceptor config.acceptors (k ∷ []) (swept config Coordinator 1 (k ∷ []) es))
    took2 = acceptors_take config (k ∷ []) (Final e l v ∷ []) (swept config Coordinator 1 (k ∷ []) es) (ap (λ zs. slice_get zs k) sent1 ∙ here, tt)

    abbrev es2 : List Entry
    es2 = swept config Acceptor config.acceptors (k ∷ []) (swept config Coordinator 1 (k ∷ []) es)

    sent2 : messages es2 ≡ ms
    sent2 = took2.sent ∙ (λ i. sent1 i ++ none_sent (λ a. (run acceptor.take (acceptor_at config a (swept config Coordinator 1 (k ∷ []) es)) (Final e l v ∷ [])).1) config.acceptors (λ a h. refl) i) ∙ append-nil ms

    abbrev es3 : List Entry
    es3 = swept config Learner config.learners (k ∷ []) es2

    took3 : LearnersTook config (Final e l v ∷ []) es2 (swept config Learner config.learners (k ∷ []) es2)
    took3 = learners_take config (k ∷ []) (Final e l v ∷ []) es2 (ap (λ zs. slice_get zs k) sent2 ∙ here, tt)

    sent3 : messages es3 ≡ ms
    sent3 = took3.sent ∙ (λ i. sent2 i ++ none_sent (λ j. (run learner.take (learner_at config j es2) (Final e l v ∷ [])).1) config.learners (λ j h. refl) i) ∙ append-nil ms

    leader : coordinator_at config 0 es3 ≡ (coordinator.take (coordinator_at config 0 es) (Final e l v)).0
    leader = took3.coordinators 0 ∙ took2.coordinators 0 ∙ took1.coordinators 0 (omega arith)

    after : closed_by (xs ++ Final e l v ∷ []) ≡ max (closed_by xs) (suc e)
    after = closed-snoc 0 xs (Final e l v)

    taken_by_all : HaveTaken config t ms (xs ++ Final e l v ∷ []) es3
    taken_by_all = record {
      same_messages = sent3;
      legal = took3.legal (took2.legal (took1.legal lead was.legal));
      leads = let a = leader_after (coordinator_at config 0 es) e l v (closed_by xs) was.leads order in let b = ap (λ (s : CoordinatorInEpoch). s.epoch) leader in omega (arith, a, b, after);
      answers = λ a h.
          let is : acceptor_at config a es3 ≡ (acceptor.take (acceptor_at config a es) (Final e l v)).0 = took3.acceptors a ∙ took2.acceptors a h ∙ ap (λ (s : AcceptorInEpoch). (acceptor.take s (Final e l v)).0) (took1.acceptors a) in
          let x = voter_after (acceptor_at config a es) e l v (closed_by xs) (was.answers a h) order in
          let b = ap (λ (s : AcceptorInEpoch). s.epoch) is in omega (arith, x, b, after);
      hears = λ j h.
          let is : learner_at config j es3 ≡ (learner.take (learner_at config j es) (Final e l v)).0 = took3.learners j h ∙ ap (λ (s : LearnerInEpoch). (learner.take s (Final e l v)).0) (took2.learners j ∙ took1.learners j) in
          let x = hearer_after (learner_at config j es) e l v (closed_by xs) (was.hears j h) order in
          let b = ap (λ (s : LearnerInEpoch). s.epoch) is in omega (arith, x, b, after);
      done = λ c h.
          let s = coordinator_at config 0 es in
          let there : set.contains (set.union s.done v.commands) c ≡ true = done_with s v c ∙ one_of (is_closed xs c) (has v c) (sym (closed_with xs (Final e l v) c) ∙ h) (λ q. left_of (set.contains s.done c) (has v c) (was.done c q)) (λ q. right_of (set.contains s.done c) (has v c) q) in
          ap (λ (x : CoordinatorInEpoch). set.contains x.done c) leader ∙ both_ways (λ x. set.contains x.done c ≡ true) s e l v there there;
      apart = λ c h.
          let s = coordinator_at config 0 es in
          let gone : list_any (same c) (filter (λ d. not (has v d)) s.state.pending) ≡ false = not_true _ (λ q.
          let r = kept_apart v s.state.pending c q in
          one_of (is_closed xs c) (has v c) (sym (closed_with xs (Final e l v) c) ∙ h) (λ a. never (list_any (same c) s.state.pending) r.0 (was.apart c a)) (λ a. never (has v c) a r.1)) in
          ap (λ (x : CoordinatorInEpoch). list_any (same c) x.state.pending) leader ∙ both_ways (λ x. list_any (same c) x.state.pending ≡ false) s e l v gone gone;
      rounds =
          swept_up_to t config Learner config.learners (k ∷ []) es2 (λ i h. lt-ltb i config.learners h)
          (swept_up_to t config Acceptor config.acceptors (k ∷ []) (swept config Coordinator 1 (k ∷ []) es) (λ i h. lt-ltb i config.acceptors h)
          (swept_up_to t config Coordinator 1 (k ∷ []) es (λ i h. lt-ltb i config.coordinators (omega (arith, h, lead))) was.rounds));
    }

    longer : length es3 ≡ length es + (config.acceptors + config.learners + 1)
    longer = let a = took1.entries in let b = took2.entries in let c = took3.entries in omega (arith, a, b, c)

  -- ---- all of them

  -- a message that closes nothing
  passed_over : (xs : List Stamped) (m : Stamped) (es : List Entry) → ((c : Command) → final_has c m ≡ false) → ((n : ℕ) → raised n m ≡ n) → HaveTaken config t ms xs es → HaveTaken config t ms (xs ++ m ∷ []) es
  passed_over xs m es none still was =
      let n : closed_by (xs ++ m ∷ []) ≡ closed_by xs = closed-snoc 0 xs m ∙ still (closed_by xs) in
      let old : (c : Command) → is_closed (xs ++ m ∷ []) c ≡ true → is_closed xs c ≡ true = λ c h. sym (closed_with xs m c ∙ ap (λ b. is_closed xs c || b) (none c) ∙ or_false (is_closed xs c)) ∙ h in
      record {
        same_messages = was.same_messages;
        legal = was.legal;
        leads = let a = was.leads in omega (arith, a, n);
        answers = λ a h. let x = was.answers a h in omega (arith, x, n);
        hears = λ l h. let x = was.hears l h in omega (arith, x, n);
        done = λ c h. was.done c (old c h);
        apart = λ c h. was.apart c (old c h);
        rounds = was.rounds;
      }

  record AllTaken (ks : List ℕ) (ys xs : List Stamped) (es : List Entry) : Type 0 where
    pub taken : HaveTaken config t ms (xs ++ ys) (closings config ks es)
    pub entries : length (closings config ks es) ≡ length es + length ks * (config.acceptors + config.learners + 1)

  along : (m : Stamped) (ys xs : List Stamped) (zs : List Entry) → HaveTaken config t ms ((xs ++ m ∷ []) ++ ys) zs → HaveTaken config t ms (xs ++ m ∷ ys) zs
  along m ys xs zs h = subst (λ x. HaveTaken config t ms x zs) (append_assoc xs (m ∷ []) ys) h

  skipped : (ks : List ℕ) (m : Stamped) (ys xs : List Stamped) (es : List Entry) → AllTaken ks ys (xs ++ m ∷ []) es → AllTaken ks (m ∷ ys) xs es
  skipped ks m ys xs es r = record { taken = along m ys xs _ r.taken; entries = r.entries }

  not_closing : (m : Message) → nat_eq (kind_number (kind_in m)) 5 ≡ false
  not_closing (Proposed c) = refl
  not_closing (Asked r) = refl
  not_closing (Answered r a q v) = refl
  not_closing (Sent r c v) = refl
  not_closing (Voted r a v) = refl

  all_taken : (n : ℕ) (ys xs : List Stamped) (es : List Entry) → StandFrom ms n ys → AreInOrder (closed_by xs) ys → HaveTaken config t ms xs es → AllTaken (places_from Kind.Final n ys) ys xs es
  all_taken n [] xs es s o h = record { taken = subst (λ x. HaveTaken config t ms x es) (sym (append-nil xs)) h; entries = omega arith }
  all_taken n (Offered d ∷ ys) xs es s o h =
      skipped (places_from Kind.Final (suc n) ys) (Offered d) ys xs es
      (all_taken (suc n) ys (xs ++ Offered d ∷ []) es s.1 (subst (λ m. AreInOrder m ys) (sym (closed-snoc 0 xs (Offered d))) o.1) (passed_over xs (Offered d) es (λ c. refl) (λ m. refl) h))
  all_taken n (InEpoch e m ∷ ys) xs es s o h =
      subst (λ b. AllTaken (cond b (n ∷ places_from Kind.Final (suc n) ys) (places_from Kind.Final (suc n) ys)) (InEpoch e m ∷ ys) xs es) (sym (not_closing m))
      (skipped (places_from Kind.Final (suc n) ys) (InEpoch e m) ys xs es
      (all_taken (suc n) ys (xs ++ InEpoch e m ∷ []) es s.1 (subst (λ i. AreInOrder i ys) (sym (closed-snoc 0 xs (InEpoch e m))) o.1) (passed_over xs (InEpoch e m) es (λ c. refl) (λ i. refl) h)))
  all_taken n (Final e l v ∷ ys) xs es s o h =
      let next = taken_by_all xs es n e l v s.0 o.0 h in
      let r = all_taken (suc n) ys (xs ++ Final e l v ∷ []) (es3 xs es n e l v s.0 o.0 h) s.1 (subst (λ i. AreInOrder i ys) (sym (closed-snoc 0 xs (Final e l v))) o.1) next in
      record { taken = along (Final e l v) ys xs _ r.taken; entries = let a = r.entries in let b = longer xs es n e l v s.0 o.0 h in omega (arith, a, b) }

-- ---- proposals

-- what is pending and done once proposals were taken
record AreProposed (s : CoordinatorInEpoch) (xs : List Stamped) (u : CoordinatorInEpoch × List Stamped) : Type 0 where
  pub epoch : u.0.epoch ≡ s.epoch
  pub done : u.0.done ≡ s.done
  pub old : (c : Command) → list_any (same c) s.state.pending ≡ true → list_any (same c) u.0.state.pending ≡ true
  pub new : (c : Command) → is_offered xs c ≡ true → (set.contains s.done c ≡ true) ⊎ (list_any (same c) u.0.state.pending ≡ true)
  pub from : (c : Command) → list_any (same c) u.0.state.pending ≡ true → (list_any (same c) s.state.pending ≡ true) ⊎ (set.contains s.done c ≡ false)
  pub calm : AreWithin u.1

-- of one proposal
record OneProposed (s : CoordinatorInEpoch) (d : Command) (u : CoordinatorInEpoch × Option Stamped) : Type 0 where
  pub epoch : u.0.epoch ≡ s.epoch
  pub done : u.0.done ≡ s.done
  pub old : (c : Command) → list_any (same c) s.state.pending ≡ true → list_any (same c) u.0.state.pending ≡ true
  pub new : (set.contains s.done d ≡ true) ⊎ (list_any (same d) u.0.state.pending ≡ true)
  pub from : (c : Command) → list_any (same c) u.0.state.pending ≡ true → (list_any (same c) s.state.pending ≡ true) ⊎ (set.contains s.done c ≡ false)
  pub calm : AreWithin (option_to_list u.1)

nothing_within : AreWithin []
nothing_within = record { offers = λ c. refl; has_none = λ c. refl; closes = λ n. refl }

pending_old : (xs : List Command) (d c : Command) → list_any (same c) xs ≡ true → list_any (same c) (pending_with xs d) ≡ true
pending_old xs d c h = chosen (λ ys. list_any (same c) ys ≡ true) (list_any (same d) xs) xs (xs ++ d ∷ []) h (any-append (same c) xs (d ∷ []) ∙ left_of (list_any (same c) xs) _ h)

pending_new : (xs : List Command) (d : Command) → list_any (same d) (pending_with xs d) ≡ true
pending_new xs d = by (list_any (same d) xs) refl where
  by : (b : Bool) → list_any (same d) xs ≡ b → list_any (same d) (cond b xs (xs ++ d ∷ [])) ≡ true
  by true q = q
  by false q = any-append (same d) xs (d ∷ []) ∙ right_of (list_any (same d) xs) (same d d || false) (left_of (same d d) false (same_itself d))

pending_from : (xs : List Command) (d c : Command) → list_any (same c) (pending_with xs d) ≡ true → (list_any (same c) xs ≡ true) ⊎ (c ≡ d)
pending_from xs d c h = by (list_any (same d) xs) h where
  by : (b : Bool) → list_any (same c) (cond b xs (xs ++ d ∷ [])) ≡ true → (list_any (same c) xs ≡ true) ⊎ (c ≡ d)
  by true q = inl q
  by false q = one_of (list_any (same c) xs) (same c d || false) (sym (any-append (same c) xs (d ∷ [])) ∙ q) (λ a. inl a) (λ a. one_of (same c d) false a (λ b. inr (same-true c d b)) (λ b. absurd cc))

extended_pending : (s : CoordinatorState) (o : Option History) (d : Command) → (extended s o d).0.pending ≡ s.pending
extended_pending s None d = refl
extended_pending s (Some w) d = chosen (λ (u : CoordinatorState × Option Message). u.0.pending ≡ s.pending) _ _ _ refl refl

extended_sent : (e : ℕ) (s : CoordinatorState) (o : Option History) (d : Command) → AreWithin (option_to_list (maybe_stamped e (extended s o d).1))
extended_sent e s None d = nothing_within
extended_sent e s (Some w) d =
    chosen (λ (u : CoordinatorState × Option Message). AreWithin (option_to_list (maybe_stamped e u.1))) (not (has w d) && not (is_fast s.round.mode)) (record s { value = Some (push w d) }, Some (Sent s.round s.number (push w d))) (s, None)
    (one_within e (Sent s.round s.number (push w d))) nothing_within

one_proposed : (s : CoordinatorInEpoch) (d : Command) → OneProposed s d (coordinator.take s (Offered d))
one_proposed s d = by (set.contains s.done d) refl where
  after : (coordinator_take s.state (Proposed d)).0.pending ≡ pending_with s.state.pending d
  after = extended_pending (record s.state { pending = pending_with s.state.pending d }) s.state.value d

  by : (b : Bool) → set.contains s.done d ≡ b → OneProposed s d (cond b (s, None) (coordinator.stepped s (coordinator_take s.state (Proposed d))))
  by true q = record { epoch = refl; done = refl; old = λ c h. h; new = inl q; from = λ c h. inl h; calm = nothing_within }
  by false q = record {
    epoch = refl;
    done = refl;
    old = λ c h. ap (list_any (same c)) after ∙ pending_old s.state.pending d c h;
    new = inr (ap (list_any (same d)) after ∙ pending_new s.state.pending d);
    from = λ c h. elim (pending_from s.state.pending d c (sym (ap (list_any (same c)) after) ∙ h)) [ inl a ↦ inl a | inr a ↦ inr (ap (set.contains s.done) a ∙ q) ];
    calm = extended_sent s.epoch (record s.state { pending = pending_with s.state.pending d }) s.state.value d;
  }

all_proposed : (s : CoordinatorInEpoch) (xs : List Stamped) → AllSound xs → AreProposed s (filter (is_of Kind.Propose) xs) (run coordinator.take s (filter (is_of Kind.Propose) xs))
all_proposed s [] told = record { epoch = refl; done = refl; old = λ c h. h; new = λ c h. absurd cc; from = λ c h. inl h; calm = nothing_within }
all_proposed s (Offered d ∷ xs) told =
    let one = one_proposed s d in
    let rest = all_proposed (coordinator.take s (Offered d)).0 xs (λ k m e. told (suc k) m e) in
    record {
      epoch = rest.epoch ∙ one.epoch;
      done = rest.done ∙ one.done;
      old = λ c h. rest.old c (one.old c h);
      new = λ c h. one_of (same c d) (is_offered (filter (is_of Kind.Propose) xs) c) h
          (λ q. subst (λ x. (set.contains s.done x ≡ true) ⊎ (list_any (same x) (run coordinator.take (coordinator.take s (Offered d)).0 (filter (is_of Kind.Propose) xs)).0.state.pending ≡ true)) (sym (same-true c d q)) (elim one.new [ inl a ↦ inl a | inr a ↦ inr (rest.old d a) ]))
          (λ q. elim (rest.new c q) [ inl a ↦ inl (sym (ap (λ x. set.contains x c) one.done) ∙ a) | inr a ↦ inr a ]);
      from = λ c h. elim (rest.from c h) [ inl a ↦ one.from c a | inr a ↦ inr (sym (ap (λ x. set.contains x c) one.done) ∙ a) ];
      calm = both_within (option_to_list (coordinator.take s (Offered d)).1) (run coordinator.take (coordinator.take s (Offered d)).0 (filter (is_of Kind.Propose) xs)).1 one.calm rest.calm;
    }
all_proposed s (InEpoch e (Proposed c) ∷ xs) told = absurd (told 0 (InEpoch e (Proposed c)) refl)
all_proposed s (InEpoch e (Asked r) ∷ xs) told = all_proposed s xs (λ k m q. told (suc k) m q)
all_proposed s (InEpoch e (Answered r a q v) ∷ xs) told = all_proposed s xs (λ k m q. told (suc k) m q)
all_proposed s (InEpoch e (Sent r c v) ∷ xs) told = all_proposed s xs (λ k m q. told (suc k) m q)
all_proposed s (InEpoch e (Voted r a v) ∷ xs) told = all_proposed s xs (λ k m q. told (suc k) m q)
all_proposed s (Final e l v ∷ xs) told = all_proposed s xs (λ k m q. told (suc k) m q)

-- ---- both

pub record IsPrepared (config : Counts) (es : List Entry) : Type 0 where
  pub ready : IsReady config (prepared config es) (closed_by (messages es))
  pub offers : (c : Command) → is_offered (messages (prepared config es)) c ≡ is_offered (messages es) c
  pub opened : (p : Command → Bool) → opens p (messages (prepared config es)) ≡ opens p (messages es)
  pub rounds : top_count config (prepared config es) ≤ top_count config es
  pub entries : length (prepared config es) ≡ length es + (length (places Kind.Final 0 (messages es)) * (config.acceptors + config.learners + 1) + length (places Kind.Propose 0 (messages es)))

module _ (config : Counts) (lead : 0 < config.coordinators) (es : List Entry) (legal : Legal config es) where
  kept : RunKept config es
  kept = run_kept config es legal

  nothing_taken : HaveTaken config (top_count config es) (messages es) [] es
  nothing_taken = record {
    same_messages = refl;
    legal = legal;
    leads = omega arith;
    answers = λ a h. omega arith;
    hears = λ l h. omega arith;
    done = λ c h. absurd cc;
    apart = λ c h. absurd cc;
    rounds = top_up_to config es;
  }

  abbrev mid : List Entry
  mid = closings config (places_from Kind.Final 0 (messages es)) es

  finals_taken : AllTaken config lead (top_count config es) (messages es) (places_from Kind.Final 0 (messages es)) (messages es) [] es
  finals_taken = all_taken config lead (top_count config es) (messages es) 0 (messages es) [] es (stand_behind [] (messages es)) kept.in_order nothing_taken

  taken : HaveTaken config (top_count config es) (messages es) (messages es) mid
  taken = finals_taken.taken

  kept_mid : RunKept config mid
  kept_mid = run_kept config mid taken.legal

  picked : Picked (messages mid) (places Kind.Propose 0 (messages mid)) (filter (is_of Kind.Propose) (messages es))
  picked = subst (λ ms. Picked ms (places_from Kind.Propose 0 ms) (filter (is_of Kind.Propose) (messages es))) (sym taken.same_messages) (picks (messages es) Kind.Propose 0 (messages es) (stand_behind [] (messages es)))

  pub took : CoordinatorsTook config 1 (filter (is_of Kind.Propose) (messages es)) mid (prepared config es)
  took = coordinators_take config 1 (places Kind.Propose 0 (messages mid)) (filter (is_of Kind.Propose) (messages es)) mid picked

  proposed : AreProposed (coordinator_at config 0 mid) (filter (is_of Kind.Propose) (messages es)) (run coordinator.take (coordinator_at config 0 mid) (filter (is_of Kind.Propose) (messages es)))
  proposed = all_proposed (coordinator_at config 0 mid) (messages es) kept.sound

  leader_is : coordinator_at config 0 (prepared config es) ≡ (run coordinator.take (coordinator_at config 0 mid) (filter (is_of Kind.Propose) (messages es))).0
  leader_is = took.coordinators 0 (omega arith)

  abbrev more : List Stamped
  more = (run coordinator.take (coordinator_at config 0 mid) (filter (is_of Kind.Propose) (messages es))).1

  sent : messages (prepared config es) ≡ messages es ++ (run coordinator.take (coordinator_at config 0 mid) (filter (is_of Kind.Propose) (messages es))).1
  sent = took.sent ∙ (λ i. taken.same_messages i ++ (run coordinator.take (coordinator_at config 0 mid) (filter (is_of Kind.Propose) (messages es))).1)

  offers_same : (c : Command) → is_offered (messages (prepared config es)) c ≡ is_offered (messages es) c
  offers_same c = ap (λ ms. is_offered ms c) sent ∙ any-append (is_offer c) (messages es) more ∙ (λ i. is_offered (messages es) c || proposed.calm.offers c i) ∙ or_false (is_offered (messages es) c)

  closed_same : (c : Command) → is_closed (messages (prepared config es)) c ≡ is_closed (messages es) c
  closed_same c = ap (λ ms. is_closed ms c) sent ∙ any-append (final_has c) (messages es) more ∙ (λ i. is_closed (messages es) c || proposed.calm.has_none c i) ∙ or_false (is_closed (messages es) c)

  opens_same : (p : Command → Bool) → opens p (messages (prepared config es)) ≡ opens p (messages es)
  opens_same p =
      let a = ap (opens p) sent in
      let b = opens-append p (messages es) more in
      let d = nothing_opens p more proposed.calm.offers in
      omega (arith, a, b, d)

  -- a proposal is among those that were picked
  offered_picked : (xs : List Stamped) (c : Command) → is_offered xs c ≡ true → is_offered (filter (is_of Kind.Propose) xs) c ≡ true
  offered_picked [] c h = cc
  offered_picked (Offered d ∷ xs) c h = one_of (same c d) (is_offered xs c) h (λ q. left_of (same c d) _ q) (λ q. right_of (same c d) _ (offered_picked xs c q))
  offered_picked (InEpoch e m ∷ xs) c h = by (is_of Kind.Propose (InEpoch e m)) (offered_picked xs c h) where
    by : (b : Bool) → is_offered (filter (is_of Kind.Propose) xs) c ≡ true → is_offered (cond b (InEpoch e m ∷ filter (is_of Kind.Propose) xs) (filter (is_of Kind.Propose) xs)) c ≡ true
    by true q = q
    by false q = q
  offered_picked (Final e l v ∷ xs) c h = offered_picked xs c h

  at_last : (n : ℕ) → closed_by (messages es) ≤ n → n ≤ closed_by (messages mid) → n ≡ closed_by (messages es)
  at_last n a b = let c = ap closed_by taken.same_messages in omega (arith, a, b, c)

  pub is_prepared : IsPrepared config es
  is_prepared = record {
    ready = record {
      legal = took.legal lead taken.legal;
      open_from = ap closed_by sent ∙ closed-append 0 (messages es) more ∙ proposed.calm.closes (closed_by (messages es));
      leads = ap (λ (s : CoordinatorInEpoch). s.epoch) leader_is ∙ proposed.epoch ∙ at_last _ taken.leads (kept_mid.coordinators 0).epoch;
      answers = λ a h. ap (λ (s : AcceptorInEpoch). s.epoch) (took.acceptors a) ∙ at_last _ (taken.answers a h) (kept_mid.acceptors a).epoch;
      hears = λ l h. ap (λ (s : LearnerInEpoch). s.epoch) (took.learners l) ∙ at_last _ (taken.hears l h) (kept_mid.learners l).epoch;
      whole = λ c h. elim (proposed.new c (offered_picked (messages es) c (sym (offers_same c) ∙ h))) [
        | inl a ↦ inl (closed_same c ∙ ap (λ ms. is_closed ms c) (sym taken.same_messages) ∙ done_is_closed config 0 mid c a)
        | inr a ↦ inr (ap (λ (s : CoordinatorInEpoch). list_any (same c) s.state.pending) leader_is ∙ a)
      ];
      apart = λ c h. closed_same c ∙ not_true (is_closed (messages es) c) (λ q. elim (proposed.from c (sym (ap (λ (s : CoordinatorInEpoch). list_any (same c) s.state.pending) leader_is) ∙ h)) [
        | inl a ↦ never (list_any (same c) (coordinator_at config 0 mid).state.pending) a (taken.apart c q)
        | inr a ↦ never (set.contains (coordinator_at config 0 mid).done c) (taken.done c q) a
      ]);
    };
    offers = offers_same;
    opened = opens_same;
    rounds = up_to_top (top_count config es) config (prepared config es) (swept_up_to (top_count config es) config Coordinator 1 (places Kind.Propose 0 (messages mid)) mid (λ i h. lt-ltb i config.coordinators (omega (arith, h, lead))) taken.rounds);
    entries =
        let a = took.entries in
        let b = finals_taken.entries in
        let c = length-picked (messages mid) (places Kind.Propose 0 (messages mid)) (filter (is_of Kind.Propose) (messages es)) picked in
        let d = ap (λ ms. length (places Kind.Propose 0 ms)) taken.same_messages in
        omega (arith, a, b, c, d);
  }
