-- The facts hold of each legal run.
use Rattle.std.proofs.Common.{◌≡◌, ◌⊎◌, inl, inr, ℕ, ◌<◌, ◌≤◌, true, false, List, [], ◌∷◌, ◌++◌, Option, Some, None, refl, sym, subst, ap, ◌∙◌, arith}
use Rattle.std.specs.List.{Contains}
use Rattle.gp_command.specs.declared.command.Command.{Command}
use Rattle.gp_history.specs.History.{History, IsHistory, IsPrefix}
use Rattle.gp_history.specs.Bounds.{IsCompatible}
use Rattle.gp_round.specs.declared.round.Round.{Round}
use Rattle.gp_round.specs.Counts.{Counts}
use Rattle.gp_round.specs.Quorums.{IsCoordinatorQuorum}
use Rattle.gp_round.specs.Rounds.{earlier, round_zero, is_fast}
use Rattle.gp_safe.specs.Choice.{Reply}
use Rattle.gp_msg.specs.Messages.{Answered, Voted, Offered, InEpoch, Final, Entry}
use Rattle.gp_coordinator.specs.State.{CoordinatorState}
use Rattle.gp_coordinator.specs.Replies.{reply_at}
use Rattle.gp_acceptor.specs.State.{AcceptorState}
use Rattle.gp_acceptor.specs.Table.{value_at}
use Rattle.gp_learner.specs.State.{LearnerState}
use Rattle.gp_learner.specs.Table.{vote_of}
use Rattle.gp_run.specs.Learned.{Vote, IsHeard, taken_at}
use Rattle.gp_cstructs.specs.CStructs.{Among}
use Rattle.gp_cstructs.specs.Tables.{P1b, P2a, P2b}
use Rattle.gp_cstructs.specs.Acceptor.{Acceptor}
use Rattle.gp_cstructs.specs.Coordinator.{Coordinator}
use Rattle.gp_cstructs.specs.Learner.{Learner}
use Rattle.gp_cstructs.specs.Loose.{Event, Loose, run}
use Rattle.gp_cstructs.specs.LooseAgreement.{shown}
use Rattle.gp_cstructs.specs.Facts as core
use Rattle.gp_cstructs.proofs.Lists.{among_contains, contains_among}
use Rattle.gp_cstructs.proofs.Growth as growth
use Rattle.gp_cstructs.proofs.Moves.{learner_on}
use Rattle.gp_cstructs.proofs.Runs.{run_keeps, loose_rest, cast_since}
use Rattle.gp_cstructs.proofs.Chosen.{heard_chosen, chosen_agree}
use Rattle.gp_agreement.specs.Values.{Value}
use Rattle.gp_agreement.proofs.ValueLaws.{test_of}
use Rattle.gp_agreement.proofs.Bundle.{tables_lawful}
use Rattle.gp_agreement.proofs.Shown.{shown as shown_value, histories}
use Rattle.gp_agreement.proofs.Acceptors as acceptors
use Rattle.gp_agreement.proofs.Coordinators as coordinators
use Rattle.gp_agreement.proofs.Learners as learners
use Rattle.gp_agreement.proofs.Learners.{votes_taken}
use Rattle.gp_agreement.proofs.Heard.{heard_back}
use Rattle.gp_agreement.proofs.Returning.{shown_back, reply_back}
use Rattle.gp_agreement.proofs.Standing.{prefix_by}
use Rattle.gp_coordinator.specs.Epochs.{CoordinatorInEpoch}
use Rattle.gp_acceptor.specs.Epochs.{AcceptorInEpoch}
use Rattle.gp_learner.specs.Epochs.{LearnerInEpoch}
use Rattle.gp_run.specs.Messages.{messages}
use Rattle.gp_run.specs.States.{coordinator_at, acceptor_at, learner_at}
use Rattle.gp_run.specs.Legal.{Legal}
use Rattle.gp_run.specs.Chosen as chosen
use Rattle.gp_agreement.specs.Facts.{IsReached, HasSent, IsBacked, IsJoined, AnswerFacts, CoordinatorFacts, AcceptorFacts, IsBoundOfChosen, LearnerFacts, AreClosed, IsCutOfChosen, EpochFacts, AreProposed, Facts}
use Rattle.gp_agreement.proofs.FinalsBelow as finals
use Rattle.gp_agreement.proofs.Projection.{T}
use Rattle.gp_agreement.proofs.Projected.{projection}
use Rattle.gp_agreement.proofs.Pending.{pending_stands}
use Rattle.gp_agreement.proofs.Moments.{list, one_final}
use Rattle.gp_agreement.proofs.Growing.{by_order, acceptor_epochs_grow}
use Rattle.gp_agreement.proofs.Proposed.{final_proposed, part_proposed, learned_proposed}
use Rattle.gp_agreement.proofs.Identities.{proposed_once}
use Rattle.gp_agreement.proofs.Agreement.{no_mark}
use Rattle.gp_agreement.proofs.Standing as standing

shown_none : (o : Option Value) → shown_value o ≡ None → o ≡ None
shown_none None e = refl
shown_none (Some v) e = absurd (cc)

history_back : (us : List Value) (h : History) → Among (histories us) h → (u : Value) × Among us u × (u.history ≡ h)
history_back [] h p = elim p [ ]
history_back (u ∷ us) h p = elim p [
  | inl e ↦ (u, inl refl, e)
  | inr n ↦ let t = history_back us h n in (t.0, inr t.1, t.2)
]

history_there : (us : List Value) (u : Value) → Among us u → Among (histories us) u.history
history_there [] u p = elim p [ ]
history_there (v ∷ us) u p = elim p [ inl e ↦ inl (ap (λ (x : Value). x.history) e) | inr n ↦ inr (history_there us u n) ]

-- of two values one is a prefix of the other
chain_by : (u v : Value) (x y : History) → u.history ≡ x → v.history ≡ y → IsPrefix u.history v.history ⊎ IsPrefix v.history u.history → IsPrefix x y ⊎ IsPrefix y x
chain_by u v x y e f p = elim p [
  | inl q ↦ inl (prefix_by u.history v.history x y e f q)
  | inr q ↦ inr (prefix_by v.history u.history y x f e q)
]

module _ (config : Counts) (some : 0 < config.acceptors) (es : List Entry) (legal : Legal config es) where
  ledger : (e : ℕ) → core.LedgerFacts (T config e) (IsCoordinatorQuorum config.coordinators) (standing.G config some es legal e)
  ledger e = (standing.facts config some es legal e).ledger

  -- ---- coordinators

  values_late : (c e : ℕ) (r : Round) (x : History) → HasSent es c e r x → earlier round_zero r ≡ true
  values_late c e r x p = let u = standing.sent_value config some es legal e c r x p in (ledger e).values_late c r u.0 u.1

  module _ (c : ℕ) where
    abbrev s : CoordinatorInEpoch
    s = coordinator_at config c es

    abbrev t : Coordinator (T config (coordinator_at config c es).epoch)
    t = (standing.w config some es legal s.epoch).coordinators c

    abbrev pending : List Command
    pending = (((standing.pr config some es legal s.epoch).coordinators c).0 refl).pending

    like : coordinators.IsLike config c s.state (record { core = t; pending = pending })
    like = (((standing.pr config some es legal s.epoch).coordinators c).0 refl).like

    f : core.CoordinatorFacts (T config s.epoch) (standing.G config some es legal s.epoch) c t
    f = (standing.facts config some es legal s.epoch).coordinators c

    same_round : s.state.round ≡ t.round
    same_round = ap (λ (k : CoordinatorState). k.round) like.is

    value_back : (v : History) → s.state.value ≡ Some v → (u : Value) × (t.value ≡ Some u) × (u.history ≡ v)
    value_back v h = shown_back t.value v (sym (ap (λ (k : CoordinatorState). k.value) like.is) ∙ h)

    sent_now : (x : History) → HasSent es c s.epoch s.state.round x → (u : Value) × (standing.G config some es legal s.epoch).values c t.round u × (u.history ≡ x)
    sent_now x p = standing.sent_value config some es legal s.epoch c t.round x (subst (λ (k : Round). HasSent es c s.epoch k x) same_round p)

    now_sent : (u : Value) (x : History) → u.history ≡ x → (standing.G config some es legal s.epoch).values c t.round u → HasSent es c s.epoch s.state.round x
    now_sent u x q p = subst (λ (k : Round). HasSent es c s.epoch k x) (sym same_round) (standing.sent_by config some es legal s.epoch c t.round u x q p)

    -- it reached the round of each value that it sent
    sent_reached : (e : ℕ) (r : Round) (x : History) → HasSent es c e r x → IsReached s.epoch s.state.round e r
    sent_reached e r x p =
        let u = standing.sent_value config some es legal e c r x p in
        let g = (standing.facts config some es legal e).coordinators c in
        elim (by_order e s.epoch) [
          | inl less ↦ inl less
          | inr h ↦ elim h [
            | inl q ↦ inr (q, λ b. g.sent_reached r u.0 u.1 (subst (λ (k : Round). earlier k r ≡ true) (ap (λ (k : CoordinatorState). k.round) (((standing.pr config some es legal e).coordinators c).0 (sym q)).like.is) b))
            | inr more ↦ absurd (g.sent_reached r u.0 u.1 (subst (λ (k : Round). earlier k r ≡ true) (sym (ap (λ (k : Coordinator (T config e)). k.round) (((standing.pr config some es legal e).coordinators c).1 more))) (values_late c e r x p)))
          ]
        ]

    coordinator_facts : CoordinatorFacts config es c s
    coordinator_facts = record {
      values_chain = λ e r x y p q.
          let u = standing.sent_value config some es legal e c r x p in
          let v = standing.sent_value config some es legal e c r y q in
          chain_by u.0 v.0 x y u.2 v.2 ((ledger e).values_chain c r u.0 v.0 u.1 v.1);
      values_safe = λ e r x p. let u = standing.sent_value config some es legal e c r x p in standing.safe_by config some es legal e u.0 x u.2 r ((ledger e).values_safe c r u.0 u.1);
      values_late = values_late c;
      value_sent = λ v h. let b = value_back v h in now_sent b.0 v b.2 (f.value_sent b.0 b.1);
      value_last = λ v h x p. let b = value_back v h in let u = sent_now x p in prefix_by u.0.history b.0.history x v u.2 b.2 (f.value_last b.0 b.1 u.0 u.1);
      none_sent = λ a n x p.
          let u = sent_now x p in
          f.none_sent (sym (ap (λ (k : CoordinatorState). k.awake) like.is) ∙ a) (shown_none t.value (sym (ap (λ (k : CoordinatorState). k.value) like.is) ∙ n)) u.0 u.1;
      awake_late = λ a. subst (λ (k : Round). earlier round_zero k ≡ true) (sym same_round) (f.awake_late (sym (ap (λ (k : CoordinatorState). k.awake) like.is) ∙ a));
      sent_reached = sent_reached;
      answers_given = λ a rep h.
          let b = reply_back (t.answers a) rep (sym (ap (λ (k : CoordinatorState). reply_at k.answers a) like.is ∙ ap (λ (g : ℕ → Option Reply). g a) like.all) ∙ h) in
          subst (λ (k : Round). Contains (messages es) (InEpoch s.epoch (Answered k a rep.round rep.vote))) (sym same_round)
          (subst (λ (k : History). Contains (messages es) (InEpoch s.epoch (Answered t.round a rep.round k))) b.2 (standing.tells config some es legal s.epoch (P1b t.round a rep.round b.0) (f.answers_given a rep.round b.0 b.1)));
    }

  -- ---- acceptors

  module _ (e : ℕ) where
    backed_there : (r : Round) (v : Value) → core.IsBacked (T config e) (IsCoordinatorQuorum config.coordinators) (standing.G config some es legal e) r v → IsBacked config es e r v.history
    backed_there r v b = record {
      history = v.valid;
      quorum = b.quorum;
      is_quorum = b.is_quorum;
      each = λ c l q. let x = b.each c l q in (x.0.history, standing.sent_by config some es legal e c r x.0 x.0.history refl x.1, x.2);
    }

    joined_there : (r : Round) (v : Value) → core.IsJoined (T config e) (IsCoordinatorQuorum config.coordinators) (standing.G config some es legal e) r v → IsJoined config es e r v.history
    joined_there r v j = record {
      parts = histories j.parts;
      backed = λ u m. let b = history_back j.parts u (contains_among (histories j.parts) u m) in subst (λ (h : History). IsBacked config es e r h) b.2 (backed_there r b.0 (j.backed b.0 b.1));
      above = λ u m. let b = history_back j.parts u (contains_among (histories j.parts) u m) in subst (λ (h : History). IsPrefix h v.history) b.2 (j.above b.0 b.1);
      least = λ z is g. j.least (record { history = z; valid = is }) (λ u m. g u.history (among_contains (histories j.parts) u.history (history_there j.parts u m)));
    }

    answer_there : (r : Round) (a : ℕ) (q : Round) (v : Value) (x : History) → v.history ≡ x → core.AnswerFacts (T config e) (standing.G config some es legal e) r a q v → AnswerFacts config es e r a q x
    answer_there r a q v x h g = record {
      below = g.below;
      reached = standing.reached_there config some es legal e a r (growth.le_lt (tables_lawful config some) round_zero q r ((tables_lawful config some).zero_least q) g.below) g.reached;
      cast = standing.vote_by config some es legal e a q v x h g.cast;
      last = λ y p. let u = standing.vote_value config some es legal e a q y p in prefix_by u.0.history v.history y x u.2 h (g.last u.0 u.1);
      none = λ j b d y p. let u = standing.vote_value config some es legal e a j y p in g.none j b d u.0 u.1;
    }

  module _ (a : ℕ) where
    abbrev z : AcceptorInEpoch
    z = acceptor_at config a es

    abbrev y : Acceptor (T config (acceptor_at config a es).epoch)
    y = (standing.w config some es legal z.epoch).acceptors a

    alike : acceptors.IsLike config a z.state y
    alike = ((standing.pr config some es legal z.epoch).acceptors a).0 refl

    own : core.AcceptorFacts (T config z.epoch) (standing.G config some es legal z.epoch) a y
    own = (standing.facts config some es legal z.epoch).acceptors a

    now_voted : z.state.voted ≡ y.voted
    now_voted = ap (λ (k : AcceptorState). k.voted) alike.is

    now_vote : z.state.vote ≡ y.vote.history
    now_vote = ap (λ (k : AcceptorState). k.vote) alike.is

    now_round : z.state.round ≡ y.round
    now_round = ap (λ (k : AcceptorState). k.round) alike.is

    -- it reached the round of each vote that it had
    votes_reached : (e : ℕ) (r : Round) (x : History) → chosen.HadVote config es a e r x → IsReached z.epoch z.state.round e r
    votes_reached e r x p = elim (by_order e z.epoch) [
      | inl less ↦ inl less
      | inr h ↦ elim h [
        | inl q ↦
            let u = standing.vote_value config some es legal e a r x (inl p) in
            inr (q, λ b. (ledger e).votes_reached a r u.0 u.1 (subst (λ (k : Round). earlier k r ≡ true) (ap (λ (k : AcceptorState). k.round) (((standing.pr config some es legal e).acceptors a).0 (sym q)).is) b))
        | inr more ↦
            let grown : e ≤ z.epoch = subst (λ (run : List Entry). e ≤ (acceptor_at config a run).epoch) p.parts (subst (λ (n : ℕ). n ≤ (acceptor_at config a (p.later ++ p.earlier)).epoch) p.epoch_is (acceptor_epochs_grow config a p.later p.earlier)) in
            absurd (omega (arith, more, grown))
      ]
    ]

    vote_now : (x : History) → chosen.IsVote config es a z.epoch z.state.voted x → (u : Value) × (standing.G config some es legal z.epoch).votes a y.voted u × (u.history ≡ x)
    vote_now x p = standing.vote_value config some es legal z.epoch a y.voted x (subst (λ (k : Round). chosen.IsVote config es a z.epoch k x) now_voted p)

    acceptor_facts : AcceptorFacts config es a z
    acceptor_facts = record {
      votes_chain = λ e r x v p q.
          let u = standing.vote_value config some es legal e a r x p in
          let k = standing.vote_value config some es legal e a r v q in
          chain_by u.0 k.0 x v u.2 k.2 ((ledger e).votes_chain a r u.0 k.0 u.1 k.1);
      votes_safe = λ e r x p. let u = standing.vote_value config some es legal e a r x p in standing.safe_by config some es legal e u.0 x u.2 r ((ledger e).votes_safe a r u.0 u.1);
      votes_reached = votes_reached;
      votes_joined = λ e r x p late slow.
          let u = standing.vote_value config some es legal e a r x p in
          elim ((ledger e).votes_joined a r u.0 u.1 slow) [
            | inl h ↦ absurd ((tables_lawful config some).order.irreflexive round_zero (subst (λ (k : Round). earlier round_zero k ≡ true) h.0 late))
            | inr j ↦ subst (λ (h : History). IsJoined config es e r h) u.2 (joined_there e r u.0 j)
          ];
      vote_last = λ x p. let u = vote_now x p in prefix_by u.0.history y.vote.history x z.state.vote u.2 (sym now_vote) (own.vote_last u.0 u.1);
      voted_reached = λ b. own.voted_reached (subst (λ (k : Round). earlier k y.voted ≡ true) now_round (subst (λ (k : Round). earlier z.state.round k ≡ true) now_voted b));
      none_above = λ r x b p. let u = standing.vote_value config some es legal z.epoch a r x p in own.none_above r u.0 (subst (λ (k : Round). earlier k r ≡ true) now_voted b) u.1;
      held_sent = λ c v h.
          let b = shown_back (y.held c) v (sym (ap (λ (k : AcceptorState). value_at k.held c) alike.is ∙ ap (λ (g : ℕ → Option History). g c) alike.all) ∙ h) in
          subst (λ (k : Round). HasSent es c z.epoch k v) (sym now_round) (standing.sent_by config some es legal z.epoch c y.round b.0 v b.2 (own.held_sent c b.0 b.1));
      sent_cast = λ e r v p. let u = standing.voted_value config some es legal e r a v p in standing.vote_by config some es legal e a r u.0 v u.2 ((standing.facts config some es legal e).sent_cast r a u.0 u.1);
      answers_true = λ e r q v p. let u = standing.answer_value config some es legal e r a q v p in answer_there e r a q u.0 v u.2 ((ledger e).answers_true r a q u.0 u.1);
    }

  -- ---- learners, and what they learned in an epoch

  -- what a learner learned in the list of an epoch is the least upper bound of what is chosen there
  bound_there : (e i : ℕ) (t : Learner (T config e)) → core.LearnerFacts (T config e) (standing.G config some es legal e) t → IsBoundOfChosen config es e t.learned.history
  bound_there e i t g = record {
    history = t.learned.valid;
    parts = histories g.parts;
    chosen = λ u m.
        let b = history_back g.parts u (contains_among (histories g.parts) u m) in
        let h = g.heard b.0 b.1 in
        (h.round, subst (λ (k : History). chosen.IsChosen config es k e h.round) b.2 (standing.chosen_there config some es legal e b.0 h.round (heard_chosen (tables_lawful config some) (standing.G config some es legal e) t.taken g.taken_cast b.0 h)));
    above = λ u m. let b = history_back g.parts u (contains_among (histories g.parts) u m) in subst (λ (k : History). IsPrefix k t.learned.history) b.2 (g.above b.0 b.1);
    least = λ z is k. g.least (record { history = z; valid = is }) (λ u m. k u.history (among_contains (histories g.parts) u.history (history_there g.parts u m)));
  }

  module _ (l : ℕ) where
    abbrev q : LearnerInEpoch
    q = learner_at config l es

    abbrev u : Learner (T config (learner_at config l es).epoch)
    u = (standing.w config some es legal q.epoch).learners l

    here : learners.IsLike config l q.state u
    here = (((standing.pr config some es legal q.epoch).learners l).0 refl).like

    learner_core : core.LearnerFacts (T config q.epoch) (standing.G config some es legal q.epoch) u
    learner_core = (standing.facts config some es legal q.epoch).learners l

    taken_is : taken_at config l es ≡ votes_taken u.taken
    taken_is = (((standing.pr config some es legal q.epoch).learners l).0 refl).taken

    heard_is_chosen : (x : History) (h : IsHeard config (votes_taken u.taken) x) → chosen.IsChosen config es x q.epoch h.round
    heard_is_chosen x h =
        let v : Value = record { history = x; valid = h.history } in
        standing.chosen_there config some es legal q.epoch v h.round (heard_chosen (tables_lawful config some) (standing.G config some es legal q.epoch) u.taken learner_core.taken_cast v (heard_back config u.taken x h))

    learner_facts : LearnerFacts config es l q
    learner_facts = record {
      votes_sent = λ r a v h.
          let b = shown_back (u.votes r a) v (sym (ap (λ (k : LearnerState). vote_of k.votes r a) here.is ∙ ap (λ (g : Round → ℕ → Option History). g r a) here.all) ∙ h) in
          subst (λ (k : History). Contains (messages es) (InEpoch q.epoch (Voted r a k))) b.2
          (standing.tells config some es legal q.epoch (P2b r a b.0) ((standing.facts config some es legal q.epoch).taken_sent l r a b.0 (learner_core.held_taken r a b.0 b.1)));
      heard_chosen = subst (λ (vs : List Vote). (x : History) (h : IsHeard config vs x) → chosen.IsChosen config es x q.epoch h.round) (sym taken_is) heard_is_chosen;
      part = subst (λ (k : History). IsBoundOfChosen config es q.epoch k) (sym (ap (λ (k : LearnerState). k.learned) here.is)) (bound_there q.epoch l u learner_core);
      unmarked = no_mark config some es legal l;
    }

  -- ---- epochs

  -- a learner of an earlier moment of the list, seen from its end
  learner_since : (e : ℕ) (later before : List (Event (T config e))) → later ++ before ≡ list config e es legal → (i : ℕ) → core.LearnerFacts (T config e) (standing.G config some es legal e) ((run (T config e) before).learners i)
  learner_since e later before parts i =
      let fs : List (Event (T config e)) = list config e es legal in
      learner_on (core.ledger_of (T config e) (run (T config e) before)) (standing.G config some es legal e) ((run (T config e) before).learners i)
      (λ a r x p. elim p [
        | inl n ↦ inl (subst (λ (gs : List (Event (T config e))). Among (run (T config e) gs).cast (a, r, x)) parts (cast_since later before (a, r, x) n))
        | inr h ↦ inr h
      ])
      ((run_keeps (tables_lawful config some) before (loose_rest later before (subst (λ (gs : List (Event (T config e))). Loose (T config e) gs) (sym parts) (projection config e es legal).loose_list))).learners i)

  final_cut : (e l : ℕ) (v : History) → Contains (messages es) (Final e l v) → IsCutOfChosen config es e v
  final_cut e l v p =
      let k = (projection config e es legal).finals l v (contains_among (messages es) (Final e l v) p) in
      record {
        part = (shown (T config e) k.before k.learner).history;
        bound = bound_there e k.learner ((run (T config e) k.before).learners k.learner) (learner_since e k.later k.before k.parts k.learner);
        marked = k.closed;
        is_cut = k.value;
      }

  closed_there : (n : ℕ) → finals.Below (messages es) n → AreClosed es n
  closed_there n h e less = let k = h e less in (k.0, k.1, among_contains (messages es) (Final e k.0 k.1) k.2)

  epoch_facts : EpochFacts config es
  epoch_facts =
      let b = finals.finals_below config es legal in
      record {
        coordinators_entered = λ c. closed_there (coordinator_at config c es).epoch (b.coordinators c);
        acceptors_entered = λ a. closed_there (acceptor_at config a es).epoch (b.acceptors a);
        learners_entered = λ l. closed_there (learner_at config l es).epoch (b.learners l);
        messages_entered = λ e m p. closed_there e (b.all_messages (InEpoch e m) (contains_among (messages es) (InEpoch e m) p));
        finals_entered = λ e l v p. closed_there e (b.all_messages (Final e l v) (contains_among (messages es) (Final e l v) p));
        finals_cut = final_cut;
        one_final = λ e l i v x p h. one_final config e some es legal l i v x (contains_among (messages es) (Final e l v) p) (contains_among (messages es) (Final e i x) h);
      }

  -- ---- votes of a round

  votes_agree : (e : ℕ) (r : Round) → is_fast r.mode ≡ false → (a b : ℕ) (x v : History) → chosen.IsVote config es a e r x → chosen.IsVote config es b e r v → IsCompatible x v
  votes_agree e r slow a b x v p h =
      let m = standing.vote_value config some es legal e a r x p in
      let n = standing.vote_value config some es legal e b r v h in
      subst (λ (k : History). IsCompatible k v) m.2 (subst (λ (k : History). IsCompatible m.0.history k) n.2
      (test_of m.0 n.0 (growth.votes_agree (tables_lawful config some) (standing.G config some es legal e) (ledger e) r slow a b m.0 n.0 m.1 n.1)))

  -- two histories that are chosen in one epoch are compatible
  pub chosen_are_compatible : (e : ℕ) (x v : History) → IsHistory x → IsHistory v → (r j : Round) → chosen.IsChosen config es x e r → chosen.IsChosen config es v e j → IsCompatible x v
  chosen_are_compatible e x v wx wv r j c d =
      let m : Value = record { history = x; valid = wx } in
      let n : Value = record { history = v; valid = wv } in
      test_of m n (chosen_agree (tables_lawful config some) (standing.G config some es legal e) (ledger e) m n r j (standing.chosen_back config some es legal e x wx r c) (standing.chosen_back config some es legal e v wv j d))

  -- ---- commands

  all_proposed : AreProposed config es
  all_proposed = record {
    answered = λ e r a h v p. let m = standing.answer_value config some es legal e r a h v p in standing.proposed_by config some es legal e m.0 v m.2 ((standing.offered config some es legal e).sent (P1b r a h m.0) m.1);
    sent = λ e r c v p. let m = standing.sent_value config some es legal e c r v p in standing.proposed_by config some es legal e m.0 v m.2 ((standing.offered config some es legal e).sent (P2a r c m.0) m.1);
    voted = λ e r a v p. let m = standing.voted_value config some es legal e r a v p in standing.proposed_by config some es legal e m.0 v m.2 ((standing.offered config some es legal e).sent (P2b r a m.0) m.1);
    finals = λ e l v p d h. among_contains (messages es) (Offered d) (final_proposed config es legal e l v (contains_among (messages es) (Final e l v) p) d h);
    coordinator_value = λ c v h. let b = value_back c v h in standing.proposed_by config some es legal (s c).epoch b.0 v b.2 ((standing.offered config some es legal (s c).epoch).values c b.0 b.1);
    coordinator_answer = λ c a rep h.
        let b = reply_back ((t c).answers a) rep (sym (ap (λ (k : CoordinatorState). reply_at k.answers a) (like c).is ∙ ap (λ (g : ℕ → Option Reply). g a) (like c).all) ∙ h) in
        standing.proposed_by config some es legal (s c).epoch b.0 rep.vote b.2 ((standing.offered config some es legal (s c).epoch).answers c a rep.round b.0 b.1);
    coordinator_pending = λ c d p. among_contains (messages es) (Offered d) (pending_stands config es legal c d (contains_among (coordinator_at config c es).state.pending d p));
    acceptor_vote = λ a. standing.proposed_by config some es legal (z a).epoch (y a).vote (z a).state.vote (sym (now_vote a)) ((standing.offered config some es legal (z a).epoch).votes a);
    acceptor_held = λ a c v h.
        let b = shown_back ((y a).held c) v (sym (ap (λ (k : AcceptorState). value_at k.held c) (alike a).is ∙ ap (λ (g : ℕ → Option History). g c) (alike a).all) ∙ h) in
        standing.proposed_by config some es legal (z a).epoch b.0 v b.2 ((standing.offered config some es legal (z a).epoch).holds a c b.0 b.1);
    learner_vote = λ l r a v h.
        let b = shown_back ((u l).votes r a) v (sym (ap (λ (k : LearnerState). vote_of k.votes r a) (here l).is ∙ ap (λ (g : Round → ℕ → Option History). g r a) (here l).all) ∙ h) in
        standing.proposed_by config some es legal (q l).epoch b.0 v b.2 ((standing.offered config some es legal (q l).epoch).taken l r a b.0 b.1);
    learner_part = λ l d h. among_contains (messages es) (Offered d) (part_proposed config es legal l d h);
    learner_learned = λ l d h. among_contains (messages es) (Offered d) (learned_proposed config es legal some l d h);
  }

  -- ---- all of them

  pub all_facts : Facts config es
  all_facts = record {
    coordinators = coordinator_facts;
    acceptors = acceptor_facts;
    learners = learner_facts;
    epochs = epoch_facts;
    votes_agree = votes_agree;
    proposed = all_proposed;
    proposed_once = proposed_once config es legal;
  }
