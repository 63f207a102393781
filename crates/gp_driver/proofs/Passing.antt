-- What one pass does.
use Rattle.std.proofs.Common.{◌≡◌, ℕ, suc, ◌+◌, ◌*◌, ◌<◌, true, cond, ◌&&◌, List, [], ◌∷◌, ◌++◌, length, Some, None, inl, inr, refl, sym, ap, ◌∙◌, subst, arith, append_assoc}
use Rattle.std.proofs.Math.Nat.{mul_comm}
use Rattle.std.specs.Prelude.{Option, filter, ◌⊎◌}
use Rattle.std.specs.List.{list_any}
use Rattle.std.specs.Option.{option_to_list}
use Rattle.std.proofs.lemmas.Bool.{lt-ltb, le-leb}
use Rattle.std.proofs.lemmas.List.{append-nil}
use Rattle.gp_command.specs.declared.command.Command.{Command}
use Rattle.gp_command.specs.Conflict.{same}
use Rattle.gp_history.specs.History.{History, IsHistory, has, empty}
use Rattle.gp_round.specs.Counts.{Counts}
use Rattle.gp_round.specs.Rounds.{earlier}
use Rattle.gp_round.specs.declared.config.TheConstants.{LAST_COUNT}
use Rattle.gp_safe.specs.Choice.{Reply}
use Rattle.gp_msg.specs.Messages.{Asked, Answered, Sent, Voted, Stamped, Offered, InEpoch, Final, Entry}
use Rattle.gp_msg.specs.declared.node.Node.TheVariants.{Coordinator, Acceptor, Learner}
use Rattle.gp_msg.specs.declared.event.Event.TheVariants.{Begin}
use Rattle.gp_coordinator.specs.Replies.{unanswered}
use Rattle.gp_coordinator.specs.Table.{coordinator_begin}
use Rattle.gp_coordinator.specs.Table as table
use Rattle.gp_learner.specs.Table as learner_table
use Rattle.gp_learner.specs.Table.{vote_of}
use Rattle.gp_epoch.specs.Cut.{first_checkpoint, cut}
use Rattle.gp_msg.specs.declared.message.MsgKind.{MsgKind}
use Rattle.gp_msg.specs.declared.message.MsgKind.TheVariants as Kind
use Rattle.gp_run.specs.Messages.{messages}
use Rattle.gp_run.specs.Legal.{Legal, fits}
use Rattle.gp_run.specs.TopCount.{top_count}
use Rattle.gp_run.specs.States.{coordinator_at, acceptor_at, learner_at}
use Rattle.gp_coordinator.specs.Epochs.{CoordinatorInEpoch, stepped, begin}
use Rattle.gp_coordinator.specs.Epochs as coordinator
use Rattle.gp_acceptor.specs.Epochs.{AcceptorInEpoch}
use Rattle.gp_acceptor.specs.Epochs as acceptor
use Rattle.gp_learner.specs.Epochs.{LearnerInEpoch}
use Rattle.gp_learner.specs.Epochs as learner
use Rattle.gp_driver.specs.Sweeps.{is_of, places, sweep}
use Rattle.gp_driver.specs.Settling.{next_round, pass, finals_of_pass}
use Rattle.gp_driver.specs.Settling as settling
use Rattle.gp_driver.proofs.Lists.{Picked, picks_behind, filter-append, outs, length-outs, all_outs, no_outs, picked_none, FirstPicked, picked_first, outs_first}
use Rattle.gp_driver.proofs.Sweeping.{run, all_sent_outs, none_sent}
use Rattle.gp_driver.proofs.Roles.{CoordinatorsTook, coordinators_take, AcceptorsTook, acceptors_take, LearnersTook, learners_take}
use Rattle.gp_driver.proofs.Voting.{asked, takes_question, single, votes, same_epoch}
use Rattle.gp_driver.proofs.Collecting.{answer_of, with_answers, HasSent, all_collected}
use Rattle.gp_driver.proofs.Hearing.{open_with, nothing_before, HasShown, HasClosed, all_shown, all_closed}
use Rattle.gp_driver.proofs.Offers.{AreWithin, one_within, both_within, outs_within}
use Rattle.gp_driver.proofs.RunsKeep.{RunKept, run_kept}
use Rattle.gp_driver.proofs.TopRounds.{RunUpTo, top_up_to, more_rounds, one_begin, swept_up_to, below_is_earlier, no_vote_above}

-- the messages of a kind among those behind others
pub picks_new : (kind : MsgKind) (old new : List Stamped) (ms : List Stamped) → ms ≡ old ++ new → Picked ms (places kind (length old) ms) (filter (is_of kind) new)
picks_new kind old new ms e = subst (λ xs. Picked xs (places kind (length old) xs) (filter (is_of kind) new)) (sym e) (picks_behind kind old new)

-- the value of the first message, a Final message
abbrev final_of : List Stamped → History
final_of [] = empty
final_of (Offered c ∷ ms) = empty
final_of (InEpoch e m ∷ ms) = empty
final_of (Final e l v ∷ ms) = v

-- the pass closed no epoch, and each learner shows its value
pub record PassShows (config : Counts) (es : List Entry) (value : History) : Type 0 where
  pub quiet : finals_of_pass config es ≡ []
  pub more : List Stamped
  pub sent : messages (pass config es) ≡ messages es ++ more
  pub calm : AreWithin more
  pub hears : (l : ℕ) → l < config.learners → (learner_at config l (pass config es)).epoch ≡ (learner_at config l es).epoch
  pub shown : (l : ℕ) → l < config.learners → (c : Command) → has value c ≡ true → has (learner_at config l (pass config es)).learned c ≡ true

-- a learner closed the epoch with the cut of its part and the value, and is in the next one with nothing
pub record LearnerCloses (config : Counts) (es : List Entry) (e l : ℕ) (value final : History) : Type 0 where
  pub whole : History
  pub first : Command
  pub history : IsHistory whole
  pub first_is : first_checkpoint whole ≡ Some first
  pub is_cut : final ≡ cut whole
  pub from : (c : Command) → has whole c ≡ true → (has (learner_at config l es).state.learned c ≡ true) ⊎ (has value c ≡ true)
  pub epoch : (learner_at config l (pass config es)).epoch ≡ suc e
  pub state : (learner_at config l (pass config es)).state ≡ learner_table.opening config l

-- the pass closed the epoch, by a Final message of each learner
pub record PassCloses (config : Counts) (es : List Entry) (e : ℕ) (value : History) : Type 0 where
  pub more : List Stamped
  pub finals : ℕ → History
  pub sent : messages (pass config es) ≡ (messages es ++ more) ++ outs (λ l. Final e l (finals l)) config.learners
  pub calm : AreWithin more
  pub first : FirstPicked (messages (pass config es)) (finals_of_pass config es) (Final e 0 (finals 0))
  pub closings : (l : ℕ) → l < config.learners → LearnerCloses config es e l value (finals l)

-- all that is pending is in the value of a pass, and otherwise only what acceptors voted in the epoch
pub record PassMade (config : Counts) (es : List Entry) (e : ℕ) : Type 0 where
  pub value : History
  pub history : IsHistory value
  pub whole : (c : Command) → list_any (same c) (coordinator_at config 0 es).state.pending ≡ true → has value c ≡ true
  pub from : (c : Command) → has value c ≡ true → (list_any (same c) (coordinator_at config 0 es).state.pending ≡ true) ⊎ ((a : ℕ) × (a < config.acceptors) × (has (acceptor_at config a es).state.vote c ≡ true))
  pub legal : Legal config (pass config es)
  pub rounds : RunUpTo (suc (top_count config es)) config (pass config es)
  pub entries : length (pass config es) ≡ length es + (1 + 3 * config.acceptors + config.acceptors * config.learners)
  pub leads : (coordinator_at config 0 (pass config es)).epoch ≡ e
  pub pending : (coordinator_at config 0 (pass config es)).state.pending ≡ (coordinator_at config 0 es).state.pending
  pub answers : (a : ℕ) → a < config.acceptors → (acceptor_at config a (pass config es)).epoch ≡ e
  pub outcome : PassShows config es value ⊎ PassCloses config es e value

module _ (config : Counts) (es : List Entry) (e : ℕ) (some : 0 < config.acceptors) (lead : 0 < config.coordinators) (legal : Legal config es) (room : top_count config es < LAST_COUNT)
    (leads : (coordinator_at config 0 es).epoch ≡ e) (answers : (a : ℕ) → a < config.acceptors → (acceptor_at config a es).epoch ≡ e) (hears : (l : ℕ) → l < config.learners → (learner_at config l es).epoch ≡ e)
  where
    abbrev k : ℕ
    k = suc (top_count config es)

    abbrev old : List Stamped
    old = messages es

    abbrev c0 : CoordinatorInEpoch
    c0 = coordinator_at config 0 es

    abbrev reply : ℕ → Reply
    reply a = record { round = (acceptor_at config a es).state.voted; vote = (acceptor_at config a es).state.vote }

    kept : RunKept config es
    kept = run_kept config es legal

    up_to : RunUpTo (top_count config es) config es
    up_to = top_up_to config es

    -- ---- the round begins

    abbrev es1 : List Entry
    es1 = settling.begun config es

    higher : earlier c0.state.round (single k) ≡ true
    higher = below_is_earlier c0.state.round (single k) (let h = (up_to.coordinators 0 lead).round in omega (arith, h))

    begins : begin c0 (single k) ≡ (record { epoch = e; state = table.begun c0.state (single k); done = c0.done }, Some (InEpoch e (Asked (single k))))
    begins =
        (λ i. stepped c0 (cond (higher i) (table.begun c0.state (single k), Some (Asked (single k))) (c0.state, None)))
        ∙ (λ i. (record { epoch = leads i; state = table.begun c0.state (single k); done = c0.done }, Some (InEpoch (leads i) (Asked (single k)))))

    sent1 : messages (settling.begun config es) ≡ messages es ++ InEpoch e (Asked (single k)) ∷ []
    sent1 = ap (λ (u : CoordinatorInEpoch × Option Stamped). messages es ++ option_to_list u.1) begins

    -- coordinator 0, in the form in which it collects answers
    waiting : coordinator_at config 0 (settling.begun config es) ≡ with_answers e (single k) 0 config reply (λ i h. (kept.acceptors i).sound.vote) c0.state.pending c0.done some (unanswered config.acceptors) None
    waiting =
        ap (λ (u : CoordinatorInEpoch × Option Stamped). u.0) begins
        ∙ (λ i. record {
          epoch = e;
          state = record {
            config = (kept.coordinators 0).sound.own_config i;
            number = (kept.coordinators 0).sound.own_number i;
            round = single k;
            awake = true;
            answers = unanswered ((kept.coordinators 0).sound.own_config i).acceptors;
            value = None;
            pending = c0.state.pending;
          };
          done = c0.done;
        })

    begin_fits : fits config es (Begin 0 (single k)) ≡ true
    begin_fits = λ i. le-leb 1 k (omega arith) i && le-leb k LAST_COUNT (omega (arith, room)) i && lt-ltb 0 config.coordinators lead i && true

    legal1 : Legal config (settling.begun config es)
    legal1 = (legal, record { own_node = refl; event_fits = begin_fits; own_messages = refl })

    up1 : RunUpTo k config (settling.begun config es)
    up1 = one_begin k config es (more_rounds (top_count config es) k config es (omega arith) up_to) 0 (single k) lead (omega arith)

    -- ---- acceptors answer

    abbrev are : (i : ℕ) → i < config.acceptors → IsHistory (reply i).vote
    are i h = (kept.acceptors i).sound.vote

    abbrev answers_of : ℕ → Stamped
    answers_of = answer_of e (single k) 0 config reply are c0.state.pending c0.done some

    abbrev es2 : List Entry
    es2 = sweep config Acceptor config.acceptors Kind.P1a (length (messages es)) (settling.begun config es)

    took2 : AcceptorsTook config (InEpoch e (Asked (single k)) ∷ []) (settling.begun config es) (sweep config Acceptor config.acceptors Kind.P1a (length (messages es)) (settling.begun config es))
    took2 = acceptors_take config _ (InEpoch e (Asked (single k)) ∷ []) (settling.begun config es) (picks_new Kind.P1a (messages es) (InEpoch e (Asked (single k)) ∷ []) (messages (settling.begun config es)) sent1)

    above : (a : ℕ) → a < config.acceptors → earlier (acceptor_at config a es).state.round (single k) ≡ true
    above a h = below_is_earlier (acceptor_at config a es).state.round (single k) (let u = (up_to.acceptors a h).round in omega (arith, u))

    above_vote : (a : ℕ) → a < config.acceptors → earlier (acceptor_at config a es).state.voted (single k) ≡ true
    above_vote a h = below_is_earlier (acceptor_at config a es).state.voted (single k) (let u = (up_to.acceptors a h).voted in omega (arith, u))

    -- the acceptors of the run before, since the beginning is none of theirs
    asks : (a : ℕ) → a < config.acceptors → run acceptor.take (acceptor_at config a es) (InEpoch e (Asked (single k)) ∷ []) ≡ (asked (acceptor_at config a es) (single k), answers_of a ∷ [])
    asks a h =
        (λ i. ((takes_question (acceptor_at config a es) e (single k) (answers a h) (above a h) i).0, option_to_list (takes_question (acceptor_at config a es) e (single k) (answers a h) (above a h) i).1 ++ []))
        ∙ (λ i. (asked (acceptor_at config a es) (single k), InEpoch e (Answered (single k) ((kept.acceptors a).sound.own_number i) (acceptor_at config a es).state.voted (acceptor_at config a es).state.vote) ∷ []))

    acceptors2 : (a : ℕ) → a < config.acceptors → acceptor_at config a es2 ≡ asked (acceptor_at config a es) (single k)
    acceptors2 a h = took2.acceptors a h ∙ ap (λ (u : AcceptorInEpoch × List Stamped). u.0) (asks a h)

    abbrev new2 : List Stamped
    new2 = InEpoch e (Asked (single k)) ∷ outs answers_of config.acceptors

    sent2 : messages es2 ≡ messages es ++ (InEpoch e (Asked (single k)) ∷ outs answers_of config.acceptors)
    sent2 =
        took2.sent
        ∙ (λ i. sent1 i ++ all_sent_outs (λ a. (run acceptor.take (acceptor_at config a es) (InEpoch e (Asked (single k)) ∷ [])).1) answers_of config.acceptors (λ a h. ap (λ (u : AcceptorInEpoch × List Stamped). u.1) (asks a h)) i)
        ∙ append_assoc (messages es) (InEpoch e (Asked (single k)) ∷ []) (outs answers_of config.acceptors)

    -- ---- coordinator 0 takes the answers, and sends a value

    abbrev es3 : List Entry
    es3 = sweep config Coordinator 1 Kind.P1b (length (messages es)) es2

    picked3 : filter (is_of Kind.P1b) (InEpoch e (Asked (single k)) ∷ outs answers_of config.acceptors) ≡ outs answers_of config.acceptors
    picked3 = all_outs (is_of Kind.P1b) answers_of config.acceptors (λ i h. refl)

    took3 : CoordinatorsTook config 1 (outs answers_of config.acceptors) es2 (sweep config Coordinator 1 Kind.P1b (length (messages es)) es2)
    took3 = coordinators_take config 1 _ (outs answers_of config.acceptors) es2
        (subst (Picked (messages es2) (places Kind.P1b (length (messages es)) (messages es2))) picked3 (picks_new Kind.P1b (messages es) (InEpoch e (Asked (single k)) ∷ outs answers_of config.acceptors) (messages es2) sent2))

    collected : HasSent e (single k) 0 config reply are c0.state.pending c0.done some (run coordinator.take (with_answers e (single k) 0 config reply are c0.state.pending c0.done some (unanswered config.acceptors) None) (outs answers_of config.acceptors))
    collected = all_collected e (single k) 0 config reply are c0.state.pending c0.done some

    -- the value of the pass
    pub value : History
    value = collected.value

    waiting2 : coordinator_at config 0 es2 ≡ with_answers e (single k) 0 config reply are c0.state.pending c0.done some (unanswered config.acceptors) None
    waiting2 = took2.coordinators 0 ∙ waiting

    ran3 : run coordinator.take (coordinator_at config 0 es2) (outs answers_of config.acceptors) ≡ (with_answers e (single k) 0 config reply are c0.state.pending c0.done some collected.answers (Some value), InEpoch e (Sent (single k) 0 value) ∷ [])
    unfolding value
    ran3 = ap (λ (s : CoordinatorInEpoch). run coordinator.take s (outs answers_of config.acceptors)) waiting2 ∙ collected.is

    coordinator3 : coordinator_at config 0 es3 ≡ with_answers e (single k) 0 config reply are c0.state.pending c0.done some collected.answers (Some value)
    coordinator3 = took3.coordinators 0 (omega arith) ∙ ap (λ (u : CoordinatorInEpoch × List Stamped). u.0) ran3

    abbrev new3 : List Stamped
    new3 = (InEpoch e (Asked (single k)) ∷ outs answers_of config.acceptors) ++ InEpoch e (Sent (single k) 0 value) ∷ []

    sent3 : messages es3 ≡ messages es ++ ((InEpoch e (Asked (single k)) ∷ outs answers_of config.acceptors) ++ InEpoch e (Sent (single k) 0 value) ∷ [])
    sent3 =
        took3.sent
        ∙ (λ i. sent2 i ++ (ran3 i).1)
        ∙ append_assoc (messages es) (InEpoch e (Asked (single k)) ∷ outs answers_of config.acceptors) (InEpoch e (Sent (single k) 0 value) ∷ [])

    -- ---- acceptors vote for it

    abbrev es4 : List Entry
    es4 = sweep config Acceptor config.acceptors Kind.P2a (length (messages es)) es3

    picked4 : filter (is_of Kind.P2a) ((InEpoch e (Asked (single k)) ∷ outs answers_of config.acceptors) ++ InEpoch e (Sent (single k) 0 value) ∷ []) ≡ InEpoch e (Sent (single k) 0 value) ∷ []
    picked4 = filter-append (is_of Kind.P2a) (InEpoch e (Asked (single k)) ∷ outs answers_of config.acceptors) (InEpoch e (Sent (single k) 0 value) ∷ []) ∙ ap (λ xs. xs ++ InEpoch e (Sent (single k) 0 value) ∷ []) (no_outs (is_of Kind.P2a) answers_of config.acceptors (λ i h. refl))

    took4 : AcceptorsTook config (InEpoch e (Sent (single k) 0 value) ∷ []) es3 (sweep config Acceptor config.acceptors Kind.P2a (length (messages es)) es3)
    took4 = acceptors_take config _ (InEpoch e (Sent (single k) 0 value) ∷ []) es3
        (subst (Picked (messages es3) (places Kind.P2a (length (messages es)) (messages es3))) picked4 (picks_new Kind.P2a (messages es) ((InEpoch e (Asked (single k)) ∷ outs answers_of config.acceptors) ++ InEpoch e (Sent (single k) 0 value) ∷ []) (messages es3) sent3))

    pub value_history : IsHistory value
    unfolding value
    value_history = collected.history

    acceptors3 : (a : ℕ) → a < config.acceptors → acceptor_at config a es3 ≡ asked (acceptor_at config a es) (single k)
    acceptors3 a h = took3.acceptors a ∙ acceptors2 a h

    abbrev votes_of : ℕ → Stamped
    votes_of i = InEpoch e (Voted (single k) i value)

    voted : (a : ℕ) → a < config.acceptors → (run acceptor.take (acceptor_at config a es3) (InEpoch e (Sent (single k) 0 value) ∷ [])).1 ≡ votes_of a ∷ []
    voted a h =
        ap (λ (s : AcceptorInEpoch). option_to_list (acceptor.take s (InEpoch e (Sent (single k) 0 value))).1 ++ []) (acceptors3 a h)
        ∙ ap (λ o. option_to_list o ++ []) (votes (acceptor_at config a es) e k value value_history (answers a h) (subst (λ (c : Counts). 0 < c.coordinators) (sym (kept.acceptors a).sound.own_config) lead) (above_vote a h))
        ∙ (λ i. InEpoch e (Voted (single k) ((kept.acceptors a).sound.own_number i) value) ∷ [])

    epoch4 : (a : ℕ) → a < config.acceptors → (acceptor_at config a es4).epoch ≡ e
    epoch4 a h = ap (λ (s : AcceptorInEpoch). s.epoch) (took4.acceptors a h) ∙ same_epoch (acceptor_at config a es3) e (Sent (single k) 0 value) ∙ ap (λ (s : AcceptorInEpoch). s.epoch) (acceptors3 a h) ∙ answers a h

    abbrev new4 : List Stamped
    new4 = ((InEpoch e (Asked (single k)) ∷ outs answers_of config.acceptors) ++ InEpoch e (Sent (single k) 0 value) ∷ []) ++ outs votes_of config.acceptors

    sent4 : messages es4 ≡ messages es ++ (((InEpoch e (Asked (single k)) ∷ outs answers_of config.acceptors) ++ InEpoch e (Sent (single k) 0 value) ∷ []) ++ outs votes_of config.acceptors)
    sent4 =
        took4.sent
        ∙ (λ i. sent3 i ++ all_sent_outs (λ a. (run acceptor.take (acceptor_at config a es3) (InEpoch e (Sent (single k) 0 value) ∷ [])).1) votes_of config.acceptors voted i)
        ∙ append_assoc (messages es) ((InEpoch e (Asked (single k)) ∷ outs answers_of config.acceptors) ++ InEpoch e (Sent (single k) 0 value) ∷ []) (outs votes_of config.acceptors)

    -- ---- learners hear the votes

    picked5 : filter (is_of Kind.P2b) (((InEpoch e (Asked (single k)) ∷ outs answers_of config.acceptors) ++ InEpoch e (Sent (single k) 0 value) ∷ []) ++ outs votes_of config.acceptors) ≡ outs votes_of config.acceptors
    picked5 =
        filter-append (is_of Kind.P2b) ((InEpoch e (Asked (single k)) ∷ outs answers_of config.acceptors) ++ InEpoch e (Sent (single k) 0 value) ∷ []) (outs votes_of config.acceptors)
        ∙ (λ i. filter-append (is_of Kind.P2b) (InEpoch e (Asked (single k)) ∷ outs answers_of config.acceptors) (InEpoch e (Sent (single k) 0 value) ∷ []) i ++ all_outs (is_of Kind.P2b) votes_of config.acceptors (λ a h. refl) i)
        ∙ (λ i. (no_outs (is_of Kind.P2b) answers_of config.acceptors (λ a h. refl) i ++ []) ++ outs votes_of config.acceptors)

    took5 : LearnersTook config (outs votes_of config.acceptors) es4 (pass config es)
    took5 = learners_take config _ (outs votes_of config.acceptors) es4
        (subst (Picked (messages es4) (places Kind.P2b (length (messages es)) (messages es4))) picked5 (picks_new Kind.P2b (messages es) (((InEpoch e (Asked (single k)) ∷ outs answers_of config.acceptors) ++ InEpoch e (Sent (single k) 0 value) ∷ []) ++ outs votes_of config.acceptors) (messages es4) sent4))

    learners4 : (l : ℕ) → learner_at config l es4 ≡ learner_at config l es
    learners4 l = took4.learners l ∙ took3.learners l ∙ took2.learners l

    opened : (l : ℕ) → l < config.learners → learner_at config l es4 ≡ open_with config e (single k) l value value_history (learner_at config l es).state.learned some refl (λ i. None) (nothing_before value) (learner_at config l es).state.votes (learner_at config l es).state.learned (learner_at config l es).learned
    opened l h = learners4 l ∙ (λ i. record {
      epoch = hears l h i;
      state = record { config = (kept.learners l).sound.own_config i; number = (kept.learners l).sound.own_number i; votes = (learner_at config l es).state.votes; learned = (learner_at config l es).state.learned };
      learned = (learner_at config l es).learned;
    })

    no_votes : (l : ℕ) → l < config.learners → (i : ℕ) → vote_of (learner_at config l es).state.votes (single k) i ≡ None
    no_votes l h i = no_vote_above (top_count config es) (learner_at config l es).state.votes (single k) i (up_to.learners l h) (omega arith)

    abbrev ran5 : ℕ → LearnerInEpoch × List Stamped
    ran5 l = run learner.take (learner_at config l es4) (outs votes_of config.acceptors)

    heard_by : (l : ℕ) → l < config.learners → ran5 l ≡ run learner.take (open_with config e (single k) l value value_history (learner_at config l es).state.learned some refl (λ i. None) (nothing_before value) (learner_at config l es).state.votes (learner_at config l es).state.learned (learner_at config l es).learned) (outs votes_of config.acceptors)
    heard_by l h = ap (λ (s : LearnerInEpoch). run learner.take s (outs votes_of config.acceptors)) (opened l h)

    shows : first_checkpoint value ≡ None → (l : ℕ) → l < config.learners → HasShown config.acceptors e (single k) (λ i. None) value (ran5 l)
    shows plain l h = subst (HasShown config.acceptors e (single k) (λ i. None) value) (sym (heard_by l h))
        (all_shown config e (single k) l value value_history (learner_at config l es).state.learned some refl (λ i. None) (nothing_before value) (learner_at config l es).state.votes (learner_at config l es).learned (no_votes l h) (kept.learners l).plain (kept.learners l).sound.part (kept.learners l).learned plain)

    closes : (z : Command) → first_checkpoint value ≡ Some z → (l : ℕ) → l < config.learners → HasClosed config e l value (learner_at config l es).state.learned (ran5 l)
    closes z first l h = subst (HasClosed config e l value (learner_at config l es).state.learned) (sym (heard_by l h))
        (all_closed config e (single k) l value value_history (learner_at config l es).state.learned some refl (λ i. None) (nothing_before value) (learner_at config l es).state.votes (learner_at config l es).learned (no_votes l h) (kept.learners l).plain (kept.learners l).sound.part (kept.learners l).learned z first)

    -- ---- all that the pass did

    abbrev zs : List Entry
    zs = pass config es

    entries : length (pass config es) ≡ length es + (1 + 3 * config.acceptors + config.acceptors * config.learners)
    entries =
        let a = took2.entries in
        let b = took3.entries in
        let c = took4.entries in
        let d = took5.entries in
        let x : length (outs answers_of config.acceptors) ≡ config.acceptors = length-outs answers_of config.acceptors in
        let y : length (outs votes_of config.acceptors) ≡ config.acceptors = length-outs votes_of config.acceptors in
        let f : config.learners * length (outs votes_of config.acceptors) ≡ config.acceptors * config.learners = ap (λ n. config.learners * n) y ∙ mul_comm config.learners config.acceptors in
        omega (arith, a, b, c, d, x, f)

    legal_after : Legal config (pass config es)
    legal_after = took5.legal (took4.legal (took3.legal lead (took2.legal legal1)))

    rounds_after : RunUpTo k config (pass config es)
    rounds_after =
        swept_up_to k config Learner config.learners (places Kind.P2b (length (messages es)) (messages es4)) es4 (λ i h. lt-ltb i config.learners h)
        (swept_up_to k config Acceptor config.acceptors (places Kind.P2a (length (messages es)) (messages es3)) es3 (λ i h. lt-ltb i config.acceptors h)
        (swept_up_to k config Coordinator 1 (places Kind.P1b (length (messages es)) (messages es2)) es2 (λ i h. lt-ltb i config.coordinators (omega (arith, h, lead)))
        (swept_up_to k config Acceptor config.acceptors (places Kind.P1a (length (messages es)) (messages (settling.begun config es))) (settling.begun config es) (λ i h. lt-ltb i config.acceptors h) up1)))

    -- ---- what comes out

    calm : AreWithin (((InEpoch e (Asked (single k)) ∷ outs answers_of config.acceptors) ++ InEpoch e (Sent (single k) 0 value) ∷ []) ++ outs votes_of config.acceptors)
    calm =
        both_within ((InEpoch e (Asked (single k)) ∷ outs answers_of config.acceptors) ++ InEpoch e (Sent (single k) 0 value) ∷ []) (outs votes_of config.acceptors)
        (both_within (InEpoch e (Asked (single k)) ∷ outs answers_of config.acceptors) (InEpoch e (Sent (single k) 0 value) ∷ [])
        (both_within (InEpoch e (Asked (single k)) ∷ []) (outs answers_of config.acceptors) (one_within e (Asked (single k))) (outs_within e (λ i. Answered (single k) i (reply i).round (reply i).vote) config.acceptors))
        (one_within e (Sent (single k) 0 value)))
        (outs_within e (λ i. Voted (single k) i value) config.acceptors)

    no_finals : filter (is_of Kind.Final) (((InEpoch e (Asked (single k)) ∷ outs answers_of config.acceptors) ++ InEpoch e (Sent (single k) 0 value) ∷ []) ++ outs votes_of config.acceptors) ≡ []
    no_finals =
        filter-append (is_of Kind.Final) ((InEpoch e (Asked (single k)) ∷ outs answers_of config.acceptors) ++ InEpoch e (Sent (single k) 0 value) ∷ []) (outs votes_of config.acceptors)
        ∙ (λ i. filter-append (is_of Kind.Final) (InEpoch e (Asked (single k)) ∷ outs answers_of config.acceptors) (InEpoch e (Sent (single k) 0 value) ∷ []) i ++ no_outs (is_of Kind.Final) votes_of config.acceptors (λ a h. refl) i)
        ∙ (λ i. (no_outs (is_of Kind.Final) answers_of config.acceptors (λ a h. refl) i ++ []) ++ [])

    quiet_pass : first_checkpoint value ≡ None → PassShows config es value
    quiet_pass plain = record {
      quiet = picked_none (messages (pass config es)) (finals_of_pass config es) (subst (Picked (messages (pass config es)) (finals_of_pass config es)) no_finals
          (picks_new Kind.Final (messages es) (((InEpoch e (Asked (single k)) ∷ outs answers_of config.acceptors) ++ InEpoch e (Sent (single k) 0 value) ∷ []) ++ outs votes_of config.acceptors) (messages (pass config es)) all_sent5));
      more = ((InEpoch e (Asked (single k)) ∷ outs answers_of config.acceptors) ++ InEpoch e (Sent (single k) 0 value) ∷ []) ++ outs votes_of config.acceptors;
      sent = all_sent5;
      calm = calm;
      hears = λ l h. ap (λ (s : LearnerInEpoch). s.epoch) (took5.learners l h) ∙ (shows plain l h).epoch ∙ sym (hears l h);
      shown = λ l h c t. ap (λ (s : LearnerInEpoch). has s.learned c) (took5.learners l h) ∙ (shows plain l h).shown c t;
    } where
      all_sent5 : messages (pass config es) ≡ messages es ++ (((InEpoch e (Asked (single k)) ∷ outs answers_of config.acceptors) ++ InEpoch e (Sent (single k) 0 value) ∷ []) ++ outs votes_of config.acceptors)
      all_sent5 =
          took5.sent
          ∙ (λ i. sent4 i ++ none_sent (λ l. (ran5 l).1) config.learners (λ l h. (shows plain l h).sent) i)
          ∙ append-nil (messages es ++ (((InEpoch e (Asked (single k)) ∷ outs answers_of config.acceptors) ++ InEpoch e (Sent (single k) 0 value) ∷ []) ++ outs votes_of config.acceptors))

    closing_pass : (z : Command) → first_checkpoint value ≡ Some z → 0 < config.learners → PassCloses config es e value
    closing_pass z first one = record {
      more = ((InEpoch e (Asked (single k)) ∷ outs answers_of config.acceptors) ++ InEpoch e (Sent (single k) 0 value) ∷ []) ++ outs votes_of config.acceptors;
      finals = finals;
      sent = all_sent5;
      calm = calm;
      first = picked_first (messages (pass config es)) (finals_of_pass config es) (Final e 0 (finals 0)) front.0 (subst (Picked (messages (pass config es)) (finals_of_pass config es)) (filtered ∙ front.1)
          (picks_new Kind.Final (messages es) ((((InEpoch e (Asked (single k)) ∷ outs answers_of config.acceptors) ++ InEpoch e (Sent (single k) 0 value) ∷ []) ++ outs votes_of config.acceptors) ++ outs (λ l. Final e l (finals l)) config.learners) (messages (pass config es)) behind_old));
      closings = λ l h. let r = closes z first l h in record {
        whole = r.whole;
        first = r.first;
        history = r.history;
        first_is = r.first_is;
        is_cut = ap (λ (u : LearnerInEpoch × List Stamped). final_of u.1) r.is;
        from = r.from;
        epoch = ap (λ (s : LearnerInEpoch). s.epoch) (took5.learners l h) ∙ ap (λ (u : LearnerInEpoch × List Stamped). u.0.epoch) r.is;
        state = ap (λ (s : LearnerInEpoch). s.state) (took5.learners l h) ∙ ap (λ (u : LearnerInEpoch × List Stamped). u.0.state) r.is;
      };
    } where
      finals : ℕ → History
      finals l = final_of (ran5 l).1

      each : (l : ℕ) → l < config.learners → (ran5 l).1 ≡ Final e l (finals l) ∷ []
      each l h = let r = closes z first l h in ap (λ (u : LearnerInEpoch × List Stamped). u.1) r.is ∙ (λ i. Final e l (final_of ((sym r.is i).1)) ∷ [])

      all_sent5 : messages (pass config es) ≡ (messages es ++ (((InEpoch e (Asked (single k)) ∷ outs answers_of config.acceptors) ++ InEpoch e (Sent (single k) 0 value) ∷ []) ++ outs votes_of config.acceptors)) ++ outs (λ l. Final e l (finals l)) config.learners
      all_sent5 = took5.sent ∙ (λ i. sent4 i ++ all_sent_outs (λ l. (ran5 l).1) (λ l. Final e l (finals l)) config.learners each i)

      behind_old : messages (pass config es) ≡ messages es ++ ((((InEpoch e (Asked (single k)) ∷ outs answers_of config.acceptors) ++ InEpoch e (Sent (single k) 0 value) ∷ []) ++ outs votes_of config.acceptors) ++ outs (λ l. Final e l (finals l)) config.learners)
      behind_old = all_sent5 ∙ append_assoc (messages es) (((InEpoch e (Asked (single k)) ∷ outs answers_of config.acceptors) ++ InEpoch e (Sent (single k) 0 value) ∷ []) ++ outs votes_of config.acceptors) (outs (λ l. Final e l (finals l)) config.learners)

      filtered : filter (is_of Kind.Final) ((((InEpoch e (Asked (single k)) ∷ outs answers_of config.acceptors) ++ InEpoch e (Sent (single k) 0 value) ∷ []) ++ outs votes_of config.acceptors) ++ outs (λ l. Final e l (finals l)) config.learners) ≡ outs (λ l. Final e l (finals l)) config.learners
      filtered =
          filter-append (is_of Kind.Final) (((InEpoch e (Asked (single k)) ∷ outs answers_of config.acceptors) ++ InEpoch e (Sent (single k) 0 value) ∷ []) ++ outs votes_of config.acceptors) (outs (λ l. Final e l (finals l)) config.learners)
          ∙ (λ i. no_finals i ++ all_outs (is_of Kind.Final) (λ l. Final e l (finals l)) config.learners (λ l h. refl) i)

      front : (rest : List Stamped) × (outs (λ l. Final e l (finals l)) config.learners ≡ Final e 0 (finals 0) ∷ rest)
      front = outs_first (λ l. Final e l (finals l)) config.learners one

    outcome : (o : Option Command) → first_checkpoint value ≡ o → 0 < config.learners → PassShows config es value ⊎ PassCloses config es e value
    outcome None q one = inl (quiet_pass q)
    outcome (Some z) q one = inr (closing_pass z q one)

    pub one_pass : 0 < config.learners → PassMade config es e
    unfolding value
    one_pass one = record {
      value = value;
      history = value_history;
      whole = collected.whole;
      from = collected.from;
      legal = legal_after;
      rounds = rounds_after;
      entries = entries;
      leads = ap (λ (s : CoordinatorInEpoch). s.epoch) (took5.coordinators 0 ∙ took4.coordinators 0 ∙ coordinator3);
      pending = ap (λ (s : CoordinatorInEpoch). s.state.pending) (took5.coordinators 0 ∙ took4.coordinators 0 ∙ coordinator3);
      answers = λ a h. ap (λ (s : AcceptorInEpoch). s.epoch) (took5.acceptors a) ∙ epoch4 a h;
      outcome = outcome (first_checkpoint value) refl one;
    }
