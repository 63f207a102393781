-- The round is open: coordinators 0 and 1 lead it with nothing, and nothing is voted.
use Rattle.std.proofs.Common.{◌≡◌, ℕ, ◌+◌, ◌*◌, ◌<◌, List, [], ◌∷◌, ◌++◌, length, Some, None, inl, inr, refl, sym, ap, ◌∙◌, subst, arith}
use Rattle.std.specs.Prelude.{Option, filter}
use Rattle.std.specs.FinSet as set
use Rattle.gp_command.specs.Order.{command_cmp}
use Rattle.gp_history.specs.History.{History, IsHistory, has, empty}
use Rattle.gp_history.proofs.Tests.{not_true, never}
use Rattle.gp_history.proofs.Joins.{history_of-empty, empty_none}
use Rattle.gp_history.proofs.Bound.{empty_is_history}
use Rattle.gp_round.specs.Counts.{Counts}
use Rattle.gp_round.specs.Rounds.{round_zero}
use Rattle.gp_safe.specs.Choice.{Reply}
use Rattle.gp_msg.specs.Messages.{Asked, Answered, Sent, Stamped, InEpoch, Entry}
use Rattle.gp_msg.specs.declared.node.Node.TheVariants.{Coordinator, Acceptor}
use Rattle.gp_msg.specs.declared.event.Event.TheVariants.{Begin}
use Rattle.gp_coordinator.specs.Replies.{unanswered}
use Rattle.gp_msg.specs.declared.message.MsgKind.TheVariants as Kind
use Rattle.gp_run.specs.Messages.{messages}
use Rattle.gp_run.specs.Legal.{Legal}
use Rattle.gp_run.specs.Runs.{entry_after, AreOfOthers}
use Rattle.gp_run.specs.States.{coordinator_at, acceptor_at}
use Rattle.gp_coordinator.specs.Epochs.{CoordinatorInEpoch}
use Rattle.gp_coordinator.specs.Epochs as coordinator
use Rattle.gp_acceptor.specs.Epochs.{AcceptorInEpoch}
use Rattle.gp_acceptor.specs.Epochs as acceptor
use Rattle.gp_learner.specs.Table.{vote_of}
use Rattle.gp_learner.specs.Epochs.{LearnerInEpoch}
use Rattle.gp_learner.proofs.Parts.{nothing_marked}
use Rattle.gp_driver.specs.Sweeps.{is_of, places, sweep}
use Rattle.gp_driver.specs.Driving.{first_round, opened}
use Rattle.gp_driver.specs.Driven.{beginnings}
use Rattle.gp_driver.proofs.Lists.{Picked, filter-append, outs, length-outs, all_outs, no_outs}
use Rattle.gp_driver.proofs.Sweeping.{run, all_sent_outs}
use Rattle.gp_driver.proofs.Roles.{CoordinatorsTook, coordinators_take, AcceptorsTook, acceptors_take}
use Rattle.gp_driver.proofs.Collecting.{with_answers, HasSent, all_collected}
use Rattle.gp_driver.proofs.Hearing.{nothing_before}
use Rattle.gp_driver.proofs.Passing.{picks_new}
use Rattle.gp_driver.proofs.Leading.{no_commands, leading}
use Rattle.gp_driver.proofs.MultiVotes.{voter, listening, answers, votes_nothing}
use Rattle.gp_driver.proofs.MultiHearing.{proposer_while_swept, beginnings_while_swept, others_while_swept, acceptor_is_other, two_sent, AreVoted, are_voted}
use Rattle.gp_driver.proofs.Driven.{Drives, below_two, coordinator_is_other}

module _ (acceptors learners : ℕ) (some : 0 < acceptors) where
  abbrev config : Counts
  config = record { acceptors = acceptors; coordinators = 3; learners = learners }

  legal1 : Legal config (entry_after config [] (Begin 0 first_round) ∷ [])
  legal1 = (tt, record { own_node = refl; event_fits = refl; own_messages = refl })

  -- ---- coordinators 0 and 1 are asked

  abbrev es2 : List Entry
  es2 = sweep config Coordinator 2 Kind.P1a 0 (entry_after config [] (Begin 0 first_round) ∷ [])

  took2 : CoordinatorsTook config 2 (InEpoch 0 (Asked first_round) ∷ []) (entry_after config [] (Begin 0 first_round) ∷ []) (sweep config Coordinator 2 Kind.P1a 0 (entry_after config [] (Begin 0 first_round) ∷ []))
  took2 = coordinators_take config 2 (0 ∷ []) (InEpoch 0 (Asked first_round) ∷ []) (entry_after config [] (Begin 0 first_round) ∷ []) (refl, tt)

  sent2 : messages es2 ≡ InEpoch 0 (Asked first_round) ∷ []
  sent2 = took2.sent

  abbrev reply : ℕ → Reply
  reply a = record { round = round_zero; vote = empty }

  abbrev are : (i : ℕ) → i < acceptors → IsHistory (reply i).vote
  are i l = empty_is_history

  abbrev waits : ℕ → CoordinatorInEpoch
  waits i = with_answers 0 first_round i config reply are [] (set.empty {R = command_cmp}) some (unanswered acceptors) None

  waiting : (i : ℕ) → i < 2 → coordinator_at config i es2 ≡ waits i
  waiting = below_two (λ i. coordinator_at config i es2 ≡ waits i) (took2.coordinators 0 (omega arith)) (took2.coordinators 1 (omega arith))

  -- ---- acceptors answer

  abbrev es3 : List Entry
  es3 = sweep config Acceptor acceptors Kind.P1a 0 es2

  took3 : AcceptorsTook config (InEpoch 0 (Asked first_round) ∷ []) es2 (sweep config Acceptor acceptors Kind.P1a 0 es2)
  took3 = acceptors_take config (places Kind.P1a 0 (messages es2)) (InEpoch 0 (Asked first_round) ∷ []) es2 (picks_new Kind.P1a [] (InEpoch 0 (Asked first_round) ∷ []) (messages es2) sent2)

  abbrev answers_of : ℕ → Stamped
  answers_of a = InEpoch 0 (Answered first_round a round_zero empty)

  asked : (a : ℕ) → run acceptor.take (acceptor_at config a es2) (InEpoch 0 (Asked first_round) ∷ []) ≡ (listening acceptors learners a, answers_of a ∷ [])
  asked a = ap (λ (s : AcceptorInEpoch). run acceptor.take s (InEpoch 0 (Asked first_round) ∷ [])) (took2.acceptors a) ∙ answers acceptors learners a

  sent3 : messages es3 ≡ InEpoch 0 (Asked first_round) ∷ outs answers_of acceptors
  sent3 = took3.sent ∙ (λ i. sent2 i ++ all_sent_outs (λ a. (run acceptor.take (acceptor_at config a es2) (InEpoch 0 (Asked first_round) ∷ [])).1) answers_of acceptors (λ a h. ap (λ (u : AcceptorInEpoch × List Stamped). u.1) (asked a)) i)

  -- ---- coordinators 0 and 1 take the answers, and send nothing but the empty value

  abbrev es4 : List Entry
  es4 = sweep config Coordinator 2 Kind.P1b 0 es3

  picked4 : filter (is_of Kind.P1b) (InEpoch 0 (Asked first_round) ∷ outs answers_of acceptors) ≡ outs answers_of acceptors
  picked4 = all_outs (is_of Kind.P1b) answers_of acceptors (λ a h. refl)

  took4 : CoordinatorsTook config 2 (outs answers_of acceptors) es3 (sweep config Coordinator 2 Kind.P1b 0 es3)
  took4 = coordinators_take config 2 (places Kind.P1b 0 (messages es3)) (outs answers_of acceptors) es3 (subst (Picked (messages es3) (places Kind.P1b 0 (messages es3))) picked4 (picks_new Kind.P1b [] (InEpoch 0 (Asked first_round) ∷ outs answers_of acceptors) (messages es3) sent3))

  collected : (i : ℕ) → HasSent 0 first_round i config reply are [] (set.empty {R = command_cmp}) some (run coordinator.take (waits i) (outs answers_of acceptors))
  collected i = all_collected 0 first_round i config reply are [] (set.empty {R = command_cmp}) some

  is_empty : (i : ℕ) → (collected i).value ≡ empty
  is_empty i = no_commands (collected i).value (collected i).history (λ c. not_true (has (collected i).value c) (λ t. elim ((collected i).from c t) [
    | inl a ↦ absurd cc
    | inr a ↦ never (has empty c) a.2 (empty_none c)
  ]))

  ran4 : (i : ℕ) → i < 2 → run coordinator.take (coordinator_at config i es3) (outs answers_of acceptors) ≡ (leading config i (collected i).answers [] empty, InEpoch 0 (Sent first_round i empty) ∷ [])
  ran4 i l =
      ap (λ (s : CoordinatorInEpoch). run coordinator.take s (outs answers_of acceptors)) (took3.coordinators i ∙ waiting i l)
      ∙ (collected i).is
      ∙ (λ j. (leading config i (collected i).answers [] (is_empty i j), InEpoch 0 (Sent first_round i (is_empty i j)) ∷ []))

  sent4 : messages es4 ≡ (InEpoch 0 (Asked first_round) ∷ outs answers_of acceptors) ++ two_sent empty
  sent4 = took4.sent ∙ (λ i. sent3 i ++ (([] ++ (ran4 0 (omega arith) i).1) ++ (ran4 1 (omega arith) i).1))

  two : filter (is_of Kind.P2a) ((InEpoch 0 (Asked first_round) ∷ outs answers_of acceptors) ++ two_sent empty) ≡ two_sent empty
  two = filter-append (is_of Kind.P2a) (InEpoch 0 (Asked first_round) ∷ outs answers_of acceptors) (two_sent empty) ∙ ap (λ xs. xs ++ two_sent empty) (no_outs (is_of Kind.P2a) answers_of acceptors (λ a h. refl))

  quiet : filter (is_of Kind.P2b) ((InEpoch 0 (Asked first_round) ∷ outs answers_of acceptors) ++ two_sent empty) ≡ []
  quiet = filter-append (is_of Kind.P2b) (InEpoch 0 (Asked first_round) ∷ outs answers_of acceptors) (two_sent empty) ∙ ap (λ xs. xs ++ []) (no_outs (is_of Kind.P2b) answers_of acceptors (λ a h. refl))

  -- ---- acceptors vote for it

  voted : AreVoted acceptors learners empty (λ i. None) es4 (opened config)
  voted = are_voted acceptors learners some es4 [] ((InEpoch 0 (Asked first_round) ∷ outs answers_of acceptors) ++ two_sent empty) empty empty_is_history nothing_marked
      (took4.legal (omega arith) (took3.legal (took2.legal (omega arith) legal1))) sent4 two quiet
      (λ a h. ap (λ (s : AcceptorInEpoch). run acceptor.take s (two_sent empty)) (took4.acceptors a ∙ took3.acceptors a h ∙ ap (λ (u : AcceptorInEpoch × List Stamped). u.0) (asked a)) ∙ votes_nothing acceptors learners a)
      (λ l h. ap (λ s. s.epoch) (took4.learners l ∙ took3.learners l ∙ took2.learners l))
      (λ i. None) (nothing_before empty)
      (λ l h i. ap (λ s. learner_votes s i) (took4.learners l ∙ took3.learners l ∙ took2.learners l))
    where
      learner_votes : LearnerInEpoch → ℕ → Option History
      learner_votes s i = vote_of s.state.votes first_round i

  pub all_opened : Drives acceptors learners 0 [] (opened config)
  all_opened = record {
    legal = voted.legal;
    proposer =
        voted.proposer
        ∙ proposer_while_swept config Coordinator 2 (places Kind.P1b 0 (messages es3)) es3
        ∙ proposer_while_swept config Acceptor acceptors (places Kind.P1a 0 (messages es2)) es2
        ∙ proposer_while_swept config Coordinator 2 (0 ∷ []) (entry_after config [] (Begin 0 first_round) ∷ []);
    leaders = λ i l. record { answers = (collected i).answers; pending = []; is = voted.coordinators i ∙ took4.coordinators i l ∙ ap (λ (u : CoordinatorInEpoch × List Stamped). u.0) (ran4 i l) ∙ ap (leading config i (collected i).answers []) (sym history_of-empty) };
    votes = λ a h. voted.votes a h ∙ ap (voter config a) (sym history_of-empty);
    epochs = voted.epochs;
    given = λ l h i q. voted.given l h i q ∙ ap Some (sym history_of-empty);
    none = voted.old;
    shown = λ l h c t. absurd cc;
    distinct = refl;
    numbered = λ c t. absurd cc;
    plain = λ c t. absurd cc;
  }

  pub opened_entries : length (opened config) ≡ 3 + 5 * acceptors + acceptors * learners
  opened_entries =
      let a = voted.entries in
      let b = took4.entries in
      let c = took3.entries in
      let d = took2.entries in
      let x = length-outs answers_of acceptors in
      omega (arith, a, b, c, d, x)

  pub opened_beginnings : beginnings (opened config) ≡ Begin 0 first_round ∷ []
  opened_beginnings =
      voted.beginnings_same
      ∙ beginnings_while_swept config Coordinator 2 (places Kind.P1b 0 (messages es3)) es3
      ∙ beginnings_while_swept config Acceptor acceptors (places Kind.P1a 0 (messages es2)) es2
      ∙ beginnings_while_swept config Coordinator 2 (0 ∷ []) (entry_after config [] (Begin 0 first_round) ∷ [])

  pub opened_silent : AreOfOthers (Coordinator 2) (opened config)
  opened_silent =
      voted.silent
      (others_while_swept config Coordinator 2 (places Kind.P1b 0 (messages es3)) es3 coordinator_is_other
      (others_while_swept config Acceptor acceptors (places Kind.P1a 0 (messages es2)) es2 (λ i l. acceptor_is_other i)
      (others_while_swept config Coordinator 2 (0 ∷ []) (entry_after config [] (Begin 0 first_round) ∷ []) coordinator_is_other ((λ e. cc), tt))))
