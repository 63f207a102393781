-- The second half of a drive: acceptors vote for the value of two coordinators, and learners hear it.
use Rattle.std.proofs.Common.{◌≡◌, ℕ, ◌+◌, ◌*◌, ◌<◌, ◌≤◌, ◌≢◌, true, List, [], ◌∷◌, ◌++◌, length, Some, None, refl, sym, ap, ◌∙◌, subst, arith, append_assoc}
use Rattle.std.proofs.Math.Nat.{mul_comm}
use Rattle.std.specs.Prelude.{Option, filter}
use Rattle.gp_command.specs.declared.command.Command.{Command}
use Rattle.gp_history.specs.History.{History, IsHistory, has}
use Rattle.gp_round.specs.Counts.{Counts}
use Rattle.gp_msg.specs.Messages.{Sent, Voted, Stamped, InEpoch, Entry}
use Rattle.gp_msg.specs.declared.node.Node.{Node}
use Rattle.gp_msg.specs.declared.node.Node.TheVariants.{Coordinator, Acceptor, Learner}
use Rattle.gp_learner.specs.Table.{vote_of}
use Rattle.gp_epoch.specs.Cut.{first_checkpoint}
use Rattle.gp_msg.specs.declared.message.MsgKind.TheVariants as Kind
use Rattle.gp_run.specs.Messages.{messages}
use Rattle.gp_run.specs.Legal.{Legal}
use Rattle.gp_run.specs.Runs.{AreOfOthers}
use Rattle.gp_run.specs.States.{proposer_at, coordinator_at, acceptor_at, learner_at}
use Rattle.gp_acceptor.specs.Epochs.{AcceptorInEpoch}
use Rattle.gp_acceptor.specs.Epochs as acceptor
use Rattle.gp_learner.specs.Epochs.{LearnerInEpoch}
use Rattle.gp_learner.specs.Epochs as learner
use Rattle.gp_driver.specs.Sweeps.{is_of, places, swept, sweep}
use Rattle.gp_driver.specs.Phases.{voted_from}
use Rattle.gp_driver.specs.Driving.{first_round}
use Rattle.gp_driver.specs.Driven.{beginnings}
use Rattle.gp_driver.proofs.Lists.{Picked, filter-append, outs, length-outs, all_outs}
use Rattle.gp_driver.proofs.Sweeping.{run, all_sent_outs, stays_while_swept}
use Rattle.gp_driver.proofs.Roles.{AcceptorsTook, acceptors_take, LearnersTook, learners_take}
use Rattle.gp_driver.proofs.Hearing.{open_with, FitsBefore, HasShown, all_shown}
use Rattle.gp_driver.proofs.RunsKeep.{RunKept, run_kept}
use Rattle.gp_driver.proofs.TopRounds.{kept_while_swept}
use Rattle.gp_driver.proofs.Passing.{picks_new}
use Rattle.gp_driver.proofs.MultiVotes.{voter}

-- sweeps are no business of proposers, of coordinators that they leave out, and begin nothing
pub proposer_while_swept : (config : Counts) (node : ℕ → Node) (n : ℕ) (ks : List ℕ) (es : List Entry) → proposer_at 0 (swept config node n ks es) ≡ proposer_at 0 es
proposer_while_swept config node n ks es = stays_while_swept config node (proposer_at 0) (λ fs i k. refl) n ks es

pub beginnings_while_swept : (config : Counts) (node : ℕ → Node) (n : ℕ) (ks : List ℕ) (es : List Entry) → beginnings (swept config node n ks es) ≡ beginnings es
beginnings_while_swept config node n ks es = stays_while_swept config node beginnings (λ fs i k. refl) n ks es

pub others_while_swept : (config : Counts) (node : ℕ → Node) (n : ℕ) (ks : List ℕ) (es : List Entry) → ((i : ℕ) → i < n → node i ≢ Coordinator 2) → AreOfOthers (Coordinator 2) es → AreOfOthers (Coordinator 2) (swept config node n ks es)
others_while_swept config node n ks es other h = kept_while_swept config (AreOfOthers (Coordinator 2)) node n ks es (λ i l fs k was. (other i l, was)) h

pub acceptor_is_other : (i : ℕ) → Acceptor i ≢ Coordinator 2
acceptor_is_other i e = cc

pub learner_is_other : (i : ℕ) → Learner i ≢ Coordinator 2
learner_is_other i e = cc

abbrev pub two_sent : History → List Stamped
two_sent k = InEpoch 0 (Sent first_round 0 k) ∷ InEpoch 0 (Sent first_round 1 k) ∷ []

-- what is known then
pub record AreVoted (acceptors learners : ℕ) (k : History) (before : ℕ → Option History) (es zs : List Entry) : Type 0 where
  pub legal : Legal (record { acceptors = acceptors; coordinators = 3; learners = learners }) zs
  pub proposer : proposer_at 0 zs ≡ proposer_at 0 es
  pub coordinators : (c : ℕ) → coordinator_at (record { acceptors = acceptors; coordinators = 3; learners = learners }) c zs ≡ coordinator_at (record { acceptors = acceptors; coordinators = 3; learners = learners }) c es
  pub votes : (a : ℕ) → a < acceptors → acceptor_at (record { acceptors = acceptors; coordinators = 3; learners = learners }) a zs ≡ voter (record { acceptors = acceptors; coordinators = 3; learners = learners }) a k
  pub epochs : (l : ℕ) → l < learners → (learner_at (record { acceptors = acceptors; coordinators = 3; learners = learners }) l zs).epoch ≡ 0
  pub given : (l : ℕ) → l < learners → (i : ℕ) → i < acceptors → vote_of (learner_at (record { acceptors = acceptors; coordinators = 3; learners = learners }) l zs).state.votes first_round i ≡ Some k
  pub old : (l : ℕ) → l < learners → (i : ℕ) → acceptors ≤ i → vote_of (learner_at (record { acceptors = acceptors; coordinators = 3; learners = learners }) l zs).state.votes first_round i ≡ before i
  pub shown : (l : ℕ) → l < learners → (c : Command) → has k c ≡ true → has (learner_at (record { acceptors = acceptors; coordinators = 3; learners = learners }) l zs).learned c ≡ true
  pub entries : length zs ≡ length es + (2 * acceptors + acceptors * learners)
  pub beginnings_same : beginnings zs ≡ beginnings es
  pub silent : AreOfOthers (Coordinator 2) es → AreOfOthers (Coordinator 2) zs

module _ (acceptors learners : ℕ) (some : 0 < acceptors) (es : List Entry) (old new : List Stamped) (k : History) (wk : IsHistory k) (plain : first_checkpoint k ≡ None)
    (legal : Legal (record { acceptors = acceptors; coordinators = 3; learners = learners }) es) (sent : messages es ≡ old ++ new) (two : filter (is_of Kind.P2a) new ≡ two_sent k) (quiet : filter (is_of Kind.P2b) new ≡ [])
    (votes : (a : ℕ) → a < acceptors → run acceptor.take (acceptor_at (record { acceptors = acceptors; coordinators = 3; learners = learners }) a es) (two_sent k) ≡ (voter (record { acceptors = acceptors; coordinators = 3; learners = learners }) a k, InEpoch 0 (Voted first_round a k) ∷ []))
    (epochs : (l : ℕ) → l < learners → (learner_at (record { acceptors = acceptors; coordinators = 3; learners = learners }) l es).epoch ≡ 0)
    (before : ℕ → Option History) (fit : FitsBefore before k) (fresh : (l : ℕ) → l < learners → (i : ℕ) → vote_of (learner_at (record { acceptors = acceptors; coordinators = 3; learners = learners }) l es).state.votes first_round i ≡ before i)
  where
    abbrev config : Counts
    config = record { acceptors = acceptors; coordinators = 3; learners = learners }

    kept : RunKept config es
    kept = run_kept config es legal

    abbrev es1 : List Entry
    es1 = sweep config Acceptor acceptors Kind.P2a (length old) es

    took1 : AcceptorsTook config (two_sent k) es (sweep config Acceptor acceptors Kind.P2a (length old) es)
    took1 = acceptors_take config (places Kind.P2a (length old) (messages es)) (two_sent k) es (subst (Picked (messages es) (places Kind.P2a (length old) (messages es))) two (picks_new Kind.P2a old new (messages es) sent))

    abbrev votes_of : ℕ → Stamped
    votes_of a = InEpoch 0 (Voted first_round a k)

    sent1 : messages es1 ≡ old ++ (new ++ outs votes_of acceptors)
    sent1 =
        took1.sent
        ∙ (λ i. sent i ++ all_sent_outs (λ a. (run acceptor.take (acceptor_at config a es) (two_sent k)).1) votes_of acceptors (λ a h. ap (λ (u : AcceptorInEpoch × List Stamped). u.1) (votes a h)) i)
        ∙ append_assoc old new (outs votes_of acceptors)

    picked : filter (is_of Kind.P2b) (new ++ outs votes_of acceptors) ≡ outs votes_of acceptors
    picked = filter-append (is_of Kind.P2b) new (outs votes_of acceptors) ∙ (λ i. quiet i ++ all_outs (is_of Kind.P2b) votes_of acceptors (λ a h. refl) i)

    took2 : LearnersTook config (outs votes_of acceptors) es1 (voted_from config (length old) es)
    took2 = learners_take config (places Kind.P2b (length old) (messages es1)) (outs votes_of acceptors) es1
        (subst (Picked (messages es1) (places Kind.P2b (length old) (messages es1))) picked (picks_new Kind.P2b old (new ++ outs votes_of acceptors) (messages es1) sent1))

    opened : (l : ℕ) → l < learners → learner_at config l es1 ≡ open_with config 0 first_round l k wk (learner_at config l es).state.learned some refl before fit (learner_at config l es).state.votes (learner_at config l es).state.learned (learner_at config l es).learned
    opened l h = took1.learners l ∙ (λ i. record {
      epoch = epochs l h i;
      state = record { config = (kept.learners l).sound.own_config i; number = (kept.learners l).sound.own_number i; votes = (learner_at config l es).state.votes; learned = (learner_at config l es).state.learned };
      learned = (learner_at config l es).learned;
    })

    shows : (l : ℕ) → l < learners → HasShown acceptors 0 first_round before k (run learner.take (learner_at config l es1) (outs votes_of acceptors))
    shows l h = subst (HasShown acceptors 0 first_round before k) (sym (ap (λ (s : LearnerInEpoch). run learner.take s (outs votes_of acceptors)) (opened l h)))
        (all_shown config 0 first_round l k wk (learner_at config l es).state.learned some refl before fit (learner_at config l es).state.votes (learner_at config l es).learned (fresh l h) (kept.learners l).plain (kept.learners l).sound.part (kept.learners l).learned plain)

    pub are_voted : AreVoted acceptors learners k before es (voted_from config (length old) es)
    are_voted = record {
      legal = took2.legal (took1.legal legal);
      proposer = proposer_while_swept config Learner learners (places Kind.P2b (length old) (messages es1)) es1 ∙ proposer_while_swept config Acceptor acceptors (places Kind.P2a (length old) (messages es)) es;
      coordinators = λ c. took2.coordinators c ∙ took1.coordinators c;
      votes = λ a h. took2.acceptors a ∙ took1.acceptors a h ∙ ap (λ (u : AcceptorInEpoch × List Stamped). u.0) (votes a h);
      epochs = λ l h. ap (λ (s : LearnerInEpoch). s.epoch) (took2.learners l h) ∙ (shows l h).epoch;
      given = λ l h i q. ap (λ (s : LearnerInEpoch). vote_of s.state.votes first_round i) (took2.learners l h) ∙ (shows l h).given i q;
      old = λ l h i q. ap (λ (s : LearnerInEpoch). vote_of s.state.votes first_round i) (took2.learners l h) ∙ (shows l h).old i q;
      shown = λ l h c t. ap (λ (s : LearnerInEpoch). has s.learned c) (took2.learners l h) ∙ (shows l h).shown c t;
      entries =
          let a = took1.entries in
          let b = took2.entries in
          let y : length (outs votes_of acceptors) ≡ acceptors = length-outs votes_of acceptors in
          let f : learners * length (outs votes_of acceptors) ≡ acceptors * learners = ap (λ n. learners * n) y ∙ mul_comm learners acceptors in
          omega (arith, a, b, f);
      beginnings_same = beginnings_while_swept config Learner learners (places Kind.P2b (length old) (messages es1)) es1 ∙ beginnings_while_swept config Acceptor acceptors (places Kind.P2a (length old) (messages es)) es;
      silent = λ h. others_while_swept config Learner learners (places Kind.P2b (length old) (messages es1)) es1 (λ i l. learner_is_other i) (others_while_swept config Acceptor acceptors (places Kind.P2a (length old) (messages es)) es (λ i l. acceptor_is_other i) h);
    }
