-- Sweeps of coordinators, of acceptors and of learners.
use Rattle.std.proofs.Common.{◌≡◌, ℕ, ◌+◌, ◌*◌, ◌<◌, ◌≤◌, ◌≢◌, cond, List, ◌∷◌, ◌++◌, length, Some, None, refl, sym, ap, arith}
use Rattle.std.specs.Prelude.{Option, slice_get, nat_eq}
use Rattle.std.specs.Option.{option_to_list}
use Rattle.std.proofs.lemmas.Bool.{eq-eqb, ne_eqb, lt-ltb}
use Rattle.gp_round.specs.Counts.{Counts}
use Rattle.gp_msg.specs.declared.node.Node.TheVariants.{Coordinator, Acceptor, Learner}
use Rattle.gp_msg.specs.declared.event.Event.TheVariants.{Take}
use Rattle.gp_msg.specs.Messages.{Stamped, Entry}
use Rattle.gp_run.specs.Messages.{messages, on_message}
use Rattle.gp_run.specs.Legal.{Legal, sent_at}
use Rattle.gp_run.specs.Runs.{entry_after}
use Rattle.gp_run.specs.States.{coordinator_at, acceptor_at, learner_at}
use Rattle.gp_coordinator.specs.Epochs.{CoordinatorInEpoch}
use Rattle.gp_coordinator.specs.Epochs as coordinator
use Rattle.gp_acceptor.specs.Epochs.{AcceptorInEpoch}
use Rattle.gp_acceptor.specs.Epochs as acceptor
use Rattle.gp_learner.specs.Epochs.{LearnerInEpoch}
use Rattle.gp_learner.specs.Epochs as learner
use Rattle.gp_driver.specs.Sweeps.{swept}
use Rattle.gp_driver.proofs.Lists.{Picked}
use Rattle.gp_driver.proofs.Sweeping.{run, all_sent, sweeps, stays_while_swept}

taken : {S : Type 0} (take : S → Stamped → S × Option Stamped) (i : ℕ) (s : S) (o : Option Stamped) (m : Stamped) → o ≡ Some m → cond {A = S × Option Stamped} (nat_eq i i) (on_message (s, None) (take s) o) (s, None) ≡ take s m
taken take i s o m e = λ j. cond (eq-eqb i i refl j) (on_message (s, None) (take s) (e j)) (s, None)

not_taken : {S : Type 0} (i j : ℕ) (s : S) (u : S × Option Stamped) → i ≢ j → (cond (nat_eq j i) u (s, None)).0 ≡ s
not_taken i j s u n = ap (λ b. (cond b u (s, None)).0) (ne_eqb j i (λ e. n (sym e)))

-- ---- coordinators

coordinator_own : (config : Counts) (es : List Entry) (i k : ℕ) (m : Stamped) → slice_get (messages es) k ≡ Some m
    → (coordinator_at config i (entry_after config es (Take (Coordinator i) k) ∷ es) ≡ (coordinator.take (coordinator_at config i es) m).0)
    × (sent_at config es (Take (Coordinator i) k) ≡ option_to_list (coordinator.take (coordinator_at config i es) m).1)
coordinator_own config es i k m e =
    let t = taken coordinator.take i (coordinator_at config i es) (slice_get (messages es) k) m e in
    (ap (λ u. u.0) t, ap (λ u. option_to_list u.1) t)

coordinator_other : (config : Counts) (es : List Entry) (i j k : ℕ) → i ≢ j → coordinator_at config j (entry_after config es (Take (Coordinator i) k) ∷ es) ≡ coordinator_at config j es
coordinator_other config es i j k n = not_taken i j (coordinator_at config j es) (on_message (coordinator_at config j es, None) (coordinator.take (coordinator_at config j es)) (slice_get (messages es) k)) n

-- the first n coordinators took these messages
pub record CoordinatorsTook (config : Counts) (n : ℕ) (xs : List Stamped) (es zs : List Entry) : Type 0 where
  pub coordinators : (c : ℕ) → c < n → coordinator_at config c zs ≡ (run coordinator.take (coordinator_at config c es) xs).0
  pub others : (c : ℕ) → n ≤ c → coordinator_at config c zs ≡ coordinator_at config c es
  pub acceptors : (a : ℕ) → acceptor_at config a zs ≡ acceptor_at config a es
  pub learners : (l : ℕ) → learner_at config l zs ≡ learner_at config l es
  pub sent : messages zs ≡ messages es ++ all_sent (λ c. (run coordinator.take (coordinator_at config c es) xs).1) n
  pub legal : n ≤ config.coordinators → Legal config es → Legal config zs
  pub entries : length zs ≡ length es + n * length xs

pub coordinators_take : (config : Counts) (n : ℕ) (ks : List ℕ) (xs : List Stamped) (es : List Entry) → Picked (messages es) ks xs → CoordinatorsTook config n xs es (swept config Coordinator n ks es)
coordinators_take config n ks xs es p =
    let r = sweeps config Coordinator (coordinator_at config) coordinator.take (coordinator_own config) (coordinator_other config) n ks xs es p in
    record {
      coordinators = r.state;
      others = r.rest;
      acceptors = λ a. stays_while_swept config Coordinator (acceptor_at config a) (λ fs i k. refl) n ks es;
      learners = λ l. stays_while_swept config Coordinator (learner_at config l) (λ fs i k. refl) n ks es;
      sent = r.sent;
      legal = λ h. r.legal (λ i l. lt-ltb i config.coordinators (omega (arith, l, h)));
      entries = r.entries;
    }

-- ---- acceptors

acceptor_own : (config : Counts) (es : List Entry) (i k : ℕ) (m : Stamped) → slice_get (messages es) k ≡ Some m
    → (acceptor_at config i (entry_after config es (Take (Acceptor i) k) ∷ es) ≡ (acceptor.take (acceptor_at config i es) m).0)
    × (sent_at config es (Take (Acceptor i) k) ≡ option_to_list (acceptor.take (acceptor_at config i es) m).1)
acceptor_own config es i k m e =
    let t = taken acceptor.take i (acceptor_at config i es) (slice_get (messages es) k) m e in
    (ap (λ u. u.0) t, ap (λ u. option_to_list u.1) t)

acceptor_other : (config : Counts) (es : List Entry) (i j k : ℕ) → i ≢ j → acceptor_at config j (entry_after config es (Take (Acceptor i) k) ∷ es) ≡ acceptor_at config j es
acceptor_other config es i j k n = not_taken i j (acceptor_at config j es) (on_message (acceptor_at config j es, None) (acceptor.take (acceptor_at config j es)) (slice_get (messages es) k)) n

-- all acceptors took these messages
pub record AcceptorsTook (config : Counts) (xs : List Stamped) (es zs : List Entry) : Type 0 where
  pub coordinators : (c : ℕ) → coordinator_at config c zs ≡ coordinator_at config c es
  pub acceptors : (a : ℕ) → a < config.acceptors → acceptor_at config a zs ≡ (run acceptor.take (acceptor_at config a es) xs).0
  pub learners : (l : ℕ) → learner_at config l zs ≡ learner_at config l es
  pub sent : messages zs ≡ messages es ++ all_sent (λ a. (run acceptor.take (acceptor_at config a es) xs).1) config.acceptors
  pub legal : Legal config es → Legal config zs
  pub entries : length zs ≡ length es + config.acceptors * length xs

pub acceptors_take : (config : Counts) (ks : List ℕ) (xs : List Stamped) (es : List Entry) → Picked (messages es) ks xs → AcceptorsTook config xs es (swept config Acceptor config.acceptors ks es)
acceptors_take config ks xs es p =
    let r = sweeps config Acceptor (acceptor_at config) acceptor.take (acceptor_own config) (acceptor_other config) config.acceptors ks xs es p in
    record {
      coordinators = λ c. stays_while_swept config Acceptor (coordinator_at config c) (λ fs i k. refl) config.acceptors ks es;
      acceptors = r.state;
      learners = λ l. stays_while_swept config Acceptor (learner_at config l) (λ fs i k. refl) config.acceptors ks es;
      sent = r.sent;
      legal = r.legal (λ i l. lt-ltb i config.acceptors l);
      entries = r.entries;
    }

-- ---- learners

learner_own : (config : Counts) (es : List Entry) (i k : ℕ) (m : Stamped) → slice_get (messages es) k ≡ Some m
    → (learner_at config i (entry_after config es (Take (Learner i) k) ∷ es) ≡ (learner.take (learner_at config i es) m).0)
    × (sent_at config es (Take (Learner i) k) ≡ option_to_list (learner.take (learner_at config i es) m).1)
learner_own config es i k m e =
    let t = taken learner.take i (learner_at config i es) (slice_get (messages es) k) m e in
    (ap (λ u. u.0) t, ap (λ u. option_to_list u.1) t)

learner_other : (config : Counts) (es : List Entry) (i j k : ℕ) → i ≢ j → learner_at config j (entry_after config es (Take (Learner i) k) ∷ es) ≡ learner_at config j es
learner_other config es i j k n = not_taken i j (learner_at config j es) (on_message (learner_at config j es, None) (learner.take (learner_at config j es)) (slice_get (messages es) k)) n

-- all learners took these messages
pub record LearnersTook (config : Counts) (xs : List Stamped) (es zs : List Entry) : Type 0 where
  pub coordinators : (c : ℕ) → coordinator_at config c zs ≡ coordinator_at config c es
  pub acceptors : (a : ℕ) → acceptor_at config a zs ≡ acceptor_at config a es
  pub learners : (l : ℕ) → l < config.learners → learner_at config l zs ≡ (run learner.take (learner_at config l es) xs).0
  pub sent : messages zs ≡ messages es ++ all_sent (λ l. (run learner.take (learner_at config l es) xs).1) config.learners
  pub legal : Legal config es → Legal config zs
  pub entries : length zs ≡ length es + config.learners * length xs

pub learners_take : (config : Counts) (ks : List ℕ) (xs : List Stamped) (es : List Entry) → Picked (messages es) ks xs → LearnersTook config xs es (swept config Learner config.learners ks es)
learners_take config ks xs es p =
    let r = sweeps config Learner (learner_at config) learner.take (learner_own config) (learner_other config) config.learners ks xs es p in
    record {
      coordinators = λ c. stays_while_swept config Learner (coordinator_at config c) (λ fs i k. refl) config.learners ks es;
      acceptors = λ a. stays_while_swept config Learner (acceptor_at config a) (λ fs i k. refl) config.learners ks es;
      learners = r.state;
      sent = r.sent;
      legal = r.legal (λ i l. lt-ltb i config.learners l);
      entries = r.entries;
    }
