-- Loose lists of events, newest first, and the system after them. An event names the message that is taken, which may be any that was sent. The commands that a coordinator pushes may be any that were proposed. The numbers of proposers and learners have no bound.
use Rattle.std.specs.Prelude.{◌≡◌, ◌<◌, ◌+◌, ℕ, true, List, [], ◌∷◌, Option, Some, None}
use Rattle.gp_cstructs.specs.CStructs.{Among}
use Rattle.gp_cstructs.specs.Tables.{Tables, Message, Propose, set_at}
use Rattle.gp_cstructs.specs.Acceptor.{Acceptor, acceptor_opening, acceptor_take, acceptor_fall}
use Rattle.gp_cstructs.specs.Coordinator.{Coordinator, Kept, KeptNothing, KeptBegin, KeptTake, coordinator_opening, coordinator_begin, coordinator_take, coordinator_fall}
use Rattle.gp_cstructs.specs.Learner.{Learner, learner_opening, learner_take}

pub data Event (T : Tables) : Type 0 where
  Offer : ℕ → T.Draft → Event T
  Begin : ℕ → T.Round → Event T
  AcceptorTakes : ℕ → Message T → Event T
  CoordinatorTakes : ℕ → Message T → List T.Command → Event T
  LearnerTakes : ℕ → Message T → Event T
  AcceptorFalls : ℕ → Option (Message T) → Event T
  CoordinatorFalls : ℕ → Kept T → Event T
  LearnerFalls : ℕ → Event T

-- the nodes, how many offers each proposer had, the messages that were sent, and the votes that an acceptor had after one of its events
pub record System (T : Tables) : Type 0 where
  pub acceptors : ℕ → Acceptor T
  pub coordinators : ℕ → Coordinator T
  pub learners : ℕ → Learner T
  pub offers : ℕ → ℕ
  pub sent : List (Message T)
  pub cast : List (ℕ × T.Round × T.Value)

abbrev pub start : (T : Tables) → System T
start T = record {
  acceptors = λ a. acceptor_opening T;
  coordinators = λ c. coordinator_opening T;
  learners = λ i. learner_opening T;
  offers = λ p. 0;
  sent = [];
  cast = [];
}

abbrev pub send : (T : Tables) → Option (Message T) → List (Message T) → List (Message T)
send T None ms = ms
send T (Some m) ms = m ∷ ms

-- proposer p proposes this command, and has had one more offer
abbrev pub proposer_now : (T : Tables) → System T → ℕ → T.Command → System T
proposer_now T w p d = record {
  acceptors = w.acceptors;
  coordinators = w.coordinators;
  learners = w.learners;
  offers = set_at w.offers p (w.offers p + 1);
  sent = Propose d ∷ w.sent;
  cast = w.cast;
}

-- acceptor a has this state now, and sent this message
abbrev pub acceptor_now : (T : Tables) → System T → ℕ → Acceptor T → Option (Message T) → System T
acceptor_now T w a s m = record {
  acceptors = set_at w.acceptors a s;
  coordinators = w.coordinators;
  learners = w.learners;
  offers = w.offers;
  sent = send T m w.sent;
  cast = (a, s.voted, s.vote) ∷ w.cast;
}

abbrev pub coordinator_now : (T : Tables) → System T → ℕ → Coordinator T → Option (Message T) → System T
coordinator_now T w c s m = record {
  acceptors = w.acceptors;
  coordinators = set_at w.coordinators c s;
  learners = w.learners;
  offers = w.offers;
  sent = send T m w.sent;
  cast = w.cast;
}

abbrev pub learner_now : (T : Tables) → System T → ℕ → Learner T → System T
learner_now T w i s = record {
  acceptors = w.acceptors;
  coordinators = w.coordinators;
  learners = set_at w.learners i s;
  offers = w.offers;
  sent = w.sent;
  cast = w.cast;
}

-- the system after one more event
abbrev pub happens : (T : Tables) → System T → Event T → System T
happens T w (Offer p d) = proposer_now T w p (T.numbered p (w.offers p + 1) d)
happens T w (Begin c r) = coordinator_now T w c (coordinator_begin T (w.coordinators c) r).0 (coordinator_begin T (w.coordinators c) r).1
happens T w (AcceptorTakes a m) = acceptor_now T w a (acceptor_take T a (w.acceptors a) m).0 (acceptor_take T a (w.acceptors a) m).1
happens T w (CoordinatorTakes c m cs) = coordinator_now T w c (coordinator_take T c (w.coordinators c) m cs).0 (coordinator_take T c (w.coordinators c) m cs).1
happens T w (LearnerTakes i m) = learner_now T w i (learner_take T (w.learners i) m)
happens T w (AcceptorFalls a kept) = acceptor_now T w a (acceptor_fall T a (w.acceptors a) kept) None
happens T w (CoordinatorFalls c kept) = coordinator_now T w c (coordinator_fall T c (w.coordinators c) kept) None
happens T w (LearnerFalls i) = learner_now T w i (learner_opening T)

-- the system after these events
abbrev pub run : (T : Tables) → List (Event T) → System T
run T [] = start T
run T (e ∷ es) = happens T (run T es) e

-- coordinator c owns the round that a crash keeps as begun, and the message that it keeps as taken was sent
abbrev pub kept_stands : (T : Tables) → List (Message T) → ℕ → Kept T → Type 0
kept_stands T sent c KeptNothing = Unit {0}
kept_stands T sent c (KeptBegin r) = T.owns c r ≡ true
kept_stands T sent c (KeptTake m) = Among sent m

-- the event may happen next: its acceptor or coordinator is known, a round that begins is its own, its message was sent, and what a coordinator may push was proposed
abbrev pub Fits : (T : Tables) → System T → Event T → Type 0
Fits T w (Offer p d) = Unit {0}
Fits T w (Begin c r) = (c < T.coordinators) × (T.owns c r ≡ true)
Fits T w (AcceptorTakes a m) = (a < T.acceptors) × Among w.sent m
Fits T w (CoordinatorTakes c m cs) = (c < T.coordinators) × Among w.sent m × ((d : T.Command) → Among cs d → Among w.sent (Propose d))
Fits T w (LearnerTakes i m) = Among w.sent m
Fits T w (AcceptorFalls a None) = a < T.acceptors
Fits T w (AcceptorFalls a (Some m)) = (a < T.acceptors) × Among w.sent m
Fits T w (CoordinatorFalls c kept) = (c < T.coordinators) × kept_stands T w.sent c kept
Fits T w (LearnerFalls i) = Unit {0}

abbrev pub Loose : (T : Tables) → List (Event T) → Type 0
Loose T [] = Unit {0}
Loose T (e ∷ es) = Loose T es × Fits T (run T es) e
