-- The rounds in the messages and the nodes of a run, and the greatest count among them.
use Rattle.std.specs.Prelude.{ℕ, zero, suc, List, [], ◌∷◌, ◌++◌, map, max, Option, Some, None}
use Rattle.std.specs.List.{flat_map}
use Rattle.gp_round.specs.declared.round.Round.{Round}
use Rattle.gp_round.specs.Counts.{Counts}
use Rattle.gp_coordinator.specs.State.{Reply}
use Rattle.gp_msg.specs.Messages.{Message, Proposed, Asked, Answered, Sent, Voted, Stamped, Offered, InEpoch, Final, Entry}
use Rattle.gp_coordinator.specs.State.{CoordinatorState}
use Rattle.gp_acceptor.specs.State.{AcceptorState}
use Rattle.gp_learner.specs.State.{LearnerState}
use Rattle.gp_run.specs.Messages.{messages}
use Rattle.gp_run.specs.States.{coordinator_at, acceptor_at, learner_at}

-- the rounds in a message within an epoch
abbrev pub message_rounds : Message → List Round
message_rounds (Proposed c) = []
message_rounds (Asked r) = r ∷ []
message_rounds (Answered r a q v) = r ∷ q ∷ []
message_rounds (Sent r c v) = r ∷ []
message_rounds (Voted r a v) = r ∷ []

-- the rounds in a message
abbrev pub rounds_of : Stamped → List Round
rounds_of (Offered c) = []
rounds_of (InEpoch e m) = message_rounds m
rounds_of (Final e l v) = []

-- the round of the vote in an answer, if there is an answer
abbrev pub reply_rounds : Option Reply → List Round
reply_rounds None = []
reply_rounds (Some reply) = reply.round ∷ []

-- the rounds in the state of a coordinator: its own, and those of the votes that acceptors answered
abbrev pub coordinator_rounds : CoordinatorState → List Round
coordinator_rounds s = s.round ∷ flat_map reply_rounds s.answers

-- the rounds in the state of an acceptor
abbrev pub acceptor_rounds : AcceptorState → List Round
acceptor_rounds s = s.round ∷ s.voted ∷ []

-- the rounds in the state of a learner: those of the votes that it holds
abbrev pub learner_rounds : LearnerState → List Round
learner_rounds s = map (λ v. v.0.0) s.votes

-- the rounds of nodes 0 to n - 1 of one kind; f gives those of a node
abbrev pub rounds_below : ℕ → (ℕ → List Round) → List Round
rounds_below zero f = []
rounds_below (suc n) f = rounds_below n f ++ f n

-- all rounds in the messages and the nodes of a run, of any epoch
abbrev pub rounds_in : Counts → List Entry → List Round
rounds_in config es =
    flat_map rounds_of (messages es)
    ++ rounds_below config.coordinators (λ c. coordinator_rounds (coordinator_at config c es).state)
    ++ rounds_below config.acceptors (λ a. acceptor_rounds (acceptor_at config a es).state)
    ++ rounds_below config.learners (λ l. learner_rounds (learner_at config l es).state)

-- the greatest count of some rounds, and 0 if there are none
abbrev pub greatest_count : List Round → ℕ
greatest_count [] = 0
greatest_count (r ∷ rs) = max r.count (greatest_count rs)

-- the greatest count of a round in a message or a node
abbrev pub top_count : Counts → List Entry → ℕ
top_count config es = greatest_count (rounds_in config es)

-- the greatest count of a round in some messages, and 0 if they have no rounds
abbrev pub top_of_messages : List Stamped → ℕ
top_of_messages ms = greatest_count (flat_map rounds_of ms)

-- the greatest count of the round of a coordinator, and 0 if there are no coordinators
abbrev pub top_of_coordinators : Counts → List Entry → ℕ
top_of_coordinators config es = greatest_count (rounds_below config.coordinators (λ c. (coordinator_at config c es).state.round ∷ []))
