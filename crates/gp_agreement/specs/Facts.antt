-- The facts that hold of each legal run. Each step keeps them.
use Rattle.std.specs.Prelude.{◌≡◌, ◌⊎◌, ◌<◌, ◌≤◌, ℕ, Bool, true, false, List, slice_get, Some, None}
use Rattle.std.specs.List.{Contains}
use Rattle.gp_command.specs.declared.command.Command.{Command}
use Rattle.gp_history.specs.History.{History, IsHistory, IsPrefix, has}
use Rattle.gp_history.specs.Bounds.{IsCompatible}
use Rattle.gp_round.specs.declared.round.Round.{Round}
use Rattle.gp_round.specs.Counts.{Counts}
use Rattle.gp_round.specs.Rounds.{earlier, round_zero, is_fast}
use Rattle.gp_round.specs.Quorums.{IsQuorum, IsCoordinatorQuorum}
use Rattle.gp_safe.specs.Choice.{Reply}
use Rattle.gp_msg.specs.Messages.{Message, Answered, Sent, Voted}
use Rattle.gp_coordinator.specs.Replies.{reply_at}
use Rattle.gp_acceptor.specs.Table.{value_at}
use Rattle.gp_learner.specs.Table.{vote_of}
use Rattle.gp_run.specs.Learned.{IsHeard}
use Rattle.gp_epoch.specs.Cut.{HasCheckpoint, HasNoCheckpoint, cut}
use Rattle.gp_msg.specs.Messages.{Offered, InEpoch, Final, Entry}
use Rattle.gp_coordinator.specs.Epochs.{CoordinatorInEpoch}
use Rattle.gp_acceptor.specs.Epochs.{AcceptorInEpoch}
use Rattle.gp_learner.specs.Epochs.{LearnerInEpoch}
use Rattle.gp_run.specs.Messages.{messages}
use Rattle.gp_run.specs.States.{proposer_at, coordinator_at, acceptor_at, learner_at}
use Rattle.gp_run.specs.Learned.{taken_at}
use Rattle.gp_run.specs.Chosen.{HadVote, IsVote, IsVotedFor, IsChosen}

-- ---- what may yet be chosen, and what is safe

-- a node in round now of epoch m has reached round r of epoch n
abbrev pub IsReached : ℕ → Round → ℕ → Round → Type 0
IsReached m now n r = (n < m) ⊎ ((n ≡ m) × (earlier now r ≡ true → ⊥))

-- acceptor a is past round r of epoch e: it is in a later epoch, or in a later round of e
abbrev pub IsPast : Counts → List Entry → ℕ → ℕ → Round → Type 0
IsPast config es a e r = (e < (acceptor_at config a es).epoch) ⊎ ((e ≡ (acceptor_at config a es).epoch) × (earlier r (acceptor_at config a es).state.round ≡ true))

-- w may yet be chosen in round r of epoch e: each acceptor of a quorum that is past the round has a vote in it that extends w
pub record IsChoosable (config : Counts) (es : List Entry) (w : History) (e : ℕ) (r : Round) : Type 0 where
  pub quorum : ℕ → Bool
  pub enough : IsQuorum config.acceptors r.mode quorum
  pub voted : (a : ℕ) → a < config.acceptors → quorum a ≡ true → IsPast config es a e r → IsVotedFor config es a e r w

-- w is safe at round r of epoch e: it extends each history that may yet be chosen in a smaller round of e
abbrev pub IsSafe : Counts → List Entry → History → ℕ → Round → Type 0
IsSafe config es w e r = (j : Round) → earlier j r ≡ true → (x : History) → IsHistory x → IsChoosable config es x e j → IsPrefix x w

-- ---- coordinators

-- coordinator c sent the value x (a P2a) in round r of epoch e
abbrev pub HasSent : List Entry → ℕ → ℕ → Round → History → Type 0
HasSent es c e r x = Contains (messages es) (InEpoch e (Sent r c x))

-- what holds of coordinator c in this state
pub record CoordinatorFacts (config : Counts) (es : List Entry) (c : ℕ) (s : CoordinatorInEpoch) : Type 0 where
  -- its values of a round are a chain, and each is safe at its round, which is after round zero
  pub values_chain : (e : ℕ) (r : Round) (x y : History) → HasSent es c e r x → HasSent es c e r y → IsPrefix x y ⊎ IsPrefix y x
  pub values_safe : (e : ℕ) (r : Round) (x : History) → HasSent es c e r x → IsSafe config es x e r
  pub values_late : (e : ℕ) (r : Round) (x : History) → HasSent es c e r x → earlier round_zero r ≡ true
  -- its present value is the last that it sent in its round
  pub value_sent : (v : History) → s.state.value ≡ Some v → HasSent es c s.epoch s.state.round v
  pub value_last : (v : History) → s.state.value ≡ Some v → (x : History) → HasSent es c s.epoch s.state.round x → IsPrefix x v
  -- if it takes answers (is awake) and has no value, it sent none in its round, which is after round zero
  pub none_sent : s.state.awake ≡ true → s.state.value ≡ None → (x : History) → HasSent es c s.epoch s.state.round x → ⊥
  pub awake_late : s.state.awake ≡ true → earlier round_zero s.state.round ≡ true
  -- it has reached the epoch and the round of each value that it sent
  pub sent_reached : (e : ℕ) (r : Round) (x : History) → HasSent es c e r x → IsReached s.epoch s.state.round e r
  -- the answers that it keeps were sent (as P1b) to its round of its epoch
  pub answers_given : (a : ℕ) (reply : Reply) → reply_at s.state.answers a ≡ Some reply → Contains (messages es) (InEpoch s.epoch (Answered s.state.round a reply.round reply.vote))

-- ---- acceptors

-- u is backed: each coordinator of a quorum of round r of epoch e sent a value in it that extends u
pub record IsBacked (config : Counts) (es : List Entry) (e : ℕ) (r : Round) (u : History) : Type 0 where
  pub history : IsHistory u
  pub quorum : ℕ → Bool
  pub is_quorum : IsCoordinatorQuorum config.coordinators r quorum
  pub each : (c : ℕ) → c < config.coordinators → quorum c ≡ true → (x : History) × HasSent es c e r x × IsPrefix u x

-- w is the least upper bound of histories that are backed in round r of epoch e
pub record IsJoined (config : Counts) (es : List Entry) (e : ℕ) (r : Round) (w : History) : Type 0 where
  pub parts : List History
  pub backed : (u : History) → Contains parts u → IsBacked config es e r u
  pub above : (u : History) → Contains parts u → IsPrefix u w
  pub least : (z : History) → IsHistory z → ((u : History) → Contains parts u → IsPrefix u z) → IsPrefix w z

-- what holds of an answer (a P1b) of acceptor a to round r of epoch e, with the vote v of round q
pub record AnswerFacts (config : Counts) (es : List Entry) (e : ℕ) (r : Round) (a : ℕ) (q : Round) (v : History) : Type 0 where
  -- q is below r, and the acceptor has reached r
  pub below : earlier q r ≡ true
  pub reached : IsReached (acceptor_at config a es).epoch (acceptor_at config a es).state.round e r
  -- v is one of its votes of q, the last of them
  pub cast : IsVote config es a e q v
  pub last : (w : History) → IsVote config es a e q w → IsPrefix w v
  -- it has no vote in e between q and r
  pub none : (j : Round) → earlier q j ≡ true → earlier j r ≡ true → (w : History) → IsVote config es a e j w → ⊥

-- what holds of acceptor a in this state
pub record AcceptorFacts (config : Counts) (es : List Entry) (a : ℕ) (s : AcceptorInEpoch) : Type 0 where
  -- its votes of a round are a chain, and each is safe at its round
  pub votes_chain : (e : ℕ) (r : Round) (x y : History) → IsVote config es a e r x → IsVote config es a e r y → IsPrefix x y ⊎ IsPrefix y x
  pub votes_safe : (e : ℕ) (r : Round) (x : History) → IsVote config es a e r x → IsSafe config es x e r
  -- it has reached the epoch and the round of each vote that it had
  pub votes_reached : (e : ℕ) (r : Round) (x : History) → HadVote config es a e r x → IsReached s.epoch s.state.round e r
  -- each vote of a round that is not fast, after round zero, is the least upper bound of histories that quorums of coordinators back
  pub votes_joined : (e : ℕ) (r : Round) (x : History) → IsVote config es a e r x → earlier round_zero r ≡ true → is_fast r.mode ≡ false → IsJoined config es e r x
  -- its present vote is the last of the round in which it voted; that round is at most its round, and it has no vote in a greater one
  pub vote_last : (x : History) → IsVote config es a s.epoch s.state.voted x → IsPrefix x s.state.vote
  pub voted_reached : earlier s.state.round s.state.voted ≡ true → ⊥
  pub none_above : (r : Round) (x : History) → earlier s.state.voted r ≡ true → IsVote config es a s.epoch r x → ⊥
  -- what it holds of a coordinator was sent by that coordinator in the round of the acceptor
  pub held_sent : (c : ℕ) (v : History) → value_at s.state.held c ≡ Some v → HasSent es c s.epoch s.state.round v
  -- each vote that it sent (as P2b) is one of its votes, and `AnswerFacts` holds of each answer that it sent
  pub sent_cast : (e : ℕ) (r : Round) (v : History) → Contains (messages es) (InEpoch e (Voted r a v)) → IsVote config es a e r v
  pub answers_true : (e : ℕ) (r q : Round) (v : History) → Contains (messages es) (InEpoch e (Answered r a q v)) → AnswerFacts config es e r a q v

-- ---- learners

-- h is the least upper bound of histories that are chosen in epoch e
pub record IsBoundOfChosen (config : Counts) (es : List Entry) (e : ℕ) (h : History) : Type 0 where
  pub history : IsHistory h
  pub parts : List History
  pub chosen : (u : History) → Contains parts u → (r : Round) × IsChosen config es u e r
  pub above : (u : History) → Contains parts u → IsPrefix u h
  pub least : (z : History) → IsHistory z → ((u : History) → Contains parts u → IsPrefix u z) → IsPrefix h z

-- what holds of learner l in this state
pub record LearnerFacts (config : Counts) (es : List Entry) (l : ℕ) (s : LearnerInEpoch) : Type 0 where
  -- the votes that it holds were sent in its epoch
  pub votes_sent : (r : Round) (a : ℕ) (v : History) → vote_of s.state.votes r a ≡ Some v → Contains (messages es) (InEpoch s.epoch (Voted r a v))
  -- what it heard from a quorum is chosen in its epoch
  pub heard_chosen : (u : History) (h : IsHeard config (taken_at config l es) u) → IsChosen config es u s.epoch h.round
  -- its part is the least upper bound of histories that are chosen in its epoch, and has no checkpoint
  pub part : IsBoundOfChosen config es s.epoch s.state.learned
  pub unmarked : HasNoCheckpoint s.state.learned

-- ---- epochs

-- epoch e was closed: there is a Final of it
abbrev pub HasFinal : List Entry → ℕ → Type 0
HasFinal es e = (l : ℕ) × (v : History) × Contains (messages es) (Final e l v)

-- each epoch below n was closed
abbrev pub AreClosed : List Entry → ℕ → Type 0
AreClosed es n = (e : ℕ) → e < n → HasFinal es e

-- v is the cut of a history with a checkpoint that is the least upper bound of histories chosen in epoch e
pub record IsCutOfChosen (config : Counts) (es : List Entry) (e : ℕ) (v : History) : Type 0 where
  pub part : History
  pub bound : IsBoundOfChosen config es e part
  pub marked : HasCheckpoint part
  pub is_cut : v ≡ cut part

-- what holds of the epochs of a run
pub record EpochFacts (config : Counts) (es : List Entry) : Type 0 where
  -- each epoch below that of a node, of a message within an epoch or of a Final was closed
  pub coordinators_entered : (c : ℕ) → AreClosed es (coordinator_at config c es).epoch
  pub acceptors_entered : (a : ℕ) → AreClosed es (acceptor_at config a es).epoch
  pub learners_entered : (l : ℕ) → AreClosed es (learner_at config l es).epoch
  pub messages_entered : (e : ℕ) (m : Message) → Contains (messages es) (InEpoch e m) → AreClosed es e
  pub finals_entered : (e l : ℕ) (v : History) → Contains (messages es) (Final e l v) → AreClosed es e
  -- the value of a Final is the cut of a least upper bound of histories chosen in its epoch, and all Finals of one epoch carry one value
  pub finals_cut : (e l : ℕ) (v : History) → Contains (messages es) (Final e l v) → IsCutOfChosen config es e v
  pub one_final : (e l i : ℕ) (v w : History) → Contains (messages es) (Final e l v) → Contains (messages es) (Final e i w) → v ≡ w

-- ---- commands

-- each command of h was proposed
abbrev pub IsProposed : List Entry → History → Type 0
IsProposed es h = (c : Command) → has h c ≡ true → Contains (messages es) (Offered c)

-- each command of a history in a message or a node, and each pending command, was proposed
pub record AreProposed (config : Counts) (es : List Entry) : Type 0 where
  pub answered : (e : ℕ) (r : Round) (a : ℕ) (q : Round) (v : History) → Contains (messages es) (InEpoch e (Answered r a q v)) → IsProposed es v
  pub sent : (e : ℕ) (r : Round) (c : ℕ) (v : History) → Contains (messages es) (InEpoch e (Sent r c v)) → IsProposed es v
  pub voted : (e : ℕ) (r : Round) (a : ℕ) (v : History) → Contains (messages es) (InEpoch e (Voted r a v)) → IsProposed es v
  pub finals : (e l : ℕ) (v : History) → Contains (messages es) (Final e l v) → IsProposed es v
  pub coordinator_value : (c : ℕ) (v : History) → (coordinator_at config c es).state.value ≡ Some v → IsProposed es v
  pub coordinator_answer : (c a : ℕ) (reply : Reply) → reply_at (coordinator_at config c es).state.answers a ≡ Some reply → IsProposed es reply.vote
  pub coordinator_pending : (c : ℕ) (d : Command) → Contains (coordinator_at config c es).state.pending d → Contains (messages es) (Offered d)
  pub acceptor_vote : (a : ℕ) → IsProposed es (acceptor_at config a es).state.vote
  pub acceptor_held : (a c : ℕ) (v : History) → value_at (acceptor_at config a es).state.held c ≡ Some v → IsProposed es v
  pub learner_vote : (l : ℕ) (r : Round) (a : ℕ) (v : History) → vote_of (learner_at config l es).state.votes r a ≡ Some v → IsProposed es v
  pub learner_part : (l : ℕ) → IsProposed es (learner_at config l es).state.learned
  pub learner_learned : (l : ℕ) → IsProposed es (learner_at config l es).learned

-- no two Propose messages have one identity, and none has a number above its proposer's count of offers
pub record AreProposedOnce (es : List Entry) : Type 0 where
  pub once : (i j : ℕ) (c d : Command) → slice_get (messages es) i ≡ Some (Offered c) → slice_get (messages es) j ≡ Some (Offered d) → c.id ≡ d.id → i ≡ j
  pub numbered : (c : Command) → Contains (messages es) (Offered c) → c.id.number ≤ (proposer_at c.id.proposer es).offers

-- ---- all of them

-- all facts of a run
pub record Facts (config : Counts) (es : List Entry) : Type 0 where
  pub coordinators : (c : ℕ) → CoordinatorFacts config es c (coordinator_at config c es)
  pub acceptors : (a : ℕ) → AcceptorFacts config es a (acceptor_at config a es)
  pub learners : (l : ℕ) → LearnerFacts config es l (learner_at config l es)
  pub epochs : EpochFacts config es
  -- votes of one round that is not fast, in one epoch, are compatible
  pub votes_agree : (e : ℕ) (r : Round) → is_fast r.mode ≡ false → (a b : ℕ) (x y : History) → IsVote config es a e r x → IsVote config es b e r y → IsCompatible x y
  pub proposed : AreProposed config es
  pub proposed_once : AreProposedOnce es
