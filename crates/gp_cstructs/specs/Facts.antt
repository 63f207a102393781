-- The facts that each step keeps.
use Rattle.std.specs.Prelude.{◌≡◌, ◌⊎◌, ◌<◌, ◌≤◌, ℕ, Bool, true, false, List, ◌++◌, Option, Some, None}
use Rattle.gp_round.specs.Sets.{members}
use Rattle.gp_cstructs.specs.CStructs.{Among, IsUpperBound, Compatible}
use Rattle.gp_cstructs.specs.Tables.{Tables, P1b, P2a, P2b}
use Rattle.gp_cstructs.specs.Acceptor.{Acceptor}
use Rattle.gp_cstructs.specs.Coordinator.{Coordinator}
use Rattle.gp_cstructs.specs.Learner.{Learner}
use Rattle.gp_cstructs.specs.Loose.{Event, System, run}
use Rattle.gp_cstructs.specs.Safety.{Chosen, Safe}

-- ---- what was done

-- the round of each acceptor, the votes that it had, the values that coordinators sent, and the answers that acceptors gave
pub record Ledger (T : Tables) : Type 1 where
  pub round : ℕ → T.Round
  pub votes : ℕ → T.Round → T.Value → Type 0
  pub values : ℕ → T.Round → T.Value → Type 0
  pub answers : T.Round → ℕ → T.Round → T.Value → Type 0

-- acceptor a had the vote x of round r; every acceptor had the empty value of round zero
abbrev pub IsVote : (T : Tables) → List (ℕ × T.Round × T.Value) → ℕ → T.Round → T.Value → Type 0
IsVote T cast a r x = Among cast (a, r, x) ⊎ ((r ≡ T.zero) × (x ≡ T.empty))

abbrev pub ledger_of : (T : Tables) → System T → Ledger T
ledger_of T w = record {
  round = λ a. (w.acceptors a).round;
  votes = λ a r x. IsVote T w.cast a r x;
  values = λ c r x. Among w.sent (P2a r c x);
  answers = λ r a q v. Among w.sent (P1b r a q v);
}

-- after some of the events the last vote of acceptor a was x, of round r
pub record HadVote (T : Tables) (es : List (Event T)) (a : ℕ) (r : T.Round) (x : T.Value) : Type 0 where
  pub later : List (Event T)
  pub before : List (Event T)
  pub parts : later ++ before ≡ es
  pub round_is : ((run T before).acceptors a).voted ≡ r
  pub vote_is : ((run T before).acceptors a).vote ≡ x

-- the round of acceptor a is above r
abbrev pub IsPast : (T : Tables) → Ledger T → ℕ → T.Round → Type 0
IsPast T G a r = T.earlier r (G.round a) ≡ true

-- each value that may yet be chosen below r is a prefix of w
abbrev pub IsSafe : (T : Tables) → Ledger T → T.Value → T.Round → Type 0
IsSafe T G w r = Safe (λ i j. T.earlier i j ≡ true) T.prefix T.acceptors T.quorum G.votes (IsPast T G) w r

-- each acceptor of a quorum of r has a vote of r that w is a prefix of
abbrev pub IsChosen : (T : Tables) → Ledger T → T.Value → T.Round → Type 0
IsChosen T G w r = Chosen T.prefix T.acceptors T.quorum G.votes w r

-- ---- votes, values and answers

-- u is a prefix of some value of each coordinator of a quorum of r
pub record IsBacked (T : Tables) (leads : T.Round → (ℕ → Bool) → Type 0) (G : Ledger T) (r : T.Round) (u : T.Value) : Type 0 where
  pub quorum : ℕ → Bool
  pub is_quorum : leads r quorum
  pub each : (c : ℕ) → c < T.coordinators → quorum c ≡ true → (x : T.Value) × G.values c r x × T.prefix u x

-- w is the least upper bound of values that are backed in r
pub record IsJoined (T : Tables) (leads : T.Round → (ℕ → Bool) → Type 0) (G : Ledger T) (r : T.Round) (w : T.Value) : Type 0 where
  pub parts : List T.Value
  pub backed : (u : T.Value) → Among parts u → IsBacked T leads G r u
  pub above : IsUpperBound T.prefix w parts
  pub least : (z : T.Value) → IsUpperBound T.prefix z parts → T.prefix w z

-- what holds of an answer of acceptor a to round r, with the vote v of round q
pub record AnswerFacts (T : Tables) (G : Ledger T) (r : T.Round) (a : ℕ) (q : T.Round) (v : T.Value) : Type 0 where
  -- q is below r
  pub below : T.earlier q r ≡ true
  -- the acceptor has reached r
  pub reached : T.earlier (G.round a) r ≡ true → ⊥
  -- it had this vote
  pub cast : G.votes a q v
  -- each of its votes of q is a prefix of v
  pub last : (w : T.Value) → G.votes a q w → T.prefix w v
  -- it has no vote between q and r
  pub none : (j : T.Round) → T.earlier q j ≡ true → T.earlier j r ≡ true → (w : T.Value) → G.votes a j w → ⊥

pub record LedgerFacts (T : Tables) (leads : T.Round → (ℕ → Bool) → Type 0) (G : Ledger T) : Type 0 where
  -- the votes of an acceptor in a round are a chain
  pub votes_chain : (a : ℕ) (r : T.Round) (x y : T.Value) → G.votes a r x → G.votes a r y → T.prefix x y ⊎ T.prefix y x
  -- it has reached the round of each of its votes
  pub votes_reached : (a : ℕ) (r : T.Round) (x : T.Value) → G.votes a r x → T.earlier (G.round a) r ≡ true → ⊥
  -- each vote is safe at its round
  pub votes_safe : (a : ℕ) (r : T.Round) (x : T.Value) → G.votes a r x → IsSafe T G x r
  -- each vote of a round that is not fast is the empty one of round zero, or the least upper bound of backed values
  pub votes_joined : (a : ℕ) (r : T.Round) (x : T.Value) → G.votes a r x → T.fast r ≡ false → ((r ≡ T.zero) × T.prefix x T.empty) ⊎ IsJoined T leads G r x
  -- the values of a coordinator in a round are a chain
  pub values_chain : (c : ℕ) (r : T.Round) (x y : T.Value) → G.values c r x → G.values c r y → T.prefix x y ⊎ T.prefix y x
  -- values are of rounds after round zero
  pub values_late : (c : ℕ) (r : T.Round) (x : T.Value) → G.values c r x → T.earlier T.zero r ≡ true
  -- each value is safe at its round
  pub values_safe : (c : ℕ) (r : T.Round) (x : T.Value) → G.values c r x → IsSafe T G x r
  -- `AnswerFacts` holds of each answer
  pub answers_true : (r : T.Round) (a : ℕ) (q : T.Round) (v : T.Value) → G.answers r a q v → AnswerFacts T G r a q v

-- ---- the nodes

pub record AcceptorFacts (T : Tables) (G : Ledger T) (a : ℕ) (s : Acceptor T) : Type 0 where
  -- the round of its vote is at most its round
  pub voted_reached : T.earlier s.round s.voted ≡ true → ⊥
  -- its vote is one that it had, the last of its round
  pub vote_cast : G.votes a s.voted s.vote
  pub vote_last : (x : T.Value) → G.votes a s.voted x → T.prefix x s.vote
  -- it has no vote of a greater round
  pub none_above : (j : T.Round) (x : T.Value) → T.earlier s.voted j ≡ true → G.votes a j x → ⊥
  -- what it holds of a coordinator was sent by that coordinator in its round
  pub held_sent : (c : ℕ) (v : T.Value) → s.held c ≡ Some v → G.values c s.round v

pub record CoordinatorFacts (T : Tables) (G : Ledger T) (c : ℕ) (s : Coordinator T) : Type 0 where
  -- its value is one that it sent, the last of its round
  pub value_sent : (v : T.Value) → s.value ≡ Some v → G.values c s.round v
  pub value_last : (v : T.Value) → s.value ≡ Some v → (x : T.Value) → G.values c s.round x → T.prefix x v
  -- awake without a value, it sent none in its round
  pub none_sent : s.awake ≡ true → s.value ≡ None → (x : T.Value) → G.values c s.round x → ⊥
  -- it has reached the round of each value that it sent
  pub sent_reached : (j : T.Round) (x : T.Value) → G.values c j x → T.earlier s.round j ≡ true → ⊥
  -- its answers were given, to its round
  pub answers_given : (a : ℕ) (q : T.Round) (v : T.Value) → s.answers a ≡ Some (q, v) → G.answers s.round a q v
  -- awake, it is in a round after round zero
  pub awake_late : s.awake ≡ true → T.earlier T.zero s.round ≡ true

-- u is the meet of one vote for each member of a quorum of a round
pub record Heard (T : Tables) (taken : List (T.Round × ℕ × T.Value)) (u : T.Value) : Type 0 where
  pub round : T.Round
  pub quorum : ℕ → Bool
  pub enough : T.quorum round ≤ members quorum T.acceptors
  pub vote : ℕ → T.Value
  pub taken_of : (a : ℕ) → a < T.acceptors → quorum a ≡ true → Among taken (round, a, vote a)
  pub below : (a : ℕ) → a < T.acceptors → quorum a ≡ true → T.prefix u (vote a)
  pub greatest : (z : T.Value) → ((a : ℕ) → a < T.acceptors → quorum a ≡ true → T.prefix z (vote a)) → T.prefix z u

pub record LearnerFacts (T : Tables) (G : Ledger T) (s : Learner T) : Type 0 where
  -- the votes that it took were cast
  pub taken_cast : (r : T.Round) (a : ℕ) (v : T.Value) → Among s.taken (r, a, v) → G.votes a r v
  -- it holds only votes that it took, and of each acceptor in each round one that the others are prefixes of
  pub held_taken : (r : T.Round) (a : ℕ) (v : T.Value) → s.votes r a ≡ Some v → Among s.taken (r, a, v)
  pub taken_held : (r : T.Round) (a : ℕ) (v : T.Value) → Among s.taken (r, a, v) → (x : T.Value) × (s.votes r a ≡ Some x) × T.prefix v x
  -- what it learned is the least upper bound of values that it heard
  pub parts : List T.Value
  pub heard : (u : T.Value) → Among parts u → Heard T s.taken u
  pub above : IsUpperBound T.prefix s.learned parts
  pub least : (z : T.Value) → IsUpperBound T.prefix z parts → T.prefix s.learned z
  -- the meet of each quorum whose votes it all holds is a prefix of what it learned
  pub whole_learned : (r : T.Round) (u : T.Value) → Among (T.acceptor_meets r (s.votes r)) u → T.prefix u s.learned

-- ---- all of them

pub record Facts (T : Tables) (leads : T.Round → (ℕ → Bool) → Type 0) (w : System T) : Type 0 where
  pub ledger : LedgerFacts T leads (ledger_of T w)
  pub acceptors : (a : ℕ) → AcceptorFacts T (ledger_of T w) a (w.acceptors a)
  pub coordinators : (c : ℕ) → CoordinatorFacts T (ledger_of T w) c (w.coordinators c)
  pub learners : (i : ℕ) → LearnerFacts T (ledger_of T w) (w.learners i)
  -- each vote that a learner took was sent, and each that was sent was cast
  pub taken_sent : (i : ℕ) (r : T.Round) (a : ℕ) (v : T.Value) → Among (w.learners i).taken (r, a, v) → Among w.sent (P2b r a v)
  pub sent_cast : (r : T.Round) (a : ℕ) (v : T.Value) → Among w.sent (P2b r a v) → IsVote T w.cast a r v

-- ---- what the facts give

-- the choice from the answers of a quorum of phase 1 of a round is safe at that round
abbrev pub ChoosesSafely : (T : Tables) → System T → Type 0
ChoosesSafely T w = (r : T.Round) (answers : ℕ → Option (T.Round × T.Value)) → ((i : ℕ) (q : T.Round) (v : T.Value) → answers i ≡ Some (q, v) → Among w.sent (P1b r i q v))
    → T.is_enough answers ≡ true → IsSafe T (ledger_of T w) (T.safe_choice answers) r

-- every two votes of one round that is not fast are compatible
abbrev pub AreVotesCompatible : (T : Tables) → System T → Type 0
AreVotesCompatible T w = (r : T.Round) → T.fast r ≡ false → (i j : ℕ) (x y : T.Value) → IsVote T w.cast i r x → IsVote T w.cast j r y → Compatible T.prefix x y

-- every two chosen values, of any rounds, are compatible
abbrev pub AreChosenCompatible : (T : Tables) → System T → Type 0
AreChosenCompatible T w = (x y : T.Value) (r j : T.Round) → IsChosen T (ledger_of T w) x r → IsChosen T (ledger_of T w) y j → Compatible T.prefix x y
