-- What a coordinator keeps, and what it does. The pending commands are not part of its state here.
use Rattle.std.specs.Prelude.{ℕ, Bool, true, false, cond, not, ◌&&◌, nat_lt, List, [], Option, Some, None}
use Rattle.gp_cstructs.specs.Tables.{Tables, Message, Propose, P1a, P1b, P2a, P2b, nothing, set_at, is_missing, pushes}

-- its round, whether it takes answers in it, the answer of each acceptor, and the value that it sent in its round
pub record Coordinator (T : Tables) : Type 0 where
  pub round : T.Round
  pub awake : Bool
  pub answers : ℕ → Option (T.Round × T.Value)
  pub value : Option T.Value

abbrev pub coordinator_opening : (T : Tables) → Coordinator T
coordinator_opening T = record { round = T.zero; awake = false; answers = nothing; value = None }

-- in phase 1 of a round, with no answer yet
abbrev pub begun : (T : Tables) → T.Round → Coordinator T
begun T r = record { round = r; awake = true; answers = nothing; value = None }

-- it begins a round above its own
abbrev pub coordinator_begin : (T : Tables) → Coordinator T → T.Round → Coordinator T × Option (Message T)
coordinator_begin T s r = cond (T.earlier s.round r) (begun T r, Some (P1a r)) (s, None)

-- with these answers: if they are those of a quorum, the value is the safe choice with these commands pushed
abbrev pub answered : (T : Tables) → ℕ → Coordinator T → (ℕ → Option (T.Round × T.Value)) → List T.Command → Coordinator T × Option (Message T)
answered T c s f cs =
    cond (T.is_enough f)
    (record { round = s.round; awake = s.awake; answers = f; value = Some (pushes T (T.safe_choice f) cs) }, Some (P2a s.round c (pushes T (T.safe_choice f) cs)))
    (record { round = s.round; awake = s.awake; answers = f; value = s.value }, None)

-- after a proposal: it is pushed onto the value, unless it is there or the round is fast
abbrev pub extended : (T : Tables) → ℕ → Coordinator T → Option T.Value → T.Command → Coordinator T × Option (Message T)
extended T c s None d = (s, None)
extended T c s (Some w) d =
    cond (not (T.has w d) && not (T.fast s.round))
    (record { round = s.round; awake = s.awake; answers = s.answers; value = Some (T.push w d) }, Some (P2a s.round c (T.push w d)))
    (s, None)

-- the coordinator waits for this answer
abbrev pub expects : (T : Tables) → Coordinator T → T.Round → ℕ → Bool
expects T s r a = s.awake && T.same r s.round && is_missing s.value && nat_lt a T.acceptors && is_missing (s.answers a)

-- coordinator c takes a message; it pushes these commands onto a value that it chooses
abbrev pub coordinator_take : (T : Tables) → ℕ → Coordinator T → Message T → List T.Command → Coordinator T × Option (Message T)
coordinator_take T c s (Propose d) cs = extended T c s s.value d
coordinator_take T c s (P1a r) cs = cond (T.multi r && T.earlier s.round r) (begun T r, None) (s, None)
coordinator_take T c s (P1b r a q v) cs = cond (expects T s r a) (answered T c s (set_at s.answers a (Some (q, v))) cs) (s, None)
coordinator_take T c s (P2a r b v) cs = (s, None)
coordinator_take T c s (P2b r b v) cs = (s, None)

-- what a crash keeps: nothing that was not durable before, or the durable part of a step
pub data Kept (T : Tables) : Type 0 where
  KeptNothing : Kept T
  KeptBegin : T.Round → Kept T
  KeptTake : Message T → Kept T

abbrev pub asleep : (T : Tables) → T.Round → Coordinator T
asleep T r = record { round = r; awake = false; answers = nothing; value = None }

-- after a crash and a restart with its round alone
abbrev pub coordinator_fall : (T : Tables) → ℕ → Coordinator T → Kept T → Coordinator T
coordinator_fall T c s KeptNothing = asleep T s.round
coordinator_fall T c s (KeptBegin r) = asleep T (coordinator_begin T s r).0.round
coordinator_fall T c s (KeptTake m) = asleep T (coordinator_take T c s m []).0.round
