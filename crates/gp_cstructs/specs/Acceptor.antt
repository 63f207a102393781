-- What an acceptor keeps, and what it does.
use Rattle.std.specs.Prelude.{ℕ, cond, not, ◌&&◌, ◌||◌, nat_lt, Option, Some, None}
use Rattle.gp_cstructs.specs.CStructs.{all_joined}
use Rattle.gp_cstructs.specs.Tables.{Tables, Message, Propose, P1a, P1b, P2a, P2b, nothing, set_at, newer}

-- its round, the round of its last vote, that vote, and the value that it holds of each coordinator in its round
pub record Acceptor (T : Tables) : Type 0 where
  pub round : T.Round
  pub voted : T.Round
  pub vote : T.Value
  pub held : ℕ → Option T.Value

-- before anything happened: the vote is the empty value, in round zero
abbrev pub acceptor_opening : (T : Tables) → Acceptor T
acceptor_opening T = record { round = T.zero; voted = T.zero; vote = T.empty; held = nothing }

-- in a greater round no value is held
abbrev pub raised : (T : Tables) → Acceptor T → T.Round → Acceptor T
raised T s r = cond (T.earlier s.round r) (record { round = r; voted = s.voted; vote = s.vote; held = nothing }) s

-- a value of coordinator c is held if none is held of it, or one with fewer commands
abbrev pub holding : (T : Tables) → Acceptor T → ℕ → T.Value → Acceptor T
holding T s c v = record { round = s.round; voted = s.voted; vote = s.vote; held = set_at s.held c (Some (newer T (s.held c) v)) }

-- the vote that replaces the old one: what was agreed on, if no vote was cast in this round; after that, in a round that is not fast, the join of the old vote with what was agreed on
abbrev pub next_vote : (T : Tables) → Acceptor T → Option T.Value → Option T.Value
next_vote T s None = None
next_vote T s (Some u) =
    cond (T.earlier s.voted s.round) (Some u) (cond (T.same s.voted s.round && not (T.fast s.round)) (Some (T.join s.vote u)) None)

abbrev pub with_vote : (T : Tables) → Acceptor T → Option T.Value → Acceptor T
with_vote T s None = s
with_vote T s (Some v) = record { round = s.round; voted = s.round; vote = v; held = s.held }

-- the vote is sent if it is the first of its round or has more commands than the old one
abbrev pub told_vote : (T : Tables) → ℕ → Acceptor T → Option T.Value → Option (Message T)
told_vote T a s None = None
told_vote T a s (Some v) = cond (T.earlier s.voted s.round || nat_lt (T.size s.vote) (T.size v)) (Some (P2b s.round a v)) None

abbrev pub voting : (T : Tables) → ℕ → Acceptor T → Option T.Value → Acceptor T × Option (Message T)
voting T a s v = (with_vote T s v, told_vote T a s v)

-- the held values are counted: quorums of coordinators agree on the join of their meets
abbrev pub counted : (T : Tables) → ℕ → Acceptor T → Acceptor T × Option (Message T)
counted T a s = voting T a s (next_vote T s (all_joined T.empty T.join (T.coordinator_meets s.round s.held)))

-- acceptor a takes a message: the next state, and the message that is sent
abbrev pub acceptor_take : (T : Tables) → ℕ → Acceptor T → Message T → Acceptor T × Option (Message T)
acceptor_take T a s (Propose c) =
    cond (T.same s.voted s.round && T.fast s.round && not (T.has s.vote c))
    (record { round = s.round; voted = s.voted; vote = T.push s.vote c; held = s.held }, Some (P2b s.round a (T.push s.vote c)))
    (s, None)
acceptor_take T a s (P1a r) =
    cond (T.earlier s.round r) (record { round = r; voted = s.voted; vote = s.vote; held = nothing }, Some (P1b r a s.voted s.vote)) (s, None)
acceptor_take T a s (P1b r b q v) = (s, None)
acceptor_take T a s (P2a r c v) = cond (not (T.earlier r s.round) && nat_lt c T.coordinators) (counted T a (holding T (raised T s r) c v)) (s, None)
acceptor_take T a s (P2b r b v) = (s, None)

-- after a crash and a restart: the held values are lost, and if the crash keeps a message, all else is as after the step that takes it
abbrev pub acceptor_fall : (T : Tables) → ℕ → Acceptor T → Option (Message T) → Acceptor T
acceptor_fall T a s None = record { round = s.round; voted = s.voted; vote = s.vote; held = nothing }
acceptor_fall T a s (Some m) =
    record { round = (acceptor_take T a s m).0.round; voted = (acceptor_take T a s m).0.voted; vote = (acceptor_take T a s m).0.vote; held = nothing }
