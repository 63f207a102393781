-- Every value has only commands that were proposed.
use Rattle.std.specs.Prelude.{◌≡◌, ℕ, true, List, Option, Some}
use Rattle.gp_cstructs.specs.CStructs.{Among}
use Rattle.gp_cstructs.specs.Tables.{Tables, Message, Propose, P1a, P1b, P2a, P2b}
use Rattle.gp_cstructs.specs.Loose.{System}

-- each command of u was proposed in these messages
abbrev pub IsOffered : (T : Tables) → List (Message T) → T.Value → Type 0
IsOffered T ms u = (d : T.Command) → T.has u d ≡ true → Among ms (Propose d)

-- the value of a message has only commands that were proposed
abbrev pub TellsOffered : (T : Tables) → List (Message T) → Message T → Type 0
TellsOffered T ms (Propose d) = Unit {0}
TellsOffered T ms (P1a r) = Unit {0}
TellsOffered T ms (P1b r a q v) = IsOffered T ms v
TellsOffered T ms (P2a r c v) = IsOffered T ms v
TellsOffered T ms (P2b r a v) = IsOffered T ms v

-- a value, if one is kept, has only commands that were proposed
abbrev pub KeepsOffered : (T : Tables) → List (Message T) → Option T.Value → Type 0
KeepsOffered T ms o = (v : T.Value) → o ≡ Some v → IsOffered T ms v

-- this holds in every message and every state
pub record AllOffered (T : Tables) (w : System T) : Type 0 where
  pub sent : (m : Message T) → Among w.sent m → TellsOffered T w.sent m
  pub votes : (a : ℕ) → IsOffered T w.sent (w.acceptors a).vote
  pub holds : (a c : ℕ) → KeepsOffered T w.sent ((w.acceptors a).held c)
  pub values : (c : ℕ) → KeepsOffered T w.sent (w.coordinators c).value
  pub answers : (c a : ℕ) (q : T.Round) (v : T.Value) → (w.coordinators c).answers a ≡ Some (q, v) → IsOffered T w.sent v
  pub taken : (i : ℕ) (r : T.Round) (a : ℕ) → KeepsOffered T w.sent ((w.learners i).votes r a)
  pub learned : (i : ℕ) → IsOffered T w.sent (w.learners i).learned
