-- What a step may add to the ledger, and what a step of an acceptor or a coordinator is.
use Rattle.std.proofs.Common.{◌≡◌, ◌⊎◌, ℕ, Bool, true, false, Option, Some, None}
use Rattle.gp_cstructs.specs.Tables.{Tables, Message, P1a, P1b, P2a, P2b}
use Rattle.gp_cstructs.specs.Acceptor.{Acceptor}
use Rattle.gp_cstructs.specs.Facts.{Ledger, IsSafe, IsJoined, AnswerFacts}

-- ---- from a ledger G to a later one K

-- a new vote is of a round that its acceptor had not left, above all its votes there, safe, and joined if its round is not fast
pub record NewVote (T : Tables) (leads : T.Round → (ℕ → Bool) → Type 0) (G K : Ledger T) (a : ℕ) (r : T.Round) (x : T.Value) : Type 0 where
  pub fresh : T.earlier r (G.round a) ≡ true → ⊥
  pub reached : T.earlier (K.round a) r ≡ true → ⊥
  pub top : (y : T.Value) → K.votes a r y → T.prefix y x
  pub safe : IsSafe T G x r
  pub joined : T.fast r ≡ false → IsJoined T leads K r x

-- a new value is of a round after round zero, above all values of its coordinator there, and safe
pub record NewValue (T : Tables) (G K : Ledger T) (c : ℕ) (r : T.Round) (x : T.Value) : Type 0 where
  pub late : T.earlier T.zero r ≡ true
  pub top : (y : T.Value) → K.values c r y → T.prefix y x
  pub safe : IsSafe T G x r

-- no round falls, nothing that was done is undone, and what is new is as above
pub record Grows (T : Tables) (leads : T.Round → (ℕ → Bool) → Type 0) (G K : Ledger T) : Type 0 where
  pub rounds : (a : ℕ) → T.earlier (K.round a) (G.round a) ≡ true → ⊥
  pub votes_kept : (a : ℕ) (r : T.Round) (x : T.Value) → G.votes a r x → K.votes a r x
  pub votes_new : (a : ℕ) (r : T.Round) (x : T.Value) → K.votes a r x → G.votes a r x ⊎ NewVote T leads G K a r x
  pub values_kept : (c : ℕ) (r : T.Round) (x : T.Value) → G.values c r x → K.values c r x
  pub values_new : (c : ℕ) (r : T.Round) (x : T.Value) → K.values c r x → G.values c r x ⊎ NewValue T G K c r x
  pub answers_new : (r : T.Round) (a : ℕ) (q : T.Round) (v : T.Value) → K.answers r a q v → G.answers r a q v ⊎ AnswerFacts T K r a q v

-- ---- a step of acceptor a, from s to t with the message m

pub data Says (T : Tables) (a : ℕ) (t : Acceptor T) : Option (Message T) → Type 0 where
  Silent : Says T a t None
  Answers : T.earlier t.voted t.round ≡ true → Says T a t (Some (P1b t.round a t.voted t.vote))
  Votes : (r : T.Round) → t.voted ≡ r → Says T a t (Some (P2b r a t.vote))

pub record Fresh (T : Tables) (leads : T.Round → (ℕ → Bool) → Type 0) (G : Ledger T) (a : ℕ) (r : T.Round) (x : T.Value) : Type 0 where
  pub fresh : T.earlier r (G.round a) ≡ true → ⊥
  pub safe : IsSafe T G x r
  pub joined : T.fast r ≡ false → IsJoined T leads G r x

pub record AcceptorTurn (T : Tables) (leads : T.Round → (ℕ → Bool) → Type 0) (G : Ledger T) (a : ℕ) (s t : Acceptor T) (m : Option (Message T)) : Type 0 where
  -- neither its round nor that of its vote falls, and the one is at least the other
  pub rises : T.earlier t.round s.round ≡ true → ⊥
  pub voted_rises : T.earlier t.voted s.voted ≡ true → ⊥
  pub voted_reached : T.earlier t.round t.voted ≡ true → ⊥
  -- its vote is above all that it had there, and old or fresh
  pub top : (y : T.Value) → G.votes a t.voted y → T.prefix y t.vote
  pub new : G.votes a t.voted t.vote ⊎ Fresh T leads G a t.voted t.vote
  pub held_sent : (c : ℕ) (v : T.Value) → t.held c ≡ Some v → G.values c t.round v
  pub says : Says T a t m

-- ---- what coordinator c may send

pub record MaySend (T : Tables) (G : Ledger T) (c : ℕ) (r : T.Round) (x : T.Value) : Type 0 where
  pub late : T.earlier T.zero r ≡ true
  pub top : (y : T.Value) → G.values c r y → T.prefix y x
  pub safe : IsSafe T G x r

pub data Sends (T : Tables) (G : Ledger T) (c : ℕ) : Option (Message T) → Type 0 where
  SendsNothing : Sends T G c None
  SendsRound : (r : T.Round) → Sends T G c (Some (P1a r))
  SendsValue : (r : T.Round) (x : T.Value) → MaySend T G c r x → Sends T G c (Some (P2a r c x))

-- no value is sent
pub data SendsNoValue (T : Tables) : Option (Message T) → Type 0 where
  NoMessage : SendsNoValue T None
  ARound : (r : T.Round) → SendsNoValue T (Some (P1a r))
