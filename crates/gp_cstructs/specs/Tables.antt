-- What the tables of the roles use, and the messages.
use Rattle.std.specs.Prelude.{ℕ, Bool, true, false, cond, nat_lt, nat_eq, List, [], ◌∷◌, Option, Some, None}

pub record Tables : Type 1 where
  -- values and commands, and the operations of c-structs
  pub Value : Type 0
  pub prefix : Value → Value → Type 0
  pub empty : Value
  pub meet : Value → Value → Value
  pub join : Value → Value → Value
  pub Command : Type 0
  pub push : Value → Command → Value
  pub has : Value → Command → Bool
  pub size : Value → ℕ
  -- the command that a proposer makes from a draft as its offer with this number; the proposer and the number of a command
  pub Draft : Type 0
  pub numbered : ℕ → ℕ → Draft → Command
  pub proposer_of : Command → ℕ
  pub number_of : Command → ℕ
  -- rounds: the first of all, their order, whether two are the same, and their modes
  pub Round : Type 0
  pub zero : Round
  pub earlier : Round → Round → Bool
  pub same : Round → Round → Bool
  pub fast : Round → Bool
  pub multi : Round → Bool
  -- whether a coordinator owns a round, and so may begin it
  pub owns : ℕ → Round → Bool
  -- how many nodes there are, and the least sizes of quorums of acceptors: of phase 1, and of a round
  pub acceptors : ℕ
  pub coordinators : ℕ
  pub first_quorum : ℕ
  pub quorum : Round → ℕ
  -- the meets of the values of the quorums of coordinators, and of acceptors, of the least size in a round: of those whose members all have a value
  pub coordinator_meets : Round → (ℕ → Option Value) → List Value
  pub acceptor_meets : Round → (ℕ → Option Value) → List Value
  -- whether the answers are those of a quorum of phase 1, and the safe choice from them
  pub is_enough : (ℕ → Option (Round × Value)) → Bool
  pub safe_choice : (ℕ → Option (Round × Value)) → Value

-- a command is proposed; a round is asked for; an acceptor answers with the round of its last vote and the vote; a coordinator sends a value; an acceptor votes
pub data Message (T : Tables) : Type 0 where
  Propose : T.Command → Message T
  P1a : T.Round → Message T
  P1b : T.Round → ℕ → T.Round → T.Value → Message T
  P2a : T.Round → ℕ → T.Value → Message T
  P2b : T.Round → ℕ → T.Value → Message T

-- no value for any number
abbrev pub nothing : {X : Type 0} → ℕ → Option X
nothing i = None

-- x at place i, and all else as it was
abbrev pub set_at : {X : Type 0} → (ℕ → X) → ℕ → X → ℕ → X
set_at f i x j = cond (nat_eq j i) x (f j)

abbrev pub is_missing : {X : Type 0} → Option X → Bool
is_missing None = true
is_missing (Some x) = false

-- the held value of a sender: of its values the first that has the most commands
abbrev pub newer : (T : Tables) → Option T.Value → T.Value → T.Value
newer T None v = v
newer T (Some w) v = cond (nat_lt (T.size w) (T.size v)) v w

-- one push after another
abbrev pub pushes : (T : Tables) → T.Value → List T.Command → T.Value
pushes T u [] = u
pushes T u (c ∷ cs) = pushes T (T.push u c) cs
