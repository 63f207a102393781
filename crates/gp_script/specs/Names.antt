-- What tokens name: numbers, counts, nodes of a configuration.
use Rattle.std.specs.Prelude.{ℕ, ◌&&◌, ◌==◌, nat_lt, nat_le, List, [], ◌∷◌, Option, None, Result, Ok, Err, if◌then◌else◌}
use Rattle.std.specs.Option.{ok_or, option_map}
use Rattle.gp_command.specs.declared.command.TheConstants.{PROPOSERS}
use Rattle.gp_round.specs.Counts.{Counts}
use Rattle.gp_msg.specs.declared.node.Node.{Node}
use Rattle.gp_msg.specs.declared.node.Node.TheVariants.{Proposer, Coordinator, Acceptor, Learner}
use Rattle.gp_words.specs.Numbers.{number_of}
use Rattle.gp_memory.specs.Results.{◌>>=◌}
use Rattle.gp_script.specs.declared.reason.Reason.{Reason}
use Rattle.gp_script.specs.declared.reason.Reason.TheVariants.{BadNumber, BadCount, NoNode}

-- a number
abbrev pub number : List ℕ → Result ℕ Reason
number token = ok_or (number_of token) BadNumber

-- a number from low to high
unfoldable pub count_of : ℕ → ℕ → List ℕ → Result ℕ Reason
count_of low high token = do
  n ← number token
  if nat_le low n && nat_le n high then Ok n else Err BadCount

-- one letter and a number
unfoldable pub letter_and_number : List ℕ → Option (ℕ × ℕ)
letter_and_number [] = None
letter_and_number (letter ∷ digits) = option_map (λ n. (letter, n)) (number_of digits)

-- the node of the configuration with this letter and number: `p` (112) is a proposer, `c` (99) a coordinator, `a` (97) an acceptor and `l` (108) a learner
abbrev pub node_by : Counts → ℕ → ℕ → Result Node Reason
node_by c letter n =
    if letter == 112 && nat_lt n PROPOSERS then Ok (Proposer n)
    else if letter == 99 && nat_lt n c.coordinators then Ok (Coordinator n)
    else if letter == 97 && nat_lt n c.acceptors then Ok (Acceptor n)
    else if letter == 108 && nat_lt n c.learners then Ok (Learner n)
    else Err NoNode

-- a node of the configuration
unfoldable pub node_of : Counts → List ℕ → Result Node Reason
node_of c token = do
  s ← ok_or (letter_and_number token) NoNode
  node_by c s.0 s.1

-- the number of a proposer
abbrev pub as_proposer : Node → Result ℕ Reason
as_proposer (Proposer n) = Ok n
as_proposer (Coordinator n) = Err NoNode
as_proposer (Acceptor n) = Err NoNode
as_proposer (Learner n) = Err NoNode

-- the number of a coordinator
abbrev pub as_coordinator : Node → Result ℕ Reason
as_coordinator (Proposer n) = Err NoNode
as_coordinator (Coordinator n) = Ok n
as_coordinator (Acceptor n) = Err NoNode
as_coordinator (Learner n) = Err NoNode

-- the number of a learner
abbrev pub as_learner : Node → Result ℕ Reason
as_learner (Proposer n) = Err NoNode
as_learner (Coordinator n) = Err NoNode
as_learner (Acceptor n) = Err NoNode
as_learner (Learner n) = Ok n

-- the proposer that a token names
abbrev pub proposer_of : Counts → List ℕ → Result ℕ Reason
proposer_of c token = node_of c token >>= as_proposer

-- the coordinator that a token names
abbrev pub coordinator_of : Counts → List ℕ → Result ℕ Reason
coordinator_of c token = node_of c token >>= as_coordinator

-- the learner that a token names
abbrev pub learner_of : Counts → List ℕ → Result ℕ Reason
learner_of c token = node_of c token >>= as_learner
