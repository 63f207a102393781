-- All nodes of a configuration, in their order.
use Rattle.std.specs.Prelude.{ℕ, zero, suc, List, [], ◌∷◌, ◌++◌}
use Rattle.gp_command.specs.declared.command.TheConstants.{PROPOSERS}
use Rattle.gp_round.specs.Counts.{Counts}
use Rattle.gp_msg.specs.declared.node.Node.{Node}
use Rattle.gp_msg.specs.declared.node.Node.TheVariants as node
use Rattle.gp_seats.specs.declared.nodes.Role.{Role}
use Rattle.gp_seats.specs.declared.nodes.Role.TheVariants.{Acceptor, Coordinator, Learner, Proposer}

-- the node of a role with a number
abbrev pub node_of : Role → ℕ → Node
node_of Acceptor n = node.Acceptor n
node_of Coordinator n = node.Coordinator n
node_of Learner n = node.Learner n
node_of Proposer n = node.Proposer n

-- the first nodes of a role, in the order of their numbers
abbrev pub first_of : Role → ℕ → List Node
first_of role zero = []
first_of role (suc n) = first_of role n ++ node_of role n ∷ []

-- the acceptors, and then the coordinators
abbrev pub logged_nodes : Counts → List Node
logged_nodes config = first_of Acceptor config.acceptors ++ first_of Coordinator config.coordinators

-- those, and then the learners
abbrev pub working_nodes : Counts → List Node
working_nodes config = logged_nodes config ++ first_of Learner config.learners

abbrev pub proposer_nodes : List Node
proposer_nodes = first_of Proposer PROPOSERS

-- the acceptors, the coordinators, the learners and the proposers
abbrev pub all_nodes : Counts → List Node
all_nodes config = working_nodes config ++ proposer_nodes
