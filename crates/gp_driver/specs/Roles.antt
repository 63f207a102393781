-- The nodes of one role.
use Rattle.std.specs.Prelude.{ℕ}
use Rattle.gp_msg.specs.declared.node.Node.{Node}
use Rattle.gp_msg.specs.declared.node.Node.TheVariants as node
use Rattle.gp_driver.specs.declared.sweep.Role.{Role}
use Rattle.gp_driver.specs.declared.sweep.Role.TheVariants.{Coordinator, Acceptor, Learner}

-- the node of a role with a number
abbrev pub node_of : Role → ℕ → Node
node_of Coordinator = node.Coordinator
node_of Acceptor = node.Acceptor
node_of Learner = node.Learner
