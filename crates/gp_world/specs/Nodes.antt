-- What contracts see of all nodes.
use Rattle.std.specs.Prelude.{◌<◌, ℕ, zero, suc, List, [], ◌∷◌, ◌++◌, length}
use Rattle.gp_round.specs.Counts.{Counts}
use Rattle.gp_msg.specs.declared.node.Node.{Node}
use Rattle.gp_msg.specs.declared.node.Node.TheVariants.{Proposer, Coordinator, Acceptor, Learner}
use Rattle.gp_msg.specs.Messages.{Entry}
use Rattle.gp_proposer.specs.State.{ProposerState}
use Rattle.gp_coordinator.specs.Epochs.{CoordinatorInEpoch}
use Rattle.gp_acceptor.specs.Epochs.{AcceptorInEpoch}
use Rattle.gp_learner.specs.Epochs.{LearnerInEpoch}
use Rattle.gp_command.specs.declared.command.TheConstants.{PROPOSERS}
use Rattle.gp_run.specs.States.{proposer_at, coordinator_at, acceptor_at, learner_at}

-- the states of the nodes of each kind, by number
pub record NodesState : Type 0 where
  pub proposers : List ProposerState
  pub coordinators : List CoordinatorInEpoch
  pub acceptors : List AcceptorInEpoch
  pub learners : List LearnerInEpoch

-- the states that f gives for the numbers below n
abbrev pub states_below : {S : Type 0} → ℕ → (ℕ → S) → List S
states_below zero f = []
states_below (suc n) f = states_below n f ++ f n ∷ []

-- the nodes of a configuration after a run
abbrev pub nodes_at : Counts → List Entry → NodesState
nodes_at config es = record {
  proposers = states_below PROPOSERS (λ p. proposer_at p es);
  coordinators = states_below config.coordinators (λ c. coordinator_at config c es);
  acceptors = states_below config.acceptors (λ a. acceptor_at config a es);
  learners = states_below config.learners (λ l. learner_at config l es);
}

-- the node is one of these nodes
abbrev pub IsThere : NodesState → Node → Type 0
IsThere n (Proposer p) = p < length n.proposers
IsThere n (Coordinator c) = c < length n.coordinators
IsThere n (Acceptor a) = a < length n.acceptors
IsThere n (Learner l) = l < length n.learners
