-- A code of what contracts see of all nodes.
use Rattle.std.specs.Prelude.{List, refl}
use Rattle.std.specs.Coded.{Coded, code_by, coded×, coded_list}
use Rattle.gp_proposer.specs.State.{ProposerState}
use Rattle.gp_coordinator.specs.Epochs.{CoordinatorInEpoch}
use Rattle.gp_coordinator.specs.Codes as coordinator
use Rattle.gp_acceptor.specs.Epochs.{AcceptorInEpoch}
use Rattle.gp_acceptor.specs.Codes as acceptor
use Rattle.gp_learner.specs.Epochs.{LearnerInEpoch}
use Rattle.gp_learner.specs.Codes as learner
use Rattle.gp_proposer.specs.Codes.{proposer_code}
use Rattle.gp_world.specs.Nodes.{NodesState}

abbrev pub nodes_code : Coded NodesState
nodes_code =
    code_by (List ProposerState × (List CoordinatorInEpoch × (List AcceptorInEpoch × List LearnerInEpoch)))
    (coded× (coded_list proposer_code) (coded× (coded_list coordinator.epoch_code) (coded× (coded_list acceptor.epoch_code) (coded_list learner.epoch_code))))
    (λ n. (n.proposers, (n.coordinators, (n.acceptors, n.learners))))
    (λ p. record { proposers = p.0; coordinators = p.1.0; acceptors = p.1.1.0; learners = p.1.1.1 })
    (λ _. refl)
