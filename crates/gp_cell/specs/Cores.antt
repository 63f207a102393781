-- The core of a node, which its own records determine. A run is a list of entries, the newest first.
use Rattle.std.specs.Prelude.{cond, List, [], ◌∷◌, Option, Some, None}
use Rattle.gp_history.specs.History.{History}
use Rattle.gp_round.specs.Counts.{Counts}
use Rattle.gp_msg.specs.declared.node.Node.{Node}
use Rattle.gp_msg.specs.declared.node.Node.TheVariants as node
use Rattle.gp_msg.specs.declared.event.Event.{Event}
use Rattle.gp_msg.specs.Messages.{Stamped, EpochPart, Entry}
use Rattle.gp_proposer.specs.Table as proposer
use Rattle.gp_coordinator.specs.Epochs as coordinator
use Rattle.gp_acceptor.specs.Epochs as acceptor
use Rattle.gp_learner.specs.Epochs as learner
use Rattle.gp_run.specs.Messages.{messages}
use Rattle.gp_run.specs.States.{proposer_acts, coordinator_acts, acceptor_acts, learner_acts}
use Rattle.gp_msg.specs.Nodes.{same_node}
use Rattle.gp_cell.specs.declared.roles.Core.{Core}
use Rattle.gp_cell.specs.declared.roles.Core.TheVariants.{Proposer, Coordinator, Acceptor, Learner}

-- a node to which nothing has happened
abbrev pub opening : Counts → Node → Core
opening config (node.Proposer p) = Proposer (proposer.opening p)
opening config (node.Coordinator c) = Coordinator (coordinator.opening config c)
opening config (node.Acceptor a) = Acceptor (acceptor.opening config a)
opening config (node.Learner l) = Learner (learner.opening config l)

-- what an event does at a node with this core, after these messages were sent: its next core, and the message that it sends
abbrev pub acts : Node → Core → List Stamped → Event → Core × Option Stamped
acts (node.Proposer p) (Proposer s) ms e = (Proposer (proposer_acts p s e).0, (proposer_acts p s e).1)
acts (node.Coordinator c) (Coordinator s) ms e = (Coordinator (coordinator_acts c s ms e).0, (coordinator_acts c s ms e).1)
acts (node.Acceptor a) (Acceptor s) ms e = (Acceptor (acceptor_acts a s ms e).0, (acceptor_acts a s ms e).1)
acts (node.Learner l) (Learner s) ms e = (Learner (learner_acts l s ms e).0, (learner_acts l s ms e).1)
acts n core ms e = (core, None)

-- the core of a node after a run: what its own entries make of the opening core
abbrev pub core_at : Counts → Node → List Entry → Core
core_at config n [] = opening config n
core_at config n (e ∷ es) = cond (same_node n e.node) (acts n (core_at config n es) (messages es) e.event).0 (core_at config n es)

-- the part of a core that survives a crash, if there is one
abbrev pub part_in : Core → Option EpochPart
part_in (Proposer s) = None
part_in (Coordinator s) = Some (coordinator.durable s)
part_in (Acceptor s) = Some (acceptor.durable s)
part_in (Learner s) = None

-- what a learner learned
abbrev pub learned_in : Core → Option History
learned_in (Proposer s) = None
learned_in (Coordinator s) = None
learned_in (Acceptor s) = None
learned_in (Learner s) = Some s.learned
