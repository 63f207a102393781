-- What an event does at the nodes, given the message that it names.
use Rattle.std.specs.Prelude.{◌≡◌, ◌<◌, ◌-◌, ◌^◌, ℕ, zero, suc, true, List, [], ◌∷◌, slice_get, Option, Some, None}
use Rattle.std.specs.Option.{option_and_then}
use Rattle.gp_command.specs.declared.draft.Draft.{Draft}
use Rattle.gp_round.specs.declared.round.Round.{Round}
use Rattle.gp_round.specs.Configs.{is_owner}
use Rattle.gp_msg.specs.declared.node.Node.{Node}
use Rattle.gp_msg.specs.declared.node.Node.TheVariants.{Proposer, Coordinator, Acceptor, Learner}
use Rattle.gp_msg.specs.declared.event.Event.{Event}
use Rattle.gp_msg.specs.declared.event.Event.TheVariants.{Offer, Begin, Take, Fall}
use Rattle.gp_msg.specs.declared.event.Kept.{Kept}
use Rattle.gp_msg.specs.Messages.{Stamped, epoch_of, maybe_stamped}
use Rattle.gp_proposer.specs.State.{ProposerState}
use Rattle.gp_proposer.specs.Table.{proposer_offer}
use Rattle.gp_coordinator.specs.Epochs.{CoordinatorInEpoch}
use Rattle.gp_coordinator.specs.Epochs as coordinator
use Rattle.gp_acceptor.specs.Epochs.{AcceptorInEpoch}
use Rattle.gp_acceptor.specs.Epochs as acceptor
use Rattle.gp_learner.specs.Epochs as learner
use Rattle.gp_run.specs.States.{coordinator_after_crash, acceptor_after_crash}
use Rattle.gp_world.specs.Nodes.{NodesState, IsThere}

-- a list with the element at a place changed by f
abbrev pub changed : {X : Type 0} → List X → ℕ → (X → X) → List X
changed [] i f = []
changed (x ∷ xs) zero f = f x ∷ xs
changed (x ∷ xs) (suc i) f = x ∷ changed xs i f

-- what the element at a place sends, if it is there
abbrev pub sent_of : {X : Type 0} → List X → ℕ → (X → X × Option Stamped) → Option Stamped
sent_of xs i f = option_and_then (λ x. (f x).1) (slice_get xs i)

-- the step of a proposer that is offered a draft; a proposal is of no epoch
abbrev pub offering : ProposerState → Draft → ProposerState × Option Stamped
offering s d = ((proposer_offer s d).0, maybe_stamped 0 (proposer_offer s d).1)

-- the nodes after one of them took a message
abbrev pub after_take : NodesState → Node → Stamped → NodesState
after_take n (Proposer p) m = n
after_take n (Coordinator c) m = record n { coordinators = changed n.coordinators c (λ s. (coordinator.take s m).0) }
after_take n (Acceptor a) m = record n { acceptors = changed n.acceptors a (λ s. (acceptor.take s m).0) }
after_take n (Learner l) m = record n { learners = changed n.learners l (λ s. (learner.take s m).0) }

-- what that node sends
abbrev pub sent_at_take : NodesState → Node → Stamped → Option Stamped
sent_at_take n (Proposer p) m = None
sent_at_take n (Coordinator c) m = sent_of n.coordinators c (λ s. coordinator.take s m)
sent_at_take n (Acceptor a) m = sent_of n.acceptors a (λ s. acceptor.take s m)
sent_at_take n (Learner l) m = sent_of n.learners l (λ s. learner.take s m)

-- the nodes after one of them crashed
abbrev pub after_fall : NodesState → Node → Option Kept → Option Stamped → NodesState
after_fall n (Proposer p) what m = n
after_fall n (Coordinator c) what m = record n { coordinators = changed n.coordinators c (λ s. coordinator.fall s (coordinator_after_crash s what m)) }
after_fall n (Acceptor a) what m = record n { acceptors = changed n.acceptors a (λ s. acceptor.fall s (acceptor_after_crash s what m)) }
after_fall n (Learner l) what m = record n { learners = changed n.learners l learner.fall }

-- the nodes after an event
abbrev pub after_event : NodesState → Event → Option Stamped → NodesState
after_event n (Offer p d) m = record n { proposers = changed n.proposers p (λ s. (proposer_offer s d).0) }
after_event n (Begin c r) m = record n { coordinators = changed n.coordinators c (λ s. (coordinator.begin s r).0) }
after_event n (Take node k) None = n
after_event n (Take node k) (Some m) = after_take n node m
after_event n (Fall node what) m = after_fall n node what m

-- what the node of the event sends
abbrev pub sent_at_event : NodesState → Event → Option Stamped → Option Stamped
sent_at_event n (Offer p d) m = sent_of n.proposers p (λ s. offering s d)
sent_at_event n (Begin c r) m = sent_of n.coordinators c (λ s. coordinator.begin s r)
sent_at_event n (Take node k) None = None
sent_at_event n (Take node k) (Some m) = sent_at_take n node m
sent_at_event n (Fall node what) m = None

-- proposer p can number one more offer
abbrev pub CanOffer : List ProposerState → ℕ → Type 0
CanOffer proposers p = (s : ProposerState) → slice_get proposers p ≡ Some s → s.offers < 2 ^ 32 - 1

-- coordinator c owns the round
abbrev pub CanBegin : List CoordinatorInEpoch → ℕ → Round → Type 0
CanBegin coordinators c r = (s : CoordinatorInEpoch) → slice_get coordinators c ≡ Some s → is_owner s.state.config.coordinators s.state.number r ≡ true

-- the epoch after that of a message is one that a node can have
abbrev pub HasRoom : Option Stamped → Type 0
HasRoom None = Unit {0}
HasRoom (Some m) = epoch_of m < 2 ^ 32 - 1

-- the event can happen at these nodes, given the message that it names
abbrev pub CanAct : NodesState → Event → Option Stamped → Type 0
CanAct n (Offer p d) m = IsThere n (Proposer p) × CanOffer n.proposers p
CanAct n (Begin c r) m = IsThere n (Coordinator c) × CanBegin n.coordinators c r
CanAct n (Take node k) m = IsThere n node × HasRoom m
CanAct n (Fall node what) m = IsThere n node × HasRoom m
