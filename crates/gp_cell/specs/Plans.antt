-- What a move makes of a core, given the message that it takes.
use Rattle.std.specs.Prelude.{◌≡◌, ◌-◌, ◌^◌, ◌<◌, true, List, slice_get, Option, Some, None}
use Rattle.gp_round.specs.Configs.{is_owner}
use Rattle.gp_msg.specs.declared.node.Node.{Node}
use Rattle.gp_msg.specs.declared.node.Node.TheVariants as node
use Rattle.gp_msg.specs.declared.message.Msg.{Msg}
use Rattle.gp_msg.specs.Messages.{Stamped, maybe_stamped}
use Rattle.gp_proposer.specs.Table as proposer
use Rattle.gp_coordinator.specs.Epochs as coordinator
use Rattle.gp_acceptor.specs.Epochs as acceptor
use Rattle.gp_learner.specs.Epochs as learner
use Rattle.gp_work.specs.declared.moves.Move.{Move}
use Rattle.gp_work.specs.declared.moves.Move.TheVariants.{Offer, Begin, Take}
use Rattle.gp_cell.specs.declared.roles.Core.{Core}
use Rattle.gp_cell.specs.declared.roles.Core.TheVariants.{Proposer, Coordinator, Acceptor, Learner}

-- the core is one of the node's role
abbrev pub HasRole : Node → Core → Type 0
HasRole (node.Proposer p) (Proposer s) = Unit {0}
HasRole (node.Coordinator c) (Coordinator s) = Unit {0}
HasRole (node.Acceptor a) (Acceptor s) = Unit {0}
HasRole (node.Learner l) (Learner s) = Unit {0}
HasRole n core = ⊥

-- the core after it took a message, and what it sends
abbrev pub took : Core → Stamped → Core × Option Stamped
took (Proposer s) m = (Proposer s, None)
took (Coordinator s) m = (Coordinator (coordinator.take s m).0, (coordinator.take s m).1)
took (Acceptor s) m = (Acceptor (acceptor.take s m).0, (acceptor.take s m).1)
took (Learner s) m = (Learner (learner.take s m).0, (learner.take s m).1)

-- the core after it was given a draft, and what it sends
abbrev pub offered : Core → Move → Core × Option Stamped
offered (Proposer s) (Offer d) = (Proposer (proposer.proposer_offer s d).0, maybe_stamped 0 (proposer.proposer_offer s d).1)
offered core mv = (core, None)

-- the core after it began a round, and what it sends
abbrev pub begun : Core → Move → Core × Option Stamped
begun (Coordinator s) (Begin r) = (Coordinator (coordinator.begin s r).0, (coordinator.begin s r).1)
begun core mv = (core, None)

-- the core after it took a message, if there is one, and what it sends
abbrev pub took_if : Core → Option Stamped → Core × Option Stamped
took_if core None = (core, None)
took_if core (Some m) = took core m

-- the core after a move that takes this message, if it takes one, and what the core sends
abbrev pub planned : Core → Move → Option Stamped → Core × Option Stamped
planned core (Offer d) m = offered core (Offer d)
planned core (Begin r) m = begun core (Begin r)
planned core (Take k) m = took_if core m

-- the core can make the move
abbrev pub CanPlan : Core → Move → Type 0
CanPlan (Proposer s) (Offer d) = s.offers < 2 ^ 32 - 1
CanPlan (Coordinator s) (Begin r) = is_owner s.state.config.coordinators s.state.number r ≡ true
CanPlan core (Take k) = Unit {0}
CanPlan core mv = ⊥

-- the message that a move takes, after these were sent
abbrev pub named : List Stamped → Move → Option Stamped
named ms (Offer d) = None
named ms (Begin r) = None
named ms (Take k) = slice_get ms k

-- if the move takes a message, there is one
abbrev pub IsNamed : {A : Type 0} → Move → Option A → Type 0
IsNamed (Offer d) m = Unit {0}
IsNamed (Begin r) m = Unit {0}
IsNamed (Take k) None = ⊥
IsNamed (Take k) (Some m) = Unit {0}

-- the message is the one that the move takes among these, if it takes one
abbrev pub Names : List Msg → Move → Option Msg → Type 0
Names ms (Offer d) m = Unit {0}
Names ms (Begin r) m = Unit {0}
Names ms (Take k) None = ⊥
Names ms (Take k) (Some m) = slice_get ms k ≡ Some m
