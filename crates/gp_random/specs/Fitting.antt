-- What holds of every event of a workload, and of its plan at every time.
use Rattle.std.specs.Prelude.{◌≡◌, ℕ, ◌+◌, ◌-◌, ◌≤◌, ◌<◌, true, Option, Some, None}
use Rattle.gp_command.specs.declared.command.TheConstants.{PROPOSERS}
use Rattle.gp_round.specs.Configs.{is_owner}
use Rattle.gp_store.specs.declared.op.Op.{Op}
use Rattle.gp_store.specs.Operations.{IsOp, draft_for}
use Rattle.gp_msg.specs.declared.node.Node.{Node}
use Rattle.gp_msg.specs.declared.node.Node.TheVariants.{Proposer, Coordinator, Acceptor, Learner}
use Rattle.gp_msg.specs.declared.event.Event.{Event}
use Rattle.gp_msg.specs.declared.event.Event.TheVariants.{Offer, Begin, Take, Fall}
use Rattle.gp_random.specs.declared.plan.Plan.{Plan}

-- the node is one of three acceptors, three coordinators or two learners
abbrev pub IsNumbered : Node → Type 0
IsNumbered (Proposer p) = ⊥
IsNumbered (Coordinator c) = c < 3
IsNumbered (Acceptor a) = a < 3
IsNumbered (Learner l) = l < 2

-- one of eight proposers offers the draft of an operation; a coordinator begins a round that it owns; a node takes one of so many messages, or crashes and keeps nothing
abbrev pub IsFit : ℕ → Event → Type 0
IsFit have (Offer proposer draft) = (proposer < PROPOSERS) × ((op : Op) × IsOp op × (draft ≡ draft_for op))
IsFit have (Begin coordinator round) = (coordinator < 3) × (is_owner 3 coordinator round ≡ true) × (round.count ≤ 2048)
IsFit have (Take node message) = IsNumbered node × (message < have)
IsFit have (Fall node kept) = IsNumbered node × (kept ≡ None)

-- how many commands an event offers
abbrev pub offers_in : Option Event → ℕ
offers_in (Some (Offer proposer draft)) = 1
offers_in event = 0

-- no turn is left and all commands were offered
pub record HasEnded (p : Plan) : Type 0 where
  pub turns : p.turns ≡ 0
  pub offered : p.offered ≡ p.size

-- the greatest number of events that are left: one for each turn, and one for each command
abbrev pub events_left : Plan → ℕ
events_left p = p.turns + (p.size - p.offered)
