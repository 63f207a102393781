-- What an event is to one learner.
use Rattle.std.specs.Prelude.{ℕ, Bool, false, cond, nat_eq}
use Rattle.gp_msg.specs.declared.node.Node.{Node}
use Rattle.gp_msg.specs.declared.node.Node.TheVariants.{Proposer, Coordinator, Acceptor, Learner}
use Rattle.gp_msg.specs.declared.event.Event.{Event}
use Rattle.gp_msg.specs.declared.event.Event.TheVariants.{Offer, Begin, Take, Fall}
use Rattle.gp_audit.specs.declared.own.OwnEvent.{OwnEvent}
use Rattle.gp_audit.specs.declared.own.OwnEvent.TheVariants.{Takes, Falls, Elsewhere}

-- the node is learner l
abbrev pub is_learner : ℕ → Node → Bool
is_learner l (Proposer p) = false
is_learner l (Coordinator c) = false
is_learner l (Acceptor a) = false
is_learner l (Learner i) = nat_eq l i

-- what an event is to learner l
abbrev pub own_event : ℕ → Event → OwnEvent
own_event l (Offer p d) = Elsewhere
own_event l (Begin c r) = Elsewhere
own_event l (Take node k) = cond (is_learner l node) (Takes k) Elsewhere
own_event l (Fall node what) = cond (is_learner l node) Falls Elsewhere
