-- Legal runs: each event fits the entries before it, and each message is the one that the tables give.
use Rattle.std.specs.Prelude.{◌≡◌, Bool, true, List, [], ◌∷◌, length, Option}
use Rattle.std.specs.Option.{option_to_list}
use Rattle.gp_round.specs.Counts.{Counts}
use Rattle.gp_msg.specs.declared.node.Node.{Node}
use Rattle.gp_msg.specs.declared.node.Node.TheVariants.{Proposer, Coordinator, Acceptor, Learner}
use Rattle.gp_msg.specs.declared.event.Event.{Event}
use Rattle.gp_msg.specs.Nodes.{node_of, fits_among}
use Rattle.gp_msg.specs.Messages.{Stamped, Entry}
use Rattle.gp_run.specs.Messages.{messages}
use Rattle.gp_run.specs.States.{proposer_acts, proposer_at, coordinator_acts, coordinator_at, acceptor_acts, acceptor_at, learner_acts, learner_at}

-- the event may happen after these entries
abbrev pub fits : Counts → List Entry → Event → Bool
fits config es event = fits_among config (length (messages es)) event

-- what a node sends at an event
abbrev pub sent_by : Counts → List Entry → Node → Event → Option Stamped
sent_by config es (Proposer p) event = (proposer_acts p (proposer_at p es) event).1
sent_by config es (Coordinator c) event = (coordinator_acts c (coordinator_at config c es) (messages es) event).1
sent_by config es (Acceptor a) event = (acceptor_acts a (acceptor_at config a es) (messages es) event).1
sent_by config es (Learner l) event = (learner_acts l (learner_at config l es) (messages es) event).1

-- what is sent at an event: at most one message
abbrev pub sent_at : Counts → List Entry → Event → List Stamped
sent_at config es event = option_to_list (sent_by config es (node_of event) event)

-- the entry may come next: its event fits these entries, and its node and messages are those of the event
pub record Follows (config : Counts) (es : List Entry) (e : Entry) : Type 0 where
  pub own_node : e.node ≡ node_of e.event
  pub event_fits : fits config es e.event ≡ true
  pub own_messages : e.sent ≡ sent_at config es e.event

-- each entry follows those before it
abbrev pub Legal : Counts → List Entry → Type 0
Legal config [] = Unit {0}
Legal config (e ∷ es) = Legal config es × Follows config es e
