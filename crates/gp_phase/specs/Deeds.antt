-- What a node did: which messages it took, and what else.
use Rattle.std.specs.Prelude.{◌≡◌, ◌≤◌, ℕ, List, [], ◌∷◌, ◌++◌, map}
use Rattle.gp_round.specs.declared.round.Round.{Round}
use Rattle.gp_msg.specs.declared.node.Node.{Node}
use Rattle.gp_msg.specs.declared.event.Event.{Event}
use Rattle.gp_msg.specs.declared.event.Event.TheVariants.{Offer, Begin, Take, Fall}
use Rattle.gp_msg.specs.Records.{messages_in}
use Rattle.gp_wire.specs.Own.{own_events}
use Rattle.gp_work.specs.declared.moves.Move.{Move}
use Rattle.gp_work.specs.declared.moves.Move.TheVariants as move
use Rattle.gp_work.specs.Doing.{ProcessState, have}
use Rattle.gp_work.specs.Moves.{event_of}
use Rattle.gp_work.specs.Batches.{AreRead}

abbrev pub taken_by : Event → List ℕ
taken_by (Offer p d) = []
taken_by (Begin c r) = []
taken_by (Take n k) = k ∷ []
taken_by (Fall n kept) = []

-- the messages that these events take
abbrev pub takes_in : List Event → List ℕ
takes_in [] = []
takes_in (e ∷ es) = taken_by e ++ takes_in es

abbrev pub besides : Event → List Event
besides (Offer p d) = Offer p d ∷ []
besides (Begin c r) = Begin c r ∷ []
besides (Take n k) = []
besides (Fall n kept) = Fall n kept ∷ []

-- the other events
abbrev pub others_in : List Event → List Event
others_in [] = []
others_in (e ∷ es) = besides e ++ others_in es

-- the events by which a node begins these rounds
abbrev pub begins : Node → List Round → List Event
begins n rs = map (λ r. event_of n (move.Begin r)) rs

-- the moves that begin these rounds
abbrev pub begin_moves : List Round → List Move
begin_moves rs = map (λ r. move.Begin r) rs

-- the node took each message below its cursor that it reads, exactly once, and these are its other events
pub record Tidy (p : ProcessState) (cursor : ℕ) (deeds : List Event) : Type 0 where
  pub read : AreRead p.node (messages_in p.list) 0 cursor (takes_in (own_events p.node p.list))
  pub acts : others_in (own_events p.node p.list) ≡ deeds
  pub within : cursor ≤ have p
