-- What contracts see of a running node, and what a call does to it.
use Rattle.std.specs.Prelude.{◌≡◌, ℕ, ◌+◌, ◌-◌, ◌^◌, ◌<◌, ◌≤◌, Bool, List, ◌++◌, length, min, Option, Some, None}
use Rattle.gp_round.specs.Counts.{Counts}
use Rattle.gp_msg.specs.declared.node.Node.{Node}
use Rattle.gp_msg.specs.declared.event.Event.{Event}
use Rattle.gp_msg.specs.declared.record.Record.{Record}
use Rattle.gp_msg.specs.Records.{messages_in}
use Rattle.gp_wire.specs.Own.{own, own_events}

-- which node it is and of which configuration, the list that it has seen, the number of its last turn at the wire, how often its disk failed, the limit of its log, if it keeps one, and whether it is up
pub record ProcessState : Type 0 where
  pub node : Node
  pub config : Counts
  pub list : List Record
  pub turn : Option ℕ
  pub faults : ℕ
  pub limit : Option ℕ
  pub up : Bool

-- how many records it posted
abbrev pub posted : ProcessState → ℕ
posted p = length (own p.node p.list)

-- how many messages it has seen
abbrev pub have : ProcessState → ℕ
have p = length (messages_in p.list)

-- the first turn is no later than the second
abbrev pub IsUpTo : Option ℕ → Option ℕ → Type 0
IsUpTo None u = Unit {0}
IsUpTo (Some t) None = ⊥
IsUpTo (Some t) (Some u) = t ≤ u

-- there was a turn, after the first one if there was a first
abbrev pub HasRisen : Option ℕ → Option ℕ → Type 0
HasRisen t None = ⊥
HasRisen None (Some u) = Unit {0}
HasRisen (Some t) (Some u) = t < u

-- the count has increased by two or more, or is at its last value
abbrev pub RoseTwice : ℕ → ℕ → Type 0
RoseTwice before now = min (before + 2) (2 ^ 64 - 1) ≤ now

-- it is the same node, whose list may be longer, and whose log has the same limit
pub record Goes (p q : ProcessState) : Type 0 where
  pub node : q.node ≡ p.node
  pub config : q.config ≡ p.config
  pub more : List Record
  pub grown : q.list ≡ p.list ++ more
  pub turn : IsUpTo p.turn q.turn
  pub faults : p.faults ≤ q.faults
  pub limit : q.limit ≡ p.limit

-- the records that it posted have these events
abbrev pub Posted : ProcessState → ProcessState → List Event → Type 0
Posted p q es = own_events q.node q.list ≡ own_events p.node p.list ++ es
