-- What contracts see of a wire and of a pass.
use Rattle.std.specs.Prelude.{ℕ, List, [], Option, None, map}
use Rattle.atomic_table.specs.Seated.{TableId}
use Rattle.gp_msg.specs.declared.node.Node.{Node}
use Rattle.gp_msg.specs.declared.record.Record.{Record}
use Rattle.gp_wire.specs.declared.view.Post.{Post}
use Rattle.gp_wire.specs.declared.view.Old.{Old}
use Rattle.gp_wire.specs.Lists.{Has}

-- which wire it is, its nodes, and the rules that it was made with
pub record WireState (R : Type 0) : Type 0 where
  pub id : TableId
  pub nodes : List Node
  pub rules : R

-- whose pass it is and of which wire, all nodes of the wire, the nodes that it holds, the list that it has seen, and the number of its last turn
pub record PassState : Type 0 where
  pub node : Node
  pub wire : TableId
  pub all : List Node
  pub holds : List Node
  pub seen : List Post
  pub turn : Option ℕ

-- the record of a post
abbrev pub record_of : Post → Record
record_of e = e.item

-- the records that the pass has seen, the oldest first
abbrev pub records : PassState → List Record
records p = map record_of p.seen

-- a pass that has seen nothing
abbrev pub new_pass : Node → TableId → List Node → List Node → PassState
new_pass node_ wire_ all_ holds_ = record { node = node_; wire = wire_; all = all_; holds = holds_; seen = []; turn = None }

-- what the pass knew, so that a later list can be compared with it
abbrev pub old_of : PassState → Old
old_of p = record { nodes = p.holds; seen = p.seen; turn = p.turn }

-- it holds all nodes of the wire
abbrev pub HoldsAll : PassState → Type 0
HoldsAll p = (n : Node) → Has n p.all → Has n p.holds
