-- The closed list, by what the passes of its nodes have seen.
use Rattle.std.specs.Prelude.{◌≡◌, ◌≤◌, ℕ, ◌+◌, List, [], ◌∷◌, ◌++◌, map, length}
use Rattle.gp_msg.specs.declared.node.Node.{Node}
use Rattle.gp_msg.specs.declared.record.Record.{Record}
use Rattle.gp_wire.specs.declared.view.Post.{Post}
use Rattle.gp_wire.specs.Lists.{Each, Has, IsDistinct}
use Rattle.gp_msg.specs.Records.{messages_in}
use Rattle.gp_wire.specs.Known.{PassState, records}
use Rattle.gp_wire.specs.Ends.{AllBegin}
use Rattle.gp_wire.specs.Own.{own, own_events}
use Rattle.gp_work.specs.Batches.{AreRead}
use Rattle.gp_phase.specs.Deeds.{takes_in}

abbrev pub node_of : PassState → Node
node_of p = p.node

-- how many records the nodes of these passes posted together
abbrev pub posted_all : List PassState → ℕ
posted_all [] = 0
posted_all (p ∷ ps) = length (own p.node (records p)) + posted_all ps

-- the node took each message of the list that it reads, exactly once, and no other
abbrev pub IsQuietAt : Node → List Record → Type 0
IsQuietAt n list = AreRead n (messages_in list) 0 (length (messages_in list)) (takes_in (own_events n list))

-- the passes are of different nodes, which are all those of the list. Each holds its own node, and the list begins with what it has seen
pub record AreAll (log : List Post) (ps : List PassState) : Type 0 where
  pub begin : AllBegin log ps
  pub ours : Each (λ e. Has e.item.node (map node_of ps)) log
  pub distinct : IsDistinct (map node_of ps)
  pub hold : Each (λ p. Has p.node p.holds) ps

-- at the end of the work phases: the pass had seen as many records as all nodes posted, and its node had looked at all of their messages and taken those that it reads
pub record SawAll (ps : List PassState) (p : PassState) (cursor : ℕ) : Type 0 where
  pub seen : List Record
  pub more : List Record
  pub split : records p ≡ seen ++ more
  pub whole : length seen ≡ posted_all ps
  pub looked : length (messages_in seen) ≤ cursor
  pub read : AreRead p.node (messages_in (records p)) 0 cursor (takes_in (own_events p.node (records p)))
