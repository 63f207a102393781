-- Passes in the hands of nodes that post.
use Rattle.std.specs.Prelude.{◌≡◌, ℕ, zero, suc, List, [], ◌∷◌, ◌++◌}
use Rattle.atomic_table.specs.Seated.{TableId}
use Rattle.gp_msg.specs.declared.node.Node.{Node}
use Rattle.gp_msg.specs.declared.node.Node.TheVariants.{Acceptor}
use Rattle.gp_wire.specs.Lists.{Has}
use Rattle.gp_wire.specs.Known.{PassState}

-- it may post to this wire
abbrev pub IsReady : TableId → PassState → Type 0
IsReady id p = (p.wire ≡ id) × Has p.node p.holds

-- it is of the same wire and node, and holds the same nodes
abbrev pub IsStill : PassState → PassState → Type 0
IsStill p q = (q.wire ≡ p.wire) × (q.node ≡ p.node) × (q.holds ≡ p.holds)

-- each is of this wire and of its node, which it holds alone
abbrev pub AreOfNodes : TableId → List Node → List PassState → Type 0
AreOfNodes id [] [] = Unit {0}
AreOfNodes id (n ∷ ns) (p ∷ ps) = (p.wire ≡ id) × (p.node ≡ n) × (p.holds ≡ n ∷ []) × AreOfNodes id ns ps
AreOfNodes id _ _ = ⊥

-- it holds all these nodes
abbrev pub HasAll : List Node → PassState → Type 0
HasAll nodes p = (n : Node) → Has n nodes → Has n p.holds

-- the first acceptors, in the order of their numbers
abbrev pub acceptors : ℕ → List Node
acceptors zero = []
acceptors (suc n) = acceptors n ++ Acceptor n ∷ []
