-- All passes of a wire, which close it.
use Rattle.std.specs.Prelude.{◌≡◌, List, [], ◌∷◌, ◌⊎◌}
use Rattle.atomic_table.specs.Seated.{TableId}
use Rattle.gp_msg.specs.declared.node.Node.{Node}
use Rattle.gp_msg.specs.declared.record.Record.{Record}
use Rattle.gp_wire.specs.declared.view.Post.{Post}
use Rattle.gp_wire.specs.Lists.{Each, Has}
use Rattle.gp_wire.specs.Legal.{LegalFrom}
use Rattle.gp_wire.specs.Rule.{items, Ascends, Begins}
use Rattle.gp_wire.specs.Known.{PassState, old_of}

-- they are passes of this wire
abbrev pub AreOf : TableId → List PassState → Type 0
AreOf id [] = Unit {0}
AreOf id (p ∷ ps) = (p.wire ≡ id) × AreOf id ps

-- some pass holds the node
abbrev pub IsHeld : Node → List PassState → Type 0
IsHeld n [] = ⊥
IsHeld n (p ∷ ps) = Has n p.holds ⊎ IsHeld n ps

-- the list begins with what each pass has seen, and what follows is of none of the nodes that the pass holds, and of turns after that of the pass
abbrev pub AllBegin : List Post → List PassState → Type 0
AllBegin log [] = Unit {0}
AllBegin log (p ∷ ps) = Begins log (old_of p) × AllBegin log ps

-- the closed list, each record with the number of its turn: it is legal, of nodes of the wire, in the order of the turns, and begins with what each pass has seen
pub record Closed (legal : List Record → Record → Type 0) (all : List Node) (passes : List PassState) (out : List Record) : Type 0 where
  pub log : List Post
  pub list : out ≡ items log
  pub lawful : LegalFrom legal [] out
  pub ours : Each (λ e. Has e.item.node all) log
  pub ascends : Ascends 0 log
  pub lists : AllBegin log passes
