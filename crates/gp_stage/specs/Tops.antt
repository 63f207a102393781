-- The greatest counts of rounds in cells.
use Rattle.std.specs.Prelude.{◌≡◌, ℕ, max, List, [], ◌∷◌, slice_get, Option, Some, None}
use Rattle.gp_msg.specs.declared.node.Node.{Node}
use Rattle.gp_msg.specs.declared.node.Node.TheVariants.{Proposer, Coordinator, Acceptor, Learner}
use Rattle.gp_msg.specs.Messages.{Part, Acceptors, Coordinators, EpochPart}
use Rattle.gp_run.specs.Runs.{newest_first}
use Rattle.gp_wire.specs.Known.{records}
use Rattle.gp_cell.specs.Cores.{core_at, part_in}
use Rattle.gp_cell.specs.Cells.{CellState}

-- the greatest count of the rounds in a durable part
abbrev pub top_of_part : Part → ℕ
top_of_part (Acceptors r q v) = max r.count q.count
top_of_part (Coordinators r) = r.count

-- the same, and 0 if there is no part
abbrev pub top_in : Option EpochPart → ℕ
top_in None = 0
top_in (Some p) = top_of_part p.part

-- the count of the round of a coordinator, and 0 for any other node
abbrev pub coordinator_top : Node → ℕ → ℕ
coordinator_top (Proposer n) top = 0
coordinator_top (Coordinator n) top = top
coordinator_top (Acceptor n) top = 0
coordinator_top (Learner n) top = 0

-- the greatest of these counts among some cells
abbrev pub top_of_cells : {D : Type 0} → List (CellState D) → ℕ
top_of_cells [] = 0
top_of_cells (c ∷ cs) = max (coordinator_top c.node (top_in (part_in c.core))) (top_of_cells cs)

-- the state of each cell is the one that its node's own records make
abbrev pub AreTrue : {D : Type 0} → List (CellState D) → Type 0
AreTrue {D} cells = (i : ℕ) (c : CellState D) → slice_get cells i ≡ Some c → c.core ≡ core_at c.config c.node (newest_first (records c.pass))
