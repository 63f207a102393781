-- What proposers offer in a run.
use Rattle.std.specs.Prelude.{◌≡◌, ◌<◌, ℕ, Bool, true, false, cond, nat_eq, List, [], ◌∷◌, ◌++◌, map, None}
use Rattle.gp_command.specs.declared.command.TheConstants.{PROPOSERS}
use Rattle.gp_command.specs.Views.{DraftView}
use Rattle.gp_msg.specs.declared.node.Node.{Node}
use Rattle.gp_msg.specs.declared.node.Node.TheVariants.{Proposer, Coordinator, Acceptor, Learner}
use Rattle.gp_wire.specs.Known.{WireState}
use Rattle.gp_work.specs.declared.moves.Move.{Move}
use Rattle.gp_work.specs.declared.moves.Move.TheVariants as move
use Rattle.gp_work.specs.declared.job.Job.{Job}
use Rattle.gp_work.specs.Doing.{Goes, Posted}
use Rattle.gp_work.specs.Moves.{event_of}
use Rattle.gp_cell.specs.declared.rules.PaxosRules.{PaxosRules}
use Rattle.gp_cell.specs.Cores.{opening, part_in}
use Rattle.gp_cell.specs.Cells.{CellState, Keeps}
use Rattle.gp_cell.specs.Working.{process_of, IsAt, is_up}

-- the node is the proposer with this number
abbrev pub is_proposer : Node → ℕ → Bool
is_proposer (Proposer p) q = nat_eq p q
is_proposer (Coordinator c) q = false
is_proposer (Acceptor a) q = false
is_proposer (Learner l) q = false

-- the move by which a node makes an offer, if it is its own
abbrev pub own_move : Node → ℕ × DraftView → List Move
own_move n o = cond (is_proposer n o.0) (move.Offer o.1 ∷ []) []

-- the moves by which a node makes those of the offers that are its own, in their order
abbrev pub moves_of : Node → List (ℕ × DraftView) → List Move
moves_of n [] = []
moves_of n (o ∷ os) = own_move n o ++ moves_of n os

-- the job, with these moves to make
abbrev pub given_to : {D : Type 0} → List (ℕ × DraftView) → Job (CellState D) → Job (CellState D)
given_to offers j = record { cell = j.cell; first = moves_of j.cell.node offers; cursor = j.cursor; turn = j.turn; risen = j.risen; fault = j.fault }

-- the node of the job
abbrev pub node_in : {D : Type 0} → Job (CellState D) → Node
node_in j = j.cell.node

-- the number of the proposer is one of the eight
abbrev pub IsKnown : ℕ × DraftView → Type 0
IsKnown o = o.0 < PROPOSERS

-- the job did not end early, and if the node is up its log keeps the durable part of its state
abbrev pub IsDone : {D : Type 0} → Job (CellState D) → Type 0
IsDone j = (j.fault ≡ None) × (j.cell.down ≡ None → Keeps (part_in (opening j.cell.config j.cell.node)) (part_in j.cell.core) j.cell.log)

-- a job that was j at first: its node has posted its own offers, in their order, and nothing else. `faults` counts the faults of a disk
pub record HasOffered {D : Type 0} (faults : D → ℕ) (wire : WireState PaxosRules) (offers : List (ℕ × DraftView)) (j k : Job (CellState D)) : Type 0 where
  pub own : IsAt k.cell wire
  pub goes : Goes (process_of faults j.cell) (process_of faults k.cell)
  pub posts : Posted (process_of faults j.cell) (process_of faults k.cell) (map (event_of j.cell.node) (moves_of j.cell.node offers))
  pub up : is_up k.cell.down ≡ true
  pub fault : k.fault ≡ None
  pub first : k.first ≡ []
  pub risen : k.risen ≡ false
