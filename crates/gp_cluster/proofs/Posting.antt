-- What the proposers of a run posted.
use Rattle.std.proofs.Common.{◌≡◌, ◌<◌, ℕ, List, ◌++◌, map, length, get_or, sym, ap, ◌∙◌, subst, arith, Some}
use Rattle.std.specs.Prelude.{slice_get}
use Rattle.gp_command.specs.Views.{DraftView}
use Rattle.gp_command.specs.declared.command.TheConstants.{PROPOSERS}
use Rattle.gp_round.specs.Counts.{Counts}
use Rattle.gp_msg.specs.declared.node.Node.TheVariants.{Proposer}
use Rattle.gp_msg.specs.declared.record.Record.{Record}
use Rattle.gp_wire.specs.Lists.{Each, Has}
use Rattle.gp_wire.specs.Known.{WireState, records}
use Rattle.gp_wire.specs.Own.{own_events, event_in, IsBehind}
use Rattle.gp_cell.specs.declared.rules.PaxosRules.{PaxosRules}
use Rattle.gp_work.specs.declared.job.Job.{Job}
use Rattle.gp_work.specs.Moves.{event_of}
use Rattle.gp_cell.specs.Cells.{CellState}
use Rattle.gp_ending.specs.Ended.{cells_of, nodes_of}
use Rattle.gp_ending.proofs.Indexing.{JobOf, job_of, each_got, each_then, second_cells}
use Rattle.gp_ending.proofs.Holding.{own_behind}
use Rattle.gp_seats.specs.declared.nodes.Role.TheVariants as role
use Rattle.gp_seats.specs.Nodes.{proposer_nodes}
use Rattle.gp_seats.specs.Seats.{IsNewAt}
use Rattle.gp_seats.specs.Offering.{moves_of, HasOffered}
use Rattle.gp_seats.proofs.Listing.{has_first}
use Rattle.gp_cluster.specs.Offers.{AreOffered}
use Rattle.gp_cluster.specs.Closing.{IsRunOfCells}

-- a list has of a proposer what its cell has seen
abbrev pub KeepsProposer : {D : Type 0} → List Record → CellState D → Type 0
KeepsProposer list c = (p : ℕ) → c.node ≡ Proposer p → own_events c.node list ≡ own_events c.node (records c.pass)

module _ {D : Type 0} (config : Counts) (cells : List (CellState D)) (list : List Record) (r : IsRunOfCells config cells list) where
  pub run_keeps : Each (KeepsProposer list) cells
  run_keeps = each_then (λ c. IsBehind c.node (records c.pass) list) (KeepsProposer list) (λ c b p e. ap (map event_in) (own_behind list c b)) cells (each_got (λ c. IsBehind c.node (records c.pass) list) cells r.behind)

  -- so has a longer list in which they rest
  pub rest_keeps : (longer : List Record) → ((i : ℕ) (c : CellState D) (p : ℕ) → slice_get cells i ≡ Some c → c.node ≡ Proposer p → own_events c.node longer ≡ own_events c.node list) → Each (KeepsProposer longer) cells
  rest_keeps longer rests = each_got (KeepsProposer longer) cells (λ i c e p q. rests i c p e q ∙ ap (map event_in) (own_behind list c (r.behind i c e)))

-- each proposer made its own offers and did nothing else
pub are_offered : {D : Type 0} (faults : D → ℕ) (wire : WireState PaxosRules) (offers : List (ℕ × DraftView)) (worked proposing offered : List (Job (CellState D))) (list : List Record) → nodes_of proposing ≡ proposer_nodes → length offered ≡ length proposing
    → ((i : ℕ) (d : Job (CellState D)) → i < length proposing → IsNewAt faults wire (get_or proposing i d)) → ((i : ℕ) (d : Job (CellState D)) → i < length proposing → HasOffered faults wire offers (get_or proposing i d) (get_or offered i d))
    → Each (KeepsProposer list) (cells_of worked ++ cells_of offered) → AreOffered offers list
are_offered {D} faults wire offers worked proposing offered list nodes size new has keeps p l =
    ap (λ n. own_events n list) (sym same) ∙ kept p same
    ∙ h.posts ∙ (λ i. n.nothing i ++ map (event_of (job.node_is i)) (moves_of (job.node_is i) offers))
  where
    job : JobOf (Proposer p) proposing
    job = job_of (Proposer p) proposing (subst (Has (Proposer p)) (sym nodes) (has_first role.Proposer PROPOSERS p l))

    h : HasOffered faults wire offers (get_or proposing job.place job.some) (get_or offered job.place job.some)
    h = has job.place job.some job.within

    n : IsNewAt faults wire (get_or proposing job.place job.some)
    n = new job.place job.some job.within

    same : (get_or offered job.place job.some).cell.node ≡ Proposer p
    same = h.goes.node ∙ job.node_is

    kept : KeepsProposer list (get_or offered job.place job.some).cell
    kept = second_cells (KeepsProposer list) worked offered keeps job.place job.some (omega (arith, size, job.within))
