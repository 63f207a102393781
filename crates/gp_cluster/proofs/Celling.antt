-- The cells of jobs, from the start of a run to its end.
use Rattle.std.proofs.Common.{◌≡◌, ◌<◌, ℕ, suc, List, [], ◌∷◌, ◌++◌, map, length, get_or, refl, sym, ap, ◌∙◌, arith, Option, append_assoc}
use Rattle.std.specs.List.{All}
use Rattle.std.specs.Option.{option_to_list}
use Rattle.std.proofs.lemmas.List.{append-nil, map-append}
use Rattle.gp_command.specs.Views.{DraftView}
use Rattle.gp_round.specs.Counts.{Counts}
use Rattle.gp_vlog.specs.Logs.{LogState}
use Rattle.gp_wire.specs.Lists.{Each}
use Rattle.gp_wire.specs.Known.{WireState}
use Rattle.gp_cell.specs.declared.rules.PaxosRules.{PaxosRules}
use Rattle.gp_work.specs.declared.job.Job.{Job}
use Rattle.gp_work.specs.Doing.{Goes}
use Rattle.gp_cell.specs.Cells.{CellState}
use Rattle.gp_cell.specs.Working.{process_of, IsAt}
use Rattle.gp_ending.specs.Ended.{cell_in, cells_of, nodes_of}
use Rattle.gp_ending.proofs.Indexing.{each_of, each_both, each_mapped}
use Rattle.gp_seats.specs.Nodes.{working_nodes, proposer_nodes}
use Rattle.gp_seats.specs.Seats.{new_passes}
use Rattle.gp_seats.specs.Offering.{HasOffered}
use Rattle.gp_seats.proofs.Sitting.{proposers_sit, all_of_each}
use Rattle.gp_shelf.proofs.Zips.{AllZip-append}
use Rattle.gp_ending.specs.Working.{IsCarriedJob}
use Rattle.gp_cluster.specs.Cells.{IsKnownCell, AreCellsAt, CellGoes, CellsGo, node_in, logs_of}
use Rattle.gp_cluster.proofs.Going.{nodes_go}
use Rattle.gp_cluster.specs.Seated.{IsSeated}
use Rattle.gp_cluster.proofs.Starting.{seated_nodes, seated_logs}

module _ {D : Type 0} where
  pub nodes_of_cells : (js : List (Job (CellState D))) → map node_in (cells_of js) ≡ nodes_of js
  nodes_of_cells [] = refl
  nodes_of_cells (j ∷ js) = ap (λ l. j.cell.node ∷ l) (nodes_of_cells js)

  pub logs_both : (xs ys : List (CellState D)) → logs_of (xs ++ ys) ≡ logs_of xs ++ logs_of ys
  logs_both [] ys = refl
  logs_both (x ∷ xs) ys = ap (λ l. option_to_list x.log ++ l) (logs_both xs ys) ∙ sym (append_assoc (option_to_list x.log) (logs_of xs) (logs_of ys))

  -- what holds of the cell of each job holds of the cells
  pub each_cell : (P : CellState D → Type 0) (js : List (Job (CellState D))) → ((i : ℕ) (d : Job (CellState D)) → i < length js → P (get_or js i d).cell) → Each P (cells_of js)
  each_cell P js h = each_mapped P cell_in js (each_of (λ j. P j.cell) js h)

  pub go_cells : (faults : D → ℕ) (js ks : List (Job (CellState D))) → length ks ≡ length js
      → ((i : ℕ) (d : Job (CellState D)) → i < length js → Goes (process_of faults (get_or js i d).cell) (process_of faults (get_or ks i d).cell)) → CellsGo faults (cells_of js) (cells_of ks)
  go_cells faults [] [] e h = tt
  go_cells faults [] (k ∷ ks) e h = absurd (omega (arith, e))
  go_cells faults (j ∷ js) [] e h = absurd (omega (arith, e))
  go_cells faults (j ∷ js) (k ∷ ks) e h =
      let g = h 0 j (omega arith) in (
        record { node = g.node; config = g.config; limit = g.limit; later = g.faults },
        go_cells faults js ks (omega (arith, e)) (λ i d l. h (suc i) d (omega (arith, l))),
      )

module _ {D : Type 0} (content : D → Option (List ℕ)) (faults : D → ℕ) (config : Counts) (wire : WireState PaxosRules) (offers : List (ℕ × DraftView)) (jobs proposers worked offered : List (Job (CellState D))) (logs : List (LogState D)) (s : IsSeated config wire jobs proposers logs)
    (size : length worked ≡ length jobs) (carried : (i : ℕ) (d : Job (CellState D)) → i < length jobs → IsCarriedJob content faults wire (get_or jobs i d) (get_or worked i d))
    (as_many : length offered ≡ length proposers) (has : (i : ℕ) (d : Job (CellState D)) → i < length proposers → HasOffered faults wire offers (get_or proposers i d) (get_or offered i d)) where
  abbrev pub first : List (CellState D)
  first = cells_of jobs ++ cells_of proposers

  abbrev pub last : List (CellState D)
  last = cells_of worked ++ cells_of offered

  pub all_go : CellsGo faults first last
  all_go = AllZip-append (CellGoes faults) (cells_of jobs) (cells_of proposers) (cells_of worked) (cells_of offered)
      (go_cells faults jobs worked size (λ i d l. (carried i d l).goes)) (go_cells faults proposers offered as_many (λ i d l. (has i d l).goes))

  jobs_nodes : nodes_of jobs ≡ working_nodes config
  jobs_nodes = ap nodes_of s.jobs_are ∙ seated_nodes config wire (working_nodes config) logs

  pub proposers_nodes : nodes_of proposers ≡ proposer_nodes
  proposers_nodes = ap nodes_of s.proposers_are ∙ seated_nodes {D = D} config wire proposer_nodes []

  first_nodes : map node_in first ≡ wire.nodes
  first_nodes =
      map-append node_in (cells_of jobs) (cells_of proposers)
      ∙ (λ i. (nodes_of_cells jobs ∙ jobs_nodes) i ++ (nodes_of_cells proposers ∙ proposers_nodes) i) ∙ sym s.nodes

  pub last_nodes : map node_in last ≡ wire.nodes
  last_nodes = nodes_go faults first last all_go ∙ first_nodes

  pub first_logs : logs_of (cells_of jobs) ≡ logs → logs_of first ≡ logs
  first_logs e =
      logs_both (cells_of jobs) (cells_of proposers)
      ∙ (λ i. e i ++ (ap (λ js. logs_of (cells_of js)) s.proposers_are ∙ seated_logs config (new_passes wire proposer_nodes) [] (proposers_sit D config wire)) i)
      ∙ append-nil logs

  pub each_at_wire : Each (λ (c : CellState D). IsAt c wire) last
  each_at_wire = each_both (λ c. IsAt c wire) (cells_of worked) (cells_of offered)
      (each_cell (λ c. IsAt c wire) worked (λ i d l. (carried i d (omega (arith, size, l))).own))
      (each_cell (λ c. IsAt c wire) offered (λ i d l. (has i d (omega (arith, as_many, l))).own))

  pub are_cells : All IsKnownCell (cells_of worked) → All IsKnownCell (cells_of offered) → AreCellsAt wire last
  are_cells a b = record {
    own = all_of_each (λ c. IsAt c wire) last each_at_wire;
    known = all_of_each IsKnownCell last (each_both IsKnownCell (cells_of worked) (cells_of offered) (each_of IsKnownCell (cells_of worked) a) (each_of IsKnownCell (cells_of offered) b));
    nodes = last_nodes;
  }
