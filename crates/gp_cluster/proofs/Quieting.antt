-- Phases that ended quietly, from the offers of the proposers.
use Rattle.std.proofs.Common.{◌≡◌, ◌<◌, ℕ, zero, suc, List, [], ◌∷◌, map, length, get_or, refl, sym, ap, ◌∙◌, subst, arith, Option, None}
use Rattle.std.specs.Prelude.{IfSome}
use Rattle.std.specs.List.{All}
use Rattle.std.proofs.lemmas.List.{length-map}
use Rattle.gp_command.specs.Views.{DraftView}
use Rattle.gp_round.specs.Counts.{Counts}
use Rattle.gp_wire.specs.Known.{WireState}
use Rattle.gp_cell.specs.declared.rules.PaxosRules.{PaxosRules}
use Rattle.gp_work.specs.declared.job.Job.{Job}
use Rattle.gp_cell.specs.Cells.{CellState}
use Rattle.gp_cell.specs.Working.{process_of}
use Rattle.gp_phase.specs.declared.caller.Call.{Call}
use Rattle.gp_phase.specs.Phases.{total}
use Rattle.gp_node.specs.Phases.{IsWorkedJob}
use Rattle.gp_ending.specs.Ended.{nodes_of, AreNodesOf, IsToOffer}
use Rattle.gp_seats.specs.Nodes.{working_nodes, proposer_nodes}
use Rattle.gp_seats.specs.Offering.{HasOffered, IsKnown, given_to}
use Rattle.gp_seats.proofs.Offered.{all_offers}
use Rattle.gp_ending.specs.declared.ends.RunEnd.{RunEnd}
use Rattle.gp_ending.specs.Working.{IsCarriedJob, IsDecided, HaveOffered, RestsAfter, EndsQuietlyFrom}
use Rattle.gp_ending.proofs.Resting.{ends_quietly_from}
use Rattle.gp_cluster.specs.declared.policy.RoundPolicy.{RoundPolicy}
use Rattle.gp_cluster.specs.Policies.{answers_of}
use Rattle.gp_cluster.specs.Seated.{IsSeated, IsCarriedRun, logs_in}
use Rattle.gp_cluster.proofs.Starting.{seated_nodes, nodes_are}
use Rattle.gp_cluster.proofs.Sitting as sitting

-- ---- jobs with moves to make

module _ {D : Type 0} (offers : List (ℕ × DraftView)) where
  given_nodes : (js : List (Job (CellState D))) → nodes_of (map (given_to offers) js) ≡ nodes_of js
  given_nodes [] = refl
  given_nodes (j ∷ js) = ap (λ l. j.cell.node ∷ l) (given_nodes js)

  pub given_at : (js : List (Job (CellState D))) (i : ℕ) (d : Job (CellState D)) → i < length js → get_or (map (given_to offers) js) i d ≡ given_to offers (get_or js i d)
  given_at [] i d l = absurd (omega (arith, l))
  given_at (j ∷ js) zero d l = refl
  given_at (j ∷ js) (suc i) d l = given_at js i d (omega (arith, l))

module _ {D : Type 0} (policy : RoundPolicy) (content : D → Option (List ℕ)) (faults : D → ℕ) (config : Counts) (wire : WireState PaxosRules) (offers : List (ℕ × DraftView)) (jobs proposing worked offered : List (Job (CellState D))) (s : IsSeated config wire jobs proposing (logs_in jobs))
    (size : length worked ≡ length jobs) (carried : (i : ℕ) (d : Job (CellState D)) → i < length jobs → IsCarriedJob content faults wire (get_or jobs i d) (get_or worked i d))
    (as_many : length offered ≡ length proposing) (has : (i : ℕ) (d : Job (CellState D)) → i < length proposing → HasOffered faults wire offers (get_or proposing i d) (get_or offered i d))
    (did : (i : ℕ) (d : Job (CellState D)) → i < length proposing → IsWorkedJob content faults wire (get_or (map (given_to offers) proposing) i d) (get_or offered i d))
    (end : Option RunEnd) (some : 0 < config.acceptors) (calls : List Call)
    (rests : end ≡ None → RestsAfter (answers_of policy) faults wire config.acceptors (total (process_of faults) 0 offered) calls jobs worked) where
  abbrev pub given : List (Job (CellState D))
  given = map (given_to offers) proposing

  pub given_long : length given ≡ length proposing
  given_long = length-map proposing (given_to offers)

  new : (i : ℕ) (d : Job (CellState D)) → i < length proposing → IsToOffer (get_or given i d)
  new i d l =
      let n = sitting.proposing_new faults config wire jobs proposing s i d l in
      subst IsToOffer (sym (given_at offers proposing i d l)) (record { nothing = n.nothing; risen = n.risen; offers = all_offers (get_or proposing i d).cell.node offers })

  nodes_start : AreNodesOf config (nodes_of jobs) (nodes_of given)
  nodes_start =
      subst (λ ns. AreNodesOf config ns (nodes_of given)) (sym (ap nodes_of s.jobs_are ∙ seated_nodes config wire (working_nodes config) (logs_in jobs)))
      (subst (AreNodesOf config (working_nodes config)) (sym (given_nodes offers proposing ∙ ap nodes_of s.proposers_are ∙ seated_nodes {D = D} config wire proposer_nodes [])) (nodes_are config))

  have : HaveOffered content faults wire given offered
  have = record {
    offers = λ i d l. new i d (omega (arith, l, given_long));
    size = as_many ∙ sym given_long;
    worked = λ i d l. did i d (omega (arith, l, given_long));
    unbroken = λ i d l. (has i d (omega (arith, l, as_many))).fault;
  }

  pub ends : end ≡ None → EndsQuietlyFrom (answers_of policy) content faults wire given offered jobs worked
  ends none = ends_quietly_from (answers_of policy) faults wire config.acceptors content calls given offered jobs worked (subst (λ (k : Counts). 0 < k.acceptors) (sym s.rules) some) (rests none)
      (subst (λ k. AreNodesOf k (nodes_of jobs) (nodes_of given)) (sym s.rules) nodes_start) have

  -- **the run was carried to the end of its phases**
  pub carried_run : All IsKnown offers → IfSome end (IsDecided worked) → IsCarriedRun content faults policy config wire offers jobs proposing worked offered end
  carried_run known decided = record {
    seated = s;
    size = size;
    carried = carried;
    as_many = as_many;
    has = has;
    known = known;
    decided = decided;
    quiet = ends;
  }
