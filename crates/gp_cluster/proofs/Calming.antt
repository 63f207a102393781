-- A run in which no disk failed.
use Rattle.std.proofs.Common.{◌≡◌, ◌<◌, inl, inr, ℕ, List, ◌++◌, map, length, get_or, refl, sym, ap, ◌∙◌, subst, arith, Option, Some, None}
use Rattle.std.specs.Prelude.{slice_get, IfSome}
use Rattle.std.specs.List.{All}
use Rattle.std.proofs.lemmas.List.{length-map}
use Rattle.gp_command.specs.Views.{DraftView}
use Rattle.gp_round.specs.Counts.{Counts}
use Rattle.gp_msg.specs.declared.record.Record.{Record}
use Rattle.gp_run.specs.Legal.{Legal}
use Rattle.gp_run.specs.Runs.{newest_first}
use Rattle.gp_edge.specs.Faults.{Rose}
use Rattle.gp_vlog.specs.Logs.{LogState}
use Rattle.gp_wire.specs.Known.{WireState, records}
use Rattle.gp_cell.specs.declared.rules.PaxosRules.{PaxosRules}
use Rattle.gp_work.specs.declared.job.Job.{Job}
use Rattle.gp_cell.specs.Cells.{CellState}
use Rattle.gp_cell.specs.Refusals.{faults_of}
use Rattle.gp_ending.specs.Ended.{cells_of, cells_in, EndedRun, EndsQuietly, IsListOf, StaysSteady}
use Rattle.gp_wire.specs.Own.{IsBehind}
use Rattle.gp_ending.proofs.Ending.{is_quiet, is_adaptive}
use Rattle.gp_seats.specs.Offering.{HasOffered, IsKnown, given_to}
use Rattle.gp_shelf.specs.Lists.{disk_in}
use Rattle.gp_shelf.specs.Making.{SomeRose}
use Rattle.gp_ending.specs.declared.ends.RunEnd.{RunEnd}
use Rattle.gp_ending.specs.declared.ends.RunEnd.TheVariants.{Learned}
use Rattle.gp_ending.specs.Working.{IsCarriedJob, IsDecided, EndsQuietlyFrom}
use Rattle.gp_cluster.specs.Cells.{IsKnownCell, SomeCellRose, logs_of}
use Rattle.gp_cluster.specs.Closing.{IsRunOfCells, IsConclusion, Stood, Settled, SettledTo, Leaves}
use Rattle.gp_cluster.proofs.Going.{cell_rose}
use Rattle.gp_cluster.proofs.Settled.{rose_after}
use Rattle.gp_cluster.specs.declared.policy.RoundPolicy.{RoundPolicy}
use Rattle.gp_cluster.specs.declared.policy.RoundPolicy.TheVariants.{Multi, Adaptive}
use Rattle.gp_cluster.specs.Policies.{answers_of, IsQuietBy}
use Rattle.gp_cluster.specs.Runs.{IsQuietOrSettled}
use Rattle.gp_cluster.specs.Seated.{IsSeated, logs_in}
use Rattle.gp_cluster.proofs.Posting.{run_keeps}
use Rattle.gp_cluster.proofs.Failing.{first_rose, second_rose}
use Rattle.gp_cluster.proofs.Quieting.{given_at}
use Rattle.gp_cluster.proofs.Outcome as outcome
use Rattle.gp_cluster.proofs.Outcome.{learned_quietly}

-- the law of quiet runs, for each choice of rounds
quiet_by : {D : Type 0} (policy : RoundPolicy) (content : D → Option (List ℕ)) (faults : D → ℕ) (wire : WireState PaxosRules) (run : EndedRun D) (list : List Record) → EndsQuietly (answers_of policy) content faults wire run → IsListOf wire run list → StaysSteady faults run → IsQuietBy policy wire.rules.config list
quiet_by Multi content faults wire run list q l u = is_quiet content faults wire run list q l u
quiet_by Adaptive content faults wire run list q l u = is_adaptive content faults wire run list q l u

module _ {D : Type 0} (policy : RoundPolicy) (content : D → Option (List ℕ)) (faults : D → ℕ) (config : Counts) (wire : WireState PaxosRules) (offers : List (ℕ × DraftView)) (jobs proposing worked offered : List (Job (CellState D))) (s : IsSeated config wire jobs proposing (logs_in jobs))
    (size : length worked ≡ length jobs) (carried : (i : ℕ) (d : Job (CellState D)) → i < length jobs → IsCarriedJob content faults wire (get_or jobs i d) (get_or worked i d))
    (as_many : length offered ≡ length proposing) (has : (i : ℕ) (d : Job (CellState D)) → i < length proposing → HasOffered faults wire offers (get_or proposing i d) (get_or offered i d))
    (known_worked : All IsKnownCell (cells_of worked)) (known_offered : All IsKnownCell (cells_of offered))
    (end : Option RunEnd) (decided : IfSome end (IsDecided worked)) (known_offers : All IsKnown offers) (some : 0 < config.acceptors)
    (quiet : end ≡ None → EndsQuietlyFrom (answers_of policy) content faults wire (map (given_to offers) proposing) offered jobs worked)
    (e : RunEnd) (posted : Option (List Record)) (logs : List (LogState D)) (left : Leaves faults config (length offers) (cells_of worked ++ cells_of offered) end e posted logs) where
  abbrev given : List (Job (CellState D))
  given = map (given_to offers) proposing

  given_long : length given ≡ length proposing
  given_long = length-map proposing (given_to offers)

  module _ (none : end ≡ None) (calm : ¬ SomeRose faults (map disk_in (logs_in jobs)) (map disk_in logs)) where
    ends : EndsQuietlyFrom (answers_of policy) content faults wire given offered jobs worked
    ends = quiet none

    no_cell : ¬ SomeCellRose faults (cells_of jobs ++ cells_of proposing) (cells_of worked ++ cells_of offered)
    no_cell r = calm (subst (λ xs. SomeRose faults (map disk_in xs) (map disk_in logs)) (outcome.logs_before content faults config wire offers jobs proposing worked offered s size carried as_many has known_worked known_offered)
        (subst (λ ys. SomeRose faults (map disk_in (logs_of (cells_of jobs ++ cells_of proposing))) (map disk_in ys)) (sym left.logs_are)
        (cell_rose faults (cells_of jobs ++ cells_of proposing) left.after
        (outcome.go_on content faults config wire offers jobs proposing worked offered s size carried as_many has known_worked known_offered end decided known_offers some e posted logs left)
        (rose_after faults (cells_of jobs ++ cells_of proposing) (cells_of worked ++ cells_of offered) left.after left.concludes.goes r))))

    steady : StaysSteady faults ends.run
    steady = record {
      offering = λ i d l r. let w : i < length proposing = subst (λ n. i < n) (ap length ends.offering_is ∙ given_long) l in
          no_cell (second_rose faults jobs proposing worked offered size as_many i d w
          (subst (λ (j : Job (CellState D)). Rose (faults_of faults j.cell.log) (faults_of faults (get_or offered i d).cell.log)) (given_at offers proposing i d w)
          (subst (λ ks. Rose (faults_of faults (get_or given i d).cell.log) (faults_of faults (get_or ks i d).cell.log)) ends.offered_is
          (subst (λ js. Rose (faults_of faults (get_or js i d).cell.log) (faults_of faults (get_or ends.run.offered i d).cell.log)) ends.offering_is r))));
      working = λ i d l r. let w : i < length jobs = subst (λ n. i < n) ends.size l in
          no_cell (first_rose faults jobs proposing worked offered size as_many i d w
          (let r' = subst (λ ks. Rose (faults_of faults (get_or ends.run.starting i d).cell.log) (faults_of faults (get_or ks i d).cell.log)) ends.ended_is r in let b = ends.later i d w in omega (arith, r', b)));
    }

    cells_are : cells_in ends.run ≡ cells_of worked ++ cells_of offered
    cells_are = λ i. cells_of (ends.ended_is i) ++ cells_of (ends.offered_is i)

    -- a list of the cells is quiet
    pub quiet_list : (list : List Record) → IsRunOfCells config (cells_of worked ++ cells_of offered) list → IsQuietBy policy config list
    quiet_list list r = subst (λ k. IsQuietBy policy k list) s.rules (quiet_by policy content faults wire ends.run list ends.quiet is_list steady)
      where
        is_list : IsListOf wire ends.run list
        is_list = record {
          behind = subst (λ cs. (i : ℕ) (c : CellState D) → slice_get cs i ≡ Some c → IsBehind c.node (records c.pass) list) (sym cells_are) r.behind;
          legal = subst (λ k. Legal k (newest_first list)) (sym s.rules) r.legal;
        }

  by_conclusion : (list : List Record) → IsRunOfCells config left.after list → IsConclusion faults config (length offers) (cells_of worked ++ cells_of offered) left.after end e list → e ≡ Learned → ¬ SomeRose faults (map disk_in (logs_in jobs)) (map disk_in logs) → IsQuietOrSettled policy config offers list
  by_conclusion list r (Stood same st) l calm =
      let run = subst (λ cs. IsRunOfCells config cs list) same r in
      let kept = run_keeps config (cells_of worked ++ cells_of offered) list run in
      let all = learned_quietly worked (length offers) (cells_of worked ++ cells_of offered) end e decided st l in record {
        before = list;
        quiet = quiet_list all.0 calm list run;
        offered = outcome.offered_all content faults config wire offers jobs proposing worked offered s size carried as_many has known_worked known_offered list kept;
        settled = inl (refl, outcome.learned_if content faults config wire offers jobs proposing worked offered s size carried as_many has known_worked known_offered end decided known_offers some e posted logs left list run kept all.1);
      }
  by_conclusion list r (Settled none q) l calm =
      let kept = run_keeps config (cells_of worked ++ cells_of offered) q.before q.run in record {
        before = q.before;
        quiet = quiet_list none calm q.before q.run;
        offered = outcome.offered_all content faults config wire offers jobs proposing worked offered s size carried as_many has known_worked known_offered q.before kept;
        settled = inr (
          (λ all. q.lacking (outcome.held_if content faults config wire offers jobs proposing worked offered s size carried as_many has known_worked known_offered end decided known_offers some e posted logs left q.before q.run kept all)),
          (subst (SettledTo faults config q.before (cells_of worked ++ cells_of offered) left.after list) l q.settled).0,
        );
      }

  pub quiet_or_settled : (list : List Record) → posted ≡ Some list → e ≡ Learned → ¬ SomeRose faults (map disk_in (logs_in jobs)) (map disk_in logs) → IsQuietOrSettled policy config offers list
  quiet_or_settled list is l calm = let c = left.concludes.some list is in by_conclusion list c.0 c.1 l calm
