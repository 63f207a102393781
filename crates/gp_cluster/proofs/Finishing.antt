-- What a run comes to.
use Rattle.std.proofs.Common.{◌≡◌, ◌<◌, ℕ, true, List, [], ◌∷◌, ◌++◌, map, length, get_or, refl, sym, ap, ◌∙◌, subst, Option, None}
use Rattle.std.specs.Prelude.{IfSome}
use Rattle.std.specs.List.{All}
use Rattle.gp_command.specs.Views.{DraftView}
use Rattle.gp_round.specs.Counts.{Counts}
use Rattle.gp_msg.specs.declared.record.Record.{Record}
use Rattle.gp_run.specs.Runs.{newest_first}
use Rattle.gp_vlog.specs.Logs.{LogState, IsReady}
use Rattle.gp_wire.specs.Lists.{Each}
use Rattle.gp_wire.specs.Known.{WireState}
use Rattle.gp_cell.specs.declared.rules.PaxosRules.{PaxosRules}
use Rattle.gp_work.specs.declared.job.Job.{Job}
use Rattle.gp_cell.specs.Cells.{CellState}
use Rattle.gp_ending.specs.Ended.{cells_of}
use Rattle.gp_ending.proofs.Indexing.{each_of, get_each, each_got}
use Rattle.gp_stage.specs.Held.{AreUp}
use Rattle.gp_seats.specs.declared.nodes.Role.TheVariants.{Learner}
use Rattle.gp_seats.specs.Nodes.{first_of, logged_nodes, proposer_nodes}
use Rattle.gp_seats.specs.Offering.{HasOffered, IsKnown, given_to}
use Rattle.gp_ending.specs.declared.ends.RunEnd.{RunEnd}
use Rattle.gp_ending.specs.declared.ends.RunEnd.TheVariants.{Learned}
use Rattle.gp_ending.specs.Working.{IsCarriedJob, IsDecided, EndsQuietlyFrom}
use Rattle.gp_cluster.specs.Cells.{IsKnownCell, logs_of}
use Rattle.gp_cluster.specs.Closing.{IsRunOfCells, IsConclusion, Stood, Settled, SettledTo, Leaves}
use Rattle.gp_seats.proofs.Sitting.{logged_have}
use Rattle.gp_cluster.specs.declared.policy.RoundPolicy.{RoundPolicy}
use Rattle.gp_cluster.specs.Policies.{answers_of}
use Rattle.gp_cluster.specs.Seated.{IsSeated, HaveLimit, HoldLogs, RunsFrom, logs_in}
use Rattle.gp_cluster.proofs.Causing.{in_logs, limits_go}
use Rattle.gp_cluster.proofs.Learning.{core_behind}
use Rattle.gp_cluster.proofs.Keeping.{HasItsLog, Ends, its_log, all_logs, others_lack}
use Rattle.gp_cluster.proofs.Outcome as outcome
use Rattle.gp_cluster.proofs.Outcome.{if_posted, learned_quietly}
use Rattle.gp_cluster.proofs.Calming as calming
use Rattle.gp_cluster.proofs.Faulting as faulting

assoc : {A : Type 0} (xs ys zs : List A) → (xs ++ ys) ++ zs ≡ xs ++ (ys ++ zs)
assoc [] ys zs = refl
assoc (x ∷ xs) ys zs = ap (λ l. x ∷ l) (assoc xs ys zs)

module _ {D : Type 0} (policy : RoundPolicy) (faults : D → ℕ) (content : D → Option (List ℕ)) (image : D → List ℕ → Type 0) (config : Counts) (wire : WireState PaxosRules) (offers : List (ℕ × DraftView)) (jobs proposing worked offered : List (Job (CellState D))) (s : IsSeated config wire jobs proposing (logs_in jobs))
    (size : length worked ≡ length jobs) (carried : (i : ℕ) (d : Job (CellState D)) → i < length jobs → IsCarriedJob content faults wire (get_or jobs i d) (get_or worked i d))
    (as_many : length offered ≡ length proposing) (has : (i : ℕ) (d : Job (CellState D)) → i < length proposing → HasOffered faults wire offers (get_or proposing i d) (get_or offered i d))
    (known_worked : All IsKnownCell (cells_of worked)) (known_offered : All IsKnownCell (cells_of offered))
    (end : Option RunEnd) (decided : IfSome end (IsDecided worked)) (known_offers : All IsKnown offers) (some : 0 < config.acceptors)
    (quiet : end ≡ None → EndsQuietlyFrom (answers_of policy) content faults wire (map (given_to offers) proposing) offered jobs worked)
    (up : end ≡ None → AreUp (cells_of worked ++ cells_of offered))
    (e : RunEnd) (posted : Option (List Record)) (logs : List (LogState D)) (left : Leaves faults config (length offers) (cells_of worked ++ cells_of offered) end e posted logs)
    (ready : All (λ (log : LogState D). log.ready ≡ true → IsReady content image log) logs) where
  ups : (list : List Record) → IsConclusion faults config (length offers) (cells_of worked ++ cells_of offered) left.after end e list → e ≡ Learned → AreUp left.after
  ups list (Stood same st) l = subst AreUp (sym same) (up (learned_quietly worked (length offers) (cells_of worked ++ cells_of offered) end e decided st l).0)
  ups list (Settled none q) l = (subst (SettledTo faults config q.before (cells_of worked ++ cells_of offered) left.after list) l q.settled).2

  module _ (limit : ℕ) (limits : HaveLimit limit (logs_in jobs)) (list : List Record) (r : IsRunOfCells config left.after list) (are_up : AreUp left.after) where
    limits_after : Each (λ (l : LogState D). l.limit ≡ limit) (logs_of left.after)
    limits_after = subst (Each (λ l. l.limit ≡ limit)) left.logs_are (limits_go faults limit (logs_in jobs) logs
        (outcome.going content faults config wire offers jobs proposing worked offered s size carried as_many has known_worked known_offered end decided known_offers some e posted logs left)
        (each_of (λ l. l.limit ≡ limit) (logs_in jobs) limits))

    ready_after : Each (λ (l : LogState D). l.ready ≡ true → IsReady content image l) (logs_of left.after)
    ready_after = subst (Each (λ l. l.ready ≡ true → IsReady content image l)) left.logs_are (each_of (λ l. l.ready ≡ true → IsReady content image l) logs ready)

    each_log : Each (HasItsLog (Ends content image config limit (newest_first list))) left.after
    each_log = each_got (HasItsLog (Ends content image config limit (newest_first list))) left.after (λ i c is.
        let same = outcome.configs_after content faults config wire offers jobs proposing worked offered s size carried as_many has known_worked known_offered end decided known_offers some e posted logs left i c is in
        let k = get_each IsKnownCell left.after (each_of IsKnownCell left.after left.concludes.known) i c is in
        its_log content image config limit (newest_first list) c same (core_behind config c list same k (r.behind i c is)) (k.kept (are_up i c is))
        (λ log there. (in_logs (λ l. l.limit ≡ limit) left.after limits_after i c is log there, in_logs (λ l. l.ready ≡ true → IsReady content image l) left.after ready_after i c is log there)))

    hold : HoldLogs content config limit (newest_first list) logs
    hold = subst (HoldLogs content config limit (newest_first list)) (sym left.logs_are)
        (all_logs (Ends content image config limit (newest_first list)) left.after (logged_nodes config) (first_of Learner config.learners ++ proposer_nodes)
        (outcome.nodes_after content faults config wire offers jobs proposing worked offered s size carried as_many has known_worked known_offered end decided known_offers some e posted logs left ∙ assoc (logged_nodes config) (first_of Learner config.learners) proposer_nodes)
        (logged_have config) (others_lack config) each_log)

  pub runs_from : RunsFrom policy faults content config offers (logs_in jobs) logs posted e
  runs_from = record {
    going = outcome.going content faults config wire offers jobs proposing worked offered s size carried as_many has known_worked known_offered end decided known_offers some e posted logs left;
    run = if_posted _ posted (outcome.run_is content faults config wire offers jobs proposing worked offered s size carried as_many has known_worked known_offered end decided known_offers some e posted logs left policy);
    none = left.concludes.none;
    learned = λ l. if_posted _ posted (λ list is. outcome.all_learned content faults config wire offers jobs proposing worked offered s size carried as_many has known_worked known_offered end decided known_offers some e posted logs left list is l);
    quiet = λ l calm. if_posted _ posted (λ list is. calming.quiet_or_settled policy content faults config wire offers jobs proposing worked offered s size carried as_many has known_worked known_offered end decided known_offers some quiet e posted logs left list is l calm);
    cause = λ limit limits. faulting.cause content faults config wire offers jobs proposing worked offered s size carried as_many has known_worked known_offered end decided known_offers some e posted logs left limit limits;
    parts = λ limit limits l. if_posted _ posted (λ list is. let c = left.concludes.some list is in hold limit limits list c.0 (ups list c.1 l));
  }
