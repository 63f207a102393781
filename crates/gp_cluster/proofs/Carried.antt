-- A run that was carried to the end of its phases.
use Rattle.std.proofs.Common.{◌≡◌, ◌<◌, ℕ, true, false, List, [], ◌++◌, length, get_or, refl, sym, ap, ◌∙◌, subst, arith, Option, Some, None}
use Rattle.std.specs.Prelude.{IfSome}
use Rattle.std.specs.Option.{is_some}
use Rattle.std.specs.List.{AllZip}
use Rattle.gp_command.specs.Views.{DraftView}
use Rattle.gp_round.specs.Counts.{Counts}
use Rattle.gp_msg.specs.declared.record.Record.{Record}
use Rattle.gp_wire.specs.Known.{WireState}
use Rattle.gp_cell.specs.declared.rules.PaxosRules.{PaxosRules}
use Rattle.gp_work.specs.declared.job.Job.{Job}
use Rattle.gp_work.specs.declared.moves.Move.{Move}
use Rattle.gp_cell.specs.Cells.{CellState}
use Rattle.gp_cell.specs.Working.{process_of, is_up}
use Rattle.gp_work.proofs.Stretches.{goes_same, posted_none}
use Rattle.gp_ending.specs.Ended.{cells_of}
use Rattle.gp_ending.proofs.Indexing.{get_each, each_both}
use Rattle.gp_seats.specs.Seats.{IsNewAt}
use Rattle.gp_seats.specs.Offering.{HasOffered}
use Rattle.gp_stage.specs.Held.{AreUp}
use Rattle.gp_vlog.specs.Logs.{LogState}
use Rattle.gp_ending.specs.declared.ends.RunEnd.{RunEnd}
use Rattle.gp_ending.specs.declared.ends.RunEnd.TheVariants.{Learned, NoMemory}
use Rattle.gp_ending.specs.Working.{IsCarriedJob, IsDecided}
use Rattle.gp_cluster.specs.Cells.{LogGoes}
use Rattle.gp_cluster.proofs.Going.{logs_go}
use Rattle.gp_cluster.specs.Closing.{IsConclusion, Stood, Settled, Leaves}
use Rattle.gp_cluster.specs.declared.policy.RoundPolicy.{RoundPolicy}
use Rattle.gp_cluster.specs.Seated.{IsCarriedRun, logs_in}
use Rattle.gp_cluster.proofs.Celling.{each_cell, go_cells}
use Rattle.gp_cluster.proofs.Outcome.{learned_quietly}

was_up : {D : Type 0} (c : CellState D) → is_up c.down ≡ true → c.down ≡ None
was_up c u = up_none c.down u
  where
    up_none : (o : Option Move) → is_up o ≡ true → o ≡ None
    up_none None u = refl
    up_none (Some m) u = absurd (let wrong : false ≡ true = u in cc)

pub some_no_none : {A P : Type 0} (o : Option A) → true ≡ is_some o → o ≡ None → P
some_no_none o t e = absurd (let wrong : true ≡ false = t ∙ ap is_some e in cc)

pub none_of : {A : Type 0} (o : Option A) → false ≡ is_some o → o ≡ None
none_of None e = refl
none_of (Some x) e = absurd (let wrong : false ≡ true = e in cc)

-- if nothing is left to do, all nodes are up
pub up_at_end : {D : Type 0} (content : D → Option (List ℕ)) (faults : D → ℕ) (policy : RoundPolicy) (config : Counts) (wire : WireState PaxosRules) (offers : List (ℕ × DraftView)) (jobs proposing worked offered : List (Job (CellState D))) (end : Option RunEnd)
    → IsCarriedRun content faults policy config wire offers jobs proposing worked offered end → end ≡ None → AreUp (cells_of worked ++ cells_of offered)
up_at_end {D} content faults policy config wire offers jobs proposing worked offered end r none = get_each (λ c. c.down ≡ None) (cells_of worked ++ cells_of offered)
    (each_both (λ c. c.down ≡ None) (cells_of worked) (cells_of offered) (each_cell (λ c. c.down ≡ None) worked worked_up) (each_cell (λ c. c.down ≡ None) offered offered_up))
  where
    worked_up : (i : ℕ) (d : Job (CellState D)) → i < length worked → (get_or worked i d).cell.down ≡ None
    worked_up i d l =
        let q = r.quiet none in
        let within : i < length q.run.starting = let a = q.size in let b = r.size in omega (arith, a, b, l) in
        was_up (get_or worked i d).cell (subst (λ js. is_up (get_or js i d).cell.down ≡ true) q.ended_is (q.quiet.phases.worked.finished i d within).going.up)

    offered_up : (i : ℕ) (d : Job (CellState D)) → i < length offered → (get_or offered i d).cell.down ≡ None
    offered_up i d l = was_up (get_or offered i d).cell (r.has i d (let a = r.as_many in omega (arith, a, l))).up

-- a proposer that was given nothing has offered nothing
pub offers_nothing : {D : Type 0} (faults : D → ℕ) (wire : WireState PaxosRules) (j : Job (CellState D)) → IsNewAt faults wire j → HasOffered faults wire [] j j
offers_nothing faults wire j n = record {
  own = n.own;
  goes = goes_same (process_of faults j.cell);
  posts = posted_none (process_of faults j.cell);
  up = n.up;
  fault = n.fault;
  first = n.first;
  risen = n.risen;
}

-- ---- a run that was to end otherwise has not learned all

module _ {D : Type 0} (faults : D → ℕ) (config : Counts) (commands : ℕ) (cells : List (CellState D)) {J : Type 0} (worked : List (Job J)) (meant : Option RunEnd) (end : RunEnd) (posted : Option (List Record)) (logs : List (LogState D)) (decided : IfSome meant (IsDecided worked)) (left : Leaves faults config commands cells meant end posted logs) where
  by_conclusion : (list : List Record) → IsConclusion faults config commands cells left.after meant end list → end ≡ Learned → meant ≡ None
  by_conclusion list (Stood same st) l = (learned_quietly worked commands cells meant end decided st l).0
  by_conclusion list (Settled none q) l = none

  pub left_early : end ≡ Learned → meant ≡ None
  left_early l = by_posted posted refl
    where
      by_posted : (o : Option (List Record)) → posted ≡ o → meant ≡ None
      by_posted None is = absurd (let wrong : NoMemory ≡ Learned = sym (left.concludes.none is) ∙ l in cc)
      by_posted (Some list) is = by_conclusion list (left.concludes.some list is).1 l

-- the logs of jobs that were carried
pub logs_carried : {D : Type 0} (content : D → Option (List ℕ)) (faults : D → ℕ) (wire : WireState PaxosRules) (jobs worked : List (Job (CellState D))) → length worked ≡ length jobs
    → ((i : ℕ) (d : Job (CellState D)) → i < length jobs → IsCarriedJob content faults wire (get_or jobs i d) (get_or worked i d)) → AllZip (LogGoes faults) (logs_in jobs) (logs_in worked)
logs_carried content faults wire jobs worked size carried = logs_go faults (cells_of jobs) (cells_of worked) (go_cells faults jobs worked size (λ i d l. (carried i d l).goes))
