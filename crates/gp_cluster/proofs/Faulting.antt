-- Why a run ended.
use Rattle.std.proofs.Common.{◌≡◌, ◌<◌, inl, inr, ℕ, zero, suc, List, [], ◌∷◌, ◌++◌, map, length, get_or, refl, sym, ap, ◌∙◌, subst, arith, Option, Some, None}
use Rattle.std.specs.Prelude.{slice_get, IfSome}
use Rattle.std.specs.List.{All}
use Rattle.std.proofs.lemmas.List.{length-map}
use Rattle.gp_command.specs.Views.{DraftView}
use Rattle.gp_round.specs.Counts.{Counts}
use Rattle.gp_msg.specs.declared.event.Event.{Event}
use Rattle.gp_msg.specs.declared.record.Record.{Record}
use Rattle.gp_edge.specs.Faults.{Rose}
use Rattle.gp_cell.specs.Cores.{core_at}
use Rattle.gp_run.specs.Runs.{newest_first}
use Rattle.gp_vlog.specs.Logs.{LogState}
use Rattle.gp_wire.specs.Lists.{Each}
use Rattle.gp_wire.specs.Known.{WireState}
use Rattle.gp_cell.specs.declared.rules.PaxosRules.{PaxosRules}
use Rattle.gp_work.specs.declared.faults.JobFault.{JobFault}
use Rattle.gp_work.specs.declared.faults.JobFault.TheVariants as fault
use Rattle.gp_work.specs.declared.job.Job.{Job}
use Rattle.gp_cell.specs.Cells.{CellState}
use Rattle.gp_cell.specs.Refusals.{IsTooGreat, faults_of}
use Rattle.gp_cell.specs.Downs.{HidesLog}
use Rattle.gp_cell.specs.Working.{causes_of}
use Rattle.gp_phase.specs.Phases.{FaultCause}
use Rattle.gp_ending.specs.Ended.{cell_in, cells_of}
use Rattle.gp_ending.proofs.Indexing.{each_of, get_each, pick}
use Rattle.gp_seats.specs.Offering.{HasOffered, IsKnown}
use Rattle.gp_shelf.specs.Lists.{disk_in}
use Rattle.gp_shelf.specs.Making.{SomeRose}
use Rattle.gp_shelf.proofs.Segments.{get-append_left}
use Rattle.gp_ending.specs.declared.ends.RunEnd.{RunEnd}
use Rattle.gp_ending.specs.declared.ends.RunEnd.TheVariants.{Learned, NoMemory, Disk, Full, NotLog, Changed}
use Rattle.gp_ending.specs.Ends.{end_of, fault_in}
use Rattle.gp_ending.specs.Working.{IsCarriedJob, IsDecided}
use Rattle.gp_ending.proofs.Deciding.{decides}
use Rattle.gp_cluster.specs.Cells.{IsKnownCell, SomeCellRose, logs_of}
use Rattle.gp_cluster.specs.Closing.{IsRunOfCells, IsConclusion, Stood, Settled, SettledTo, StoodTo, Leaves}
use Rattle.gp_cluster.proofs.Going.{cell_rose}
use Rattle.gp_cluster.proofs.Settled.{rose_before}
use Rattle.gp_cluster.specs.Runs.{EndCause, SomeLost, IsOverLimit}
use Rattle.gp_cluster.specs.Seated.{IsSeated, HaveLimit, logs_in}
use Rattle.gp_cluster.proofs.Learning.{core_behind}
use Rattle.gp_cluster.proofs.Causing.{over_behind, over_whole, in_logs, limits_go}
use Rattle.gp_cluster.proofs.Failing.{cell_there, first_rose}
use Rattle.gp_cluster.proofs.Losing.{log_lost}
use Rattle.gp_cluster.proofs.Outcome as outcome

-- the job whose fault decides
record JobWith {J : Type 0} (jobs : List (Job J)) (place : ℕ) (f : JobFault) : Type 0 where
  within : place < length jobs
  fault_is : (d : Job J) → (get_or jobs place d).fault ≡ Some f

job_with : {J : Type 0} (jobs : List (Job J)) (place : ℕ) (f : JobFault) → slice_get (map fault_in jobs) place ≡ Some (Some f) → JobWith jobs place f
job_with [] place f e = absurd (let wrong : None ≡ Some (Some f) = e in cc)
job_with (j ∷ js) zero f e = record { within = omega arith; fault_is = λ d. let same : j.fault ≡ Some f = (let some : Some j.fault ≡ Some (Some f) = e in cc) in same }
job_with (j ∷ js) (suc place) f e = let r = job_with js place f e in record { within = omega (arith, r.within); fault_is = r.fault_is }

module _ {D : Type 0} (content : D → Option (List ℕ)) (faults : D → ℕ) (config : Counts) (wire : WireState PaxosRules) (offers : List (ℕ × DraftView)) (jobs proposing worked offered : List (Job (CellState D))) (s : IsSeated config wire jobs proposing (logs_in jobs))
    (size : length worked ≡ length jobs) (carried : (i : ℕ) (d : Job (CellState D)) → i < length jobs → IsCarriedJob content faults wire (get_or jobs i d) (get_or worked i d))
    (as_many : length offered ≡ length proposing) (has : (i : ℕ) (d : Job (CellState D)) → i < length proposing → HasOffered faults wire offers (get_or proposing i d) (get_or offered i d))
    (known_worked : All IsKnownCell (cells_of worked)) (known_offered : All IsKnownCell (cells_of offered))
    (end : Option RunEnd) (decided : IfSome end (IsDecided worked)) (known_offers : All IsKnown offers) (some : 0 < config.acceptors)
    (e : RunEnd) (posted : Option (List Record)) (logs : List (LogState D)) (left : Leaves faults config (length offers) (cells_of worked ++ cells_of offered) end e posted logs)
    (limit : ℕ) (limits : HaveLimit limit (logs_in jobs)) where
  abbrev before : List (CellState D)
  before = cells_of jobs ++ cells_of proposing

  abbrev cells : List (CellState D)
  cells = cells_of worked ++ cells_of offered

  before_logs : logs_of before ≡ logs_in jobs
  before_logs = outcome.logs_before content faults config wire offers jobs proposing worked offered s size carried as_many has known_worked known_offered

  limits_after : Each (λ (l : LogState D). l.limit ≡ limit) (logs_of left.after)
  limits_after = subst (Each (λ l. l.limit ≡ limit)) left.logs_are (limits_go faults limit (logs_in jobs) logs
      (outcome.going content faults config wire offers jobs proposing worked offered s size carried as_many has known_worked known_offered end decided known_offers some e posted logs left)
      (each_of (λ l. l.limit ≡ limit) (logs_in jobs) limits))

  limit_at : (i : ℕ) (c : CellState D) → slice_get left.after i ≡ Some c → (log : LogState D) → c.log ≡ Some log → log.limit ≡ limit
  limit_at = in_logs (λ l. l.limit ≡ limit) left.after limits_after

  some_rose : SomeCellRose faults before left.after → SomeRose faults (map disk_in (logs_in jobs)) (map disk_in logs)
  some_rose r = subst (λ xs. SomeRose faults (map disk_in xs) (map disk_in logs)) before_logs (subst (λ ys. SomeRose faults (map disk_in (logs_of before)) (map disk_in ys)) (sym left.logs_are)
      (cell_rose faults before left.after (outcome.go_on content faults config wire offers jobs proposing worked offered s size carried as_many has known_worked known_offered end decided known_offers some e posted logs left) r))

  core_at_list : (list : List Record) → IsRunOfCells config left.after list → (i : ℕ) (c : CellState D) → slice_get left.after i ≡ Some c → c.core ≡ core_at config c.node (newest_first list)
  core_at_list list r i c is =
      core_behind config c list (outcome.configs_after content faults config wire offers jobs proposing worked offered s size carried as_many has known_worked known_offered end decided known_offers some e posted logs left i c is)
      (get_each IsKnownCell left.after (each_of IsKnownCell left.after left.concludes.known) i c is) (r.behind i c is)

  -- ---- a job's fault

  abbrev Cause : Option (List Record) → RunEnd → Type 0
  Cause = EndCause content faults config limit (map disk_in (logs_in jobs)) (map disk_in logs)

  module _ (list : List Record) (r : IsRunOfCells config left.after list) where
    module _ (same : left.after ≡ cells) where
      rose_of_job : (i : ℕ) (d : Job (CellState D)) (l : i < length jobs) → Rose (faults_of faults (get_or jobs i d).cell.log) (faults_of faults (get_or worked i d).cell.log) → SomeRose faults (map disk_in (logs_in jobs)) (map disk_in logs)
      rose_of_job i d l x = some_rose (subst (SomeCellRose faults before) (sym same) (first_rose faults jobs proposing worked offered size as_many i d l x))

      -- the disk of a job, which does not reveal what it holds
      lost_of_job : (i : ℕ) (d : Job (CellState D)) (l : i < length jobs) → Rose (faults_of faults (get_or jobs i d).cell.log) (faults_of faults (get_or worked i d).cell.log) → HidesLog content (get_or worked i d).cell.log
          → SomeLost content faults (map disk_in (logs_in jobs)) (map disk_in logs)
      lost_of_job i d l x b =
          let there : slice_get left.after i ≡ Some (get_or worked i d).cell = ap (λ cs. slice_get cs i) same ∙ get-append_left (cells_of worked) (cells_of offered) i (let n = length-map worked cell_in in omega (arith, l, size, n)) ∙ cell_there worked i d (omega (arith, l, size)) in
          let earlier : slice_get before i ≡ Some (get_or jobs i d).cell = get-append_left (cells_of jobs) (cells_of proposing) i (let n = length-map jobs cell_in in omega (arith, l, n)) ∙ cell_there jobs i d l in
          subst (λ xs. SomeLost content faults (map disk_in xs) (map disk_in logs)) before_logs (subst (λ ys. SomeLost content faults (map disk_in (logs_of before)) (map disk_in ys)) (sym left.logs_are)
          (log_lost content faults before left.after (outcome.go_on content faults config wire offers jobs proposing worked offered s size carried as_many has known_worked known_offered end decided known_offers some e posted logs left)
          i (get_or jobs i d).cell (get_or worked i d).cell earlier there x b))

      over_of_job : (i : ℕ) (d : Job (CellState D)) → i < length worked → (needs seen : ℕ) (x : Event) → IsTooGreat (get_or worked i d).cell x seen needs → IsOverLimit config limit (newest_first list) seen needs
      over_of_job i d l needs seen x g =
          let there : slice_get left.after i ≡ Some (get_or worked i d).cell = ap (λ cs. slice_get cs i) same ∙ get-append_left (cells_of worked) (cells_of offered) i (let n = length-map worked cell_in in omega (arith, l, n)) ∙ cell_there worked i d l in
          over_behind config limit list seen needs (get_or worked i d).cell x
          (outcome.configs_after content faults config wire offers jobs proposing worked offered s size carried as_many has known_worked known_offered end decided known_offers some e posted logs left i (get_or worked i d).cell there)
          (core_at_list list r i (get_or worked i d).cell there) (limit_at i (get_or worked i d).cell there) (r.behind i (get_or worked i d).cell there) g

      by_fault : (i : ℕ) (d : Job (CellState D)) → i < length jobs → (f : JobFault) → FaultCause (faults_of faults (get_or jobs i d).cell.log) (faults_of faults (get_or worked i d).cell.log) (causes_of content (get_or worked i d).cell) f → Cause (Some list) (end_of f)
      by_fault i d l fault.NoMemory h = tt
      by_fault i d l fault.Disk h = rose_of_job i d l h
      by_fault i d l (fault.Full seen needs) h = over_of_job i d (omega (arith, l, size)) needs seen h.0 h.1
      by_fault i d l (fault.NotLog at) h = lost_of_job i d l h.0 h.1.1
      by_fault i d l (fault.Changed found) h = lost_of_job i d l h.0 h.1.4

      by_decision : (m : RunEnd) → IsDecided worked m → Cause (Some list) m
      by_decision m (inl is) = subst (Cause (Some list)) (sym is.0) tt
      by_decision m (inr is) =
          let d = decides (map fault_in worked) m is in let j = job_with worked d.place d.fault d.there in
          let within : d.place < length jobs = omega (arith, j.within, size) in
          let x = pick jobs d.place within in
          subst (Cause (Some list)) d.end_is (by_fault d.place x within d.fault (subst (λ o. IfSome o (FaultCause (faults_of faults (get_or jobs d.place x).cell.log) (faults_of faults (get_or worked d.place x).cell.log) (causes_of content (get_or worked d.place x).cell))) (j.fault_is x) (carried d.place x within).cause))

      by_stand : (en : Option RunEnd) → IfSome en (IsDecided worked) → StoodTo (length offers) cells en e → Cause (Some list) e
      by_stand (Some m) d st = subst (Cause (Some list)) (sym st) (by_decision m d)
      by_stand None d (inl p) = subst (Cause (Some list)) (sym p.0) tt
      by_stand None d (inr p) = subst (Cause (Some list)) (sym p) tt

    by_settling : (en : RunEnd) (b : List Record) → SettledTo faults config b cells left.after list en → Cause (Some list) en
    by_settling Learned b h = tt
    by_settling NoMemory b h = tt
    by_settling Disk b h = some_rose (rose_before faults before cells left.after (outcome.go content faults config wire offers jobs proposing worked offered s size carried as_many has known_worked known_offered) h)
    by_settling (Full seen needs) b h = over_whole config limit list seen needs left.after h (core_at_list list r h.place h.cell h.there) (limit_at h.place h.cell h.there)
    by_settling (NotLog at) b h = absurd h
    by_settling Changed b h = absurd h

    by_conclusion : IsConclusion faults config (length offers) cells left.after end e list → Cause (Some list) e
    by_conclusion (Stood same st) = by_stand same end decided st
    by_conclusion (Settled none q) = by_settling e q.before q.settled

  by_posted : (p : Option (List Record)) → posted ≡ p → Cause p e
  by_posted None is = subst (Cause None) (sym (left.concludes.none is)) tt
  by_posted (Some list) is = let c = left.concludes.some list is in by_conclusion list c.0 c.1

  pub cause : Cause posted e
  cause = by_posted posted refl
