-- A run from its start to its end: what was posted, and what the learners hold.
use Rattle.std.proofs.Common.{◌≡◌, ◌<◌, inl, inr, ℕ, zero, suc, List, [], ◌∷◌, ◌++◌, map, length, get_or, refl, sym, ap, ◌∙◌, subst, Option, Some, None}
use Rattle.std.specs.Prelude.{slice_get, IfSome}
use Rattle.std.specs.List.{All, AllZip}
use Rattle.gp_command.specs.Views.{DraftView}
use Rattle.gp_round.specs.Counts.{Counts}
use Rattle.gp_msg.specs.declared.record.Record.{Record}
use Rattle.gp_run.specs.Runs.{newest_first}
use Rattle.gp_vlog.specs.Logs.{LogState}
use Rattle.gp_wire.specs.Lists.{Each, Has}
use Rattle.gp_wire.specs.Known.{WireState}
use Rattle.gp_cell.specs.declared.rules.PaxosRules.{PaxosRules}
use Rattle.gp_work.specs.declared.faults.JobFault.{JobFault}
use Rattle.gp_work.specs.declared.faults.JobFault.TheVariants as fault
use Rattle.gp_work.specs.declared.job.Job.{Job}
use Rattle.gp_cell.specs.Cells.{CellState}
use Rattle.gp_cell.specs.Working.{IsAt}
use Rattle.gp_driver.specs.Settled.{AllLearned}
use Rattle.gp_ending.specs.Ended.{cells_of}
use Rattle.gp_ending.proofs.Indexing.{each_of, each_at, each_got, get_each}
use Rattle.gp_seats.specs.Nodes.{all_nodes, proposer_nodes}
use Rattle.gp_seats.specs.Seats.{IsNewAt, IsNewJob}
use Rattle.gp_seats.specs.Offering.{HasOffered, IsKnown}
use Rattle.gp_seats.proofs.Listing.{present_all, all_present}
use Rattle.gp_seats.proofs.Sitting.{new_jobs, all_of_each}
use Rattle.gp_cluster.specs.Offers.{AreOffered}
use Rattle.gp_cluster.proofs.Holding as held
use Rattle.gp_ending.specs.declared.ends.RunEnd.{RunEnd}
use Rattle.gp_ending.specs.declared.ends.RunEnd.TheVariants.{Learned, NoMemory}
use Rattle.gp_ending.specs.Ends.{end_of, fault_in}
use Rattle.gp_ending.specs.Working.{IsCarriedJob, IsDecided}
use Rattle.gp_ending.proofs.Deciding.{decides}
use Rattle.gp_cluster.specs.Cells.{IsKnownCell, AreCellsAt, HasLearned, CellsGo, LogGoes, node_in, logs_of}
use Rattle.gp_cluster.specs.Closing.{IsRunOfCells, StoodTo, IsConclusion, Stood, Settled, SettledTo, Leaves}
use Rattle.gp_cluster.proofs.Going.{cells_on, nodes_go, logs_go}
use Rattle.gp_cluster.proofs.Settled.{configs_are}
use Rattle.gp_cluster.specs.declared.policy.RoundPolicy.{RoundPolicy}
use Rattle.gp_cluster.specs.declared.policy.RoundPolicy.TheVariants.{Multi, Adaptive}
use Rattle.gp_cluster.specs.Policies.{MayBeOffered}
use Rattle.gp_cluster.specs.Runs.{IsRunOf, HasLearnedAll}
use Rattle.gp_cluster.specs.Seated.{IsSeated, logs_in}
use Rattle.gp_cluster.proofs.Celling.{all_go, are_cells, last_nodes, first_logs, proposers_nodes, each_at_wire}
use Rattle.gp_cluster.proofs.Posting.{KeepsProposer, run_keeps, rest_keeps, are_offered}
use Rattle.gp_cluster.proofs.Learning.{Stands, core_behind, hold_all, show_all}

pub if_posted : {A : Type 0} (P : A → Type 0) (o : Option A) → ((x : A) → o ≡ Some x → P x) → IfSome o P
if_posted P None h = tt
if_posted P (Some x) h = h x refl

-- ---- no fault says that all is learned

no_learned : {P : Type 0} (f : JobFault) → end_of f ≡ Learned → P
no_learned fault.NoMemory e = absurd (let wrong : NoMemory ≡ Learned = e in cc)
no_learned fault.Disk e = absurd cc
no_learned (fault.Full size need) e = absurd cc
no_learned (fault.NotLog at) e = absurd cc
no_learned (fault.Changed found) e = absurd cc

never_learned : {P J : Type 0} (jobs : List (Job J)) (m : RunEnd) → IsDecided jobs m → m ≡ Learned → P
never_learned jobs m (inl e) l = absurd (let wrong : NoMemory ≡ Learned = sym e.0 ∙ l in cc)
never_learned jobs m (inr e) l = let d = decides (map fault_in jobs) m e in no_learned d.fault (d.end_is ∙ l)

-- a run that ended as all is learned was not to end otherwise
pub learned_quietly : {J D : Type 0} (jobs : List (Job J)) (n : ℕ) (cells : List (CellState D)) (meant : Option RunEnd) (end : RunEnd) → IfSome meant (IsDecided jobs) → StoodTo n cells meant end → end ≡ Learned → (meant ≡ None) × All (HasLearned n) cells
learned_quietly jobs n cells (Some m) end d st l = never_learned jobs m d (sym st ∙ l)
learned_quietly jobs n cells None end d (inl p) l = (refl, p.1)
learned_quietly jobs n cells None end d (inr e) l = absurd (let wrong : NoMemory ≡ Learned = sym e ∙ l in cc)

-- ---- cells that stand where a list does

module _ {D : Type 0} (config : Counts) (cells : List (CellState D)) (list : List Record) (r : IsRunOfCells config cells list) (n : ℕ) where
  pub stand_all : ((i : ℕ) (c : CellState D) → slice_get cells i ≡ Some c → c.config ≡ config) → All IsKnownCell cells → map node_in cells ≡ all_nodes config → Each (Stands config list r.legal n) cells
  stand_all same known nodes = each_got (Stands config list r.legal n) cells (λ i c e. record {
    core = core_behind config c list (same i c e) (get_each IsKnownCell cells (each_of IsKnownCell cells known) i c e) (r.behind i c e);
    present = present_all config c.node (subst (Has c.node) nodes (there cells i c e));
  })
    where
      there : (cs : List (CellState D)) (i : ℕ) (c : CellState D) → slice_get cs i ≡ Some c → Has c.node (map node_in cs)
      there [] i c e = absurd (let wrong : None ≡ Some c = e in cc)
      there (x ∷ xs) zero c e = inl (ap node_in (sym (let same : x ≡ c = (let some : Some x ≡ Some c = e in cc) in same)))
      there (x ∷ xs) (suc i) c e = inr (there xs i c e)

-- ---- the run

module _ {D : Type 0} (content : D → Option (List ℕ)) (faults : D → ℕ) (config : Counts) (wire : WireState PaxosRules) (offers : List (ℕ × DraftView)) (jobs proposing worked offered : List (Job (CellState D))) (s : IsSeated config wire jobs proposing (logs_in jobs))
    (size : length worked ≡ length jobs) (carried : (i : ℕ) (d : Job (CellState D)) → i < length jobs → IsCarriedJob content faults wire (get_or jobs i d) (get_or worked i d))
    (as_many : length offered ≡ length proposing) (has : (i : ℕ) (d : Job (CellState D)) → i < length proposing → HasOffered faults wire offers (get_or proposing i d) (get_or offered i d))
    (known_worked : All IsKnownCell (cells_of worked)) (known_offered : All IsKnownCell (cells_of offered)) where
  abbrev pub before : List (CellState D)
  before = cells_of jobs ++ cells_of proposing

  abbrev pub cells : List (CellState D)
  cells = cells_of worked ++ cells_of offered

  pub go : CellsGo faults before cells
  go = all_go content faults config wire offers jobs proposing worked offered (logs_in jobs) s size carried as_many has

  pub are_at : AreCellsAt wire cells
  are_at = are_cells content faults config wire offers jobs proposing worked offered (logs_in jobs) s size carried as_many has known_worked known_offered

  pub logs_before : logs_of before ≡ logs_in jobs
  logs_before = first_logs content faults config wire offers jobs proposing worked offered (logs_in jobs) s size carried as_many has refl

  pub nodes_are : map node_in cells ≡ all_nodes config
  nodes_are = last_nodes content faults config wire offers jobs proposing worked offered (logs_in jobs) s size carried as_many has ∙ s.nodes

  pub new_proposing : (i : ℕ) (d : Job (CellState D)) → i < length proposing → IsNewAt faults wire (get_or proposing i d)
  new_proposing i d l = (each_at (IsNewJob faults wire config) proposing (subst (λ js. Each (IsNewJob faults wire config) js) (sym s.proposers_are) (new_jobs faults wire config proposer_nodes [] s.rules)) i d l).0

  pub configs : (i : ℕ) (c : CellState D) → slice_get cells i ≡ Some c → c.config ≡ config
  configs i c e = (get_each (λ x. IsAt x wire) cells (each_at_wire content faults config wire offers jobs proposing worked offered (logs_in jobs) s size carried as_many has) i c e).config ∙ s.rules

  -- each proposer made its offers
  pub offered_all : (list : List Record) → Each (KeepsProposer list) cells → AreOffered offers list
  offered_all list keeps = are_offered faults wire offers worked proposing offered list (proposers_nodes content faults config wire offers jobs proposing worked offered (logs_in jobs) s size carried as_many has) as_many new_proposing has keeps

  module _ (end : Option RunEnd) (decided : IfSome end (IsDecided worked)) (known_offers : All IsKnown offers) (some : 0 < config.acceptors) (e : RunEnd) (posted : Option (List Record)) (logs : List (LogState D)) (left : Leaves faults config (length offers) cells end e posted logs) where
    abbrev pub after : List (CellState D)
    after = left.after

    pub go_on : CellsGo faults before after
    go_on = cells_on faults before cells after go left.concludes.goes

    pub going : AllZip (LogGoes faults) (logs_in jobs) logs
    going = subst (λ xs. AllZip (LogGoes faults) xs logs) logs_before (subst (AllZip (LogGoes faults) (logs_of before)) (sym left.logs_are) (logs_go faults before after go_on))

    pub configs_after : (i : ℕ) (c : CellState D) → slice_get after i ≡ Some c → c.config ≡ config
    configs_after = configs_are faults cells after config left.concludes.goes configs

    pub nodes_after : map node_in after ≡ all_nodes config
    nodes_after = nodes_go faults cells after left.concludes.goes ∙ nodes_are

    pub keeps : (list : List Record) → IsRunOfCells config after list → IsConclusion faults config (length offers) cells after end e list → Each (KeepsProposer list) cells
    keeps list r (Stood same st) = run_keeps config cells list (subst (λ cs. IsRunOfCells config cs list) same r)
    keeps list r (Settled none q) = rest_keeps config cells q.before q.run list q.rest

    made : (policy : RoundPolicy) (list : List Record) → AreOffered offers list → MayBeOffered policy offers list
    made Multi list h = h
    made Adaptive list h = inl h

    pub run_is : (policy : RoundPolicy) (list : List Record) → posted ≡ Some list → IsRunOf policy config offers list
    run_is policy list is = let c = left.concludes.some list is in record { legal = c.0.legal; offered = made policy list (offered_all list (keeps list c.0 c.1)) }

    -- all learners hold all that the cells hold
    pub learned_if : (list : List Record) (r : IsRunOfCells config cells list) → Each (KeepsProposer list) cells → All (HasLearned (length offers)) cells → AllLearned config (newest_first list)
    learned_if list r k h =
        held.hold_all config offers known_offers list r.legal (offered_all list k) some
        (show_all config list r.legal (length offers) cells (stand_all config cells list r (length offers) configs are_at.known nodes_are) (each_of (HasLearned (length offers)) cells h)
        (λ m there. subst (Has m) (sym nodes_are) (all_present config m there)))

    pub held_if : (list : List Record) (r : IsRunOfCells config cells list) → Each (KeepsProposer list) cells → AllLearned config (newest_first list) → All (HasLearned (length offers)) cells
    held_if list r k all =
        all_of_each (HasLearned (length offers)) cells (hold_all config list r.legal (length offers) cells (stand_all config cells list r (length offers) configs are_at.known nodes_are)
        (held.have_as_many config offers known_offers list r.legal (offered_all list k) some all))

    learned_by : (list : List Record) → IsRunOfCells config after list → IsConclusion faults config (length offers) cells after end e list → e ≡ Learned → AllLearned config (newest_first list)
    learned_by list r (Stood same st) l =
        let run = subst (λ cs. IsRunOfCells config cs list) same r in
        learned_if list run (run_keeps config cells list run) (learned_quietly worked (length offers) cells end e decided st l).1
    learned_by list r (Settled none q) l = (subst (SettledTo faults config q.before cells after list) l q.settled).1

    pub all_learned : (list : List Record) → posted ≡ Some list → e ≡ Learned → HasLearnedAll config offers list
    all_learned list is l = let c = left.concludes.some list is in record { offered = offered_all list (keeps list c.0 c.1); learned = learned_by list c.0 c.1 l }
