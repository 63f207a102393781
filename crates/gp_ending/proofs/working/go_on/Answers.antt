use Rattle.std.proofs.Common.{refl, ◌≡◌, ◌<◌, List, None, map, length, get_or, sym, ap, ◌∙◌, subst}
use Rattle.std.specs.Prelude.{IfSome}
use Rattle.std.specs.List.{All}
use Rattle.gp_wire.specs.Known.{records}
use Rattle.gp_work.specs.declared.job.Job.{Job}
use Rattle.gp_cell.specs.Cells.{CellState}
use Rattle.gp_cell.specs.Working.{process_of, causes_of, IsAt}
use Rattle.gp_phase.specs.declared.phases.PhasesEnd.TheVariants as PhasesEnd
use Rattle.gp_phase.specs.Phases.{rounds, only_at, total, AreReady}
use Rattle.gp_ending.specs.Ended.{HaveWorked}
use Rattle.gp_ending.specs.Ends.{deciding, fault_in}
use Rattle.gp_ending.specs.Working.{IsCarriedJob, IsDecided}
use Rattle.gp_ending.proofs.Carrying.{carried_still, decided_none, decided_or}
use Rattle.gp_ending.proofs.Deciding.{some_no}
use Rattle.gp_ending.proofs.working.go_on.Goals as goal
use Rattle.gp_ending.proofs.working.go_on.Goals.{in-Quiet, in-Fault}

pub returns-in_default-clause-carried : goal.returns-in_default-clause-carried
returns-in_default-clause-carried g c i d l =
    subst (λ (js : List (Job (CellState g.row.D.Denot))). IsCarriedJob g.D.Disk.content g.D.Disk.faults c.args.wire.now (get_or c.args.jobs.items i d) (get_or js i d)) (sym (ap (λ v. v.items) c.starved.ensures.jobs))
    (carried_still (process_of g.D.Disk.faults) (λ x w. IsAt x w) (causes_of g.D.Disk.content) c.args.wire.now (only_at c.args.config.acceptors i (rounds c.requires.ready.begun)) (get_or c.args.jobs.items i d) (c.requires.ready.each i d l))

pub returns-in_default-clause-decided : goal.returns-in_default-clause-decided
returns-in_default-clause-decided g c =
    decided_none c.starved.result.jobs.items c.starved.result.end c.starved.ensures.end
    (subst (λ (js : List (Job (CellState g.row.D.Denot))). All (λ (j : Job (CellState g.row.D.Denot)). j.fault ≡ None) js) (sym (ap (λ v. v.items) c.starved.ensures.jobs)) (λ i d l. (c.requires.ready.each i d l).fault))

pub run_phases-phases-requires-clause-at : goal.run_phases-phases-requires-clause-at
run_phases-phases-requires-clause-at g c κs within = subst (λ n. n < length c.args.jobs.items) (sym c.acceptors-at.ensures.value) c.requires.at

pub run_phases-phases-requires-clause-ready : goal.run_phases-phases-requires-clause-ready
run_phases-phases-requires-clause-ready g c κs within =
    subst (λ n. AreReady (process_of g.D.Disk.faults) (λ (x : CellState g.row.D.Denot) w. IsAt x w) c.args.wire.now g.C.Caller.answers n (g.C.Caller.called c.args.caller.now) c.args.jobs.items) (sym c.acceptors-at.ensures.value) c.requires.ready

pub run_phases-phases-requires-clause-node : goal.run_phases-phases-requires-clause-node
run_phases-phases-requires-clause-node g c κs within d =
    ap (λ n. (get_or c.args.jobs.items n d).cell.node) c.acceptors-at.ensures.value ∙ c.requires.caller.job_node d ∙ sym c.requires.caller.node_is

pub run_phases-phases-requires-clause-config : goal.run_phases-phases-requires-clause-config
run_phases-phases-requires-clause-config g c κs within d =
    ap (λ n. (get_or c.args.jobs.items n d).cell.config) c.acceptors-at.ensures.value ∙ c.requires.caller.job_config d ∙ sym c.requires.caller.config_is

pub run_phases-phases-requires-clause-knows : goal.run_phases-phases-requires-clause-knows
run_phases-phases-requires-clause-knows g c κs within d =
    subst (λ n. g.C.Caller.knows c.args.caller.now (records (get_or c.args.jobs.items n d).cell.pass)) (sym c.acceptors-at.ensures.value) (c.requires.caller.knows_all d)

pub returns-clause-worked : goal.returns-clause-worked
returns-clause-worked g c none =
    let e = c.run_phases-phases.ensures in
    let quiet : c.run_phases-phases.result.end ≡ PhasesEnd.Quiet = elim c.match-phases.branch [ in-Quiet w ↦ w.in-Quiet.is | in-Fault w ↦ some_no (sym w.end-is ∙ none) ] in
    let counted : c.in-Some.others ≡ total (process_of g.D.Disk.faults) 0 c.args.offered.now = c.in-Some.ensures in
    let calls = g.C.Caller.called c.run_phases-phases.new.caller in
    let ended = c.run_phases-phases.result.jobs.items in
    subst (λ n. HaveWorked g.C.Caller.answers g.D.Disk.faults c.args.wire.now n (total (process_of g.D.Disk.faults) 0 c.args.offered.now) calls c.args.jobs.items ended) c.acceptors-at.ensures.value
    (subst (λ n. HaveWorked g.C.Caller.answers g.D.Disk.faults c.args.wire.now c.acceptors-at.result n calls c.args.jobs.items ended) counted (record {
      size = e.size;
      finished = e.finished quiet;
      opens = e.opens quiet;
      follows = e.follows quiet;
      last = e.last quiet;
    }))

pub returns-clause-caller : goal.returns-clause-caller
returns-clause-caller g c none =
    let e = c.run_phases-phases.ensures in
    let quiet : c.run_phases-phases.result.end ≡ PhasesEnd.Quiet = elim c.match-phases.branch [ in-Quiet w ↦ w.in-Quiet.is | in-Fault w ↦ some_no (sym w.end-is ∙ none) ] in
    record {
      config_is = e.config ∙ c.requires.caller.config_is;
      node_is = e.node ∙ c.requires.caller.node_is;
      job_config = λ d. (e.carried c.args.config.acceptors d c.requires.at).goes.config ∙ c.requires.caller.job_config d;
      job_node = λ d. (e.carried c.args.config.acceptors d c.requires.at).goes.node ∙ c.requires.caller.job_node d;
      knows_all = λ d. subst (λ n. g.C.Caller.knows c.run_phases-phases.new.caller (records (get_or c.run_phases-phases.result.jobs.items n d).cell.pass)) c.acceptors-at.ensures.value (e.knows quiet d);
    }

pub returns-clause-decided : goal.returns-clause-decided
returns-clause-decided g c = elim c.match-phases.branch [
  | in-Quiet w ↦ subst (λ o. IfSome o (IsDecided c.run_phases-phases.result.jobs.items)) (sym w.end-is) tt
  | in-Fault w ↦ subst (λ o. IfSome o (IsDecided c.run_phases-phases.result.jobs.items)) (sym w.end-is) (decided_or c.run_phases-phases.result.jobs.items w.deciding.result w.unwrap_or.result (w.deciding.ensures ∙ ap (λ js. deciding (map fault_in js)) w.deref.ensures.value) w.unwrap_or.ensures)
]

pub returns-in_default-clause-size : goal.returns-in_default-clause-size
returns-in_default-clause-size g c = ap (λ v. length v.items) c.starved.ensures.jobs

pub returns-in_default-clause-worked : goal.returns-in_default-clause-worked
returns-in_default-clause-worked g c none = some_no (sym c.starved.ensures.end ∙ none)

pub returns-in_default-clause-caller : goal.returns-in_default-clause-caller
returns-in_default-clause-caller g c none = some_no (sym c.starved.ensures.end ∙ none)

pub returns-in_default-clause-topics : goal.returns-in_default-clause-topics
returns-in_default-clause-topics g c = refl

pub returns-clause-size : goal.returns-clause-size
returns-clause-size g c = c.run_phases-phases.ensures.size

pub returns-clause-carried : goal.returns-clause-carried
returns-clause-carried g c = c.run_phases-phases.ensures.carried

pub returns-clause-topics : goal.returns-clause-topics
returns-clause-topics g c = c.run_phases-phases.ensures.topics
