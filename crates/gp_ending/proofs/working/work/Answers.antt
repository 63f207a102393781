use Rattle.std.proofs.Common.{refl, ◌≡◌, ◌<◌, List, None, length, get_or, sym, ap, ◌∙◌, subst, arith}
use Rattle.std.specs.List.{All}
use Rattle.gp_wire.specs.Known.{records}
use Rattle.gp_work.specs.declared.job.Job.{Job}
use Rattle.gp_cell.specs.Cells.{CellState}
use Rattle.gp_cell.specs.Working.{process_of, causes_of, IsAt}
use Rattle.gp_phase.specs.Phases.{rounds, only_at, AreReady, IsToOpen, HasAnswered}
use Rattle.gp_ending.specs.Begins.{leader}
use Rattle.gp_ending.proofs.Indexing.{pick}
use Rattle.gp_ending.specs.Working.{IsCarriedJob}
use Rattle.gp_ending.proofs.Carrying.{carried_on, decided_none, on_ok}
use Rattle.gp_ending.proofs.Deciding.{some_no}
use Rattle.gp_ending.proofs.working.work.Goals as goal

pub call_first-requires-clause-at : goal.call_first-requires-clause-at
call_first-requires-clause-at g c = subst (λ n. n < length c.args.starting.items) (sym c.acceptors-at.ensures.value) c.requires.at

pub call_first-requires-clause-node : goal.call_first-requires-clause-node
call_first-requires-clause-node g c d =
    ap (λ n. (get_or c.args.starting.items n d).cell.node) c.acceptors-at.ensures.value ∙ c.requires.caller.job_node d ∙ sym c.requires.caller.node_is

pub call_first-requires-clause-config : goal.call_first-requires-clause-config
call_first-requires-clause-config g c d =
    ap (λ n. (get_or c.args.starting.items n d).cell.config) c.acceptors-at.ensures.value ∙ c.requires.caller.job_config d ∙ sym c.requires.caller.config_is

pub call_first-requires-clause-knows : goal.call_first-requires-clause-knows
call_first-requires-clause-knows g c d =
    subst (λ n. g.C.Caller.knows c.args.caller.now (records (get_or c.args.starting.items n d).cell.pass)) (sym c.acceptors-at.ensures.value) (c.requires.caller.knows_all d)

pub returns-then-is_err-clause-carried : goal.returns-then-is_err-clause-carried
returns-then-is_err-clause-carried g c i d l =
    subst (λ (js : List (Job (CellState g.row.D.Denot))). IsCarriedJob g.D.Disk.content g.D.Disk.faults c.args.wire.now (get_or c.args.starting.items i d) (get_or js i d)) (sym (ap (λ v. v.items) c.starved.ensures.jobs))
    (c.call_first.ensures.carried i d l)

pub returns-then-is_err-clause-decided : goal.returns-then-is_err-clause-decided
returns-then-is_err-clause-decided g c =
    decided_none c.starved.result.jobs.items c.starved.result.end c.starved.ensures.end
    (subst (λ (js : List (Job (CellState g.row.D.Denot))). All (λ (j : Job (CellState g.row.D.Denot)). j.fault ≡ None) js) (sym (ap (λ v. v.items) c.starved.ensures.jobs)) c.call_first.ensures.unbroken)

pub go_on-requires-clause-ready : goal.go_on-requires-clause-ready
go_on-requires-clause-ready g c κs within =
    subst (λ n. AreReady (process_of g.D.Disk.faults) (λ (x : CellState g.row.D.Denot) w. IsAt x w) c.args.wire.now g.C.Caller.answers n (g.C.Caller.called c.call_first.new.caller) c.call_first.new.jobs.items) c.acceptors-at.ensures.value
    (on_ok _ c.call_first.result c.if-is_err.ensures.value c.call_first.ensures.ready)

pub go_on-requires-clause-caller : goal.go_on-requires-clause-caller
go_on-requires-clause-caller g c κs within =
    let first = c.call_first.ensures in
    let at = c.acceptors-at.ensures.value in
    let job = pick c.args.starting.items c.args.config.acceptors c.requires.at in
    let inside : c.acceptors-at.result < length c.args.starting.items = subst (λ n. n < length c.args.starting.items) (sym at) c.requires.at in
    let node : (d : Job (CellState g.row.D.Denot)) → (get_or c.call_first.new.jobs.items c.acceptors-at.result d).cell.node ≡ leader
    = λ d. (first.carried c.acceptors-at.result d inside).goes.node ∙ ap (λ n. (get_or c.args.starting.items n d).cell.node) at ∙ c.requires.caller.job_node d in
    let config : (d : Job (CellState g.row.D.Denot)) → (get_or c.call_first.new.jobs.items c.acceptors-at.result d).cell.config ≡ c.args.config
    = λ d. (first.carried c.acceptors-at.result d inside).goes.config ∙ ap (λ n. (get_or c.args.starting.items n d).cell.config) at ∙ c.requires.caller.job_config d in
    record {
      config_is = sym (first.config job) ∙ config job;
      node_is = sym (first.node job) ∙ node job;
      job_config = subst (λ n. (d : Job (CellState g.row.D.Denot)) → (get_or c.call_first.new.jobs.items n d).cell.config ≡ c.args.config) at config;
      job_node = subst (λ n. (d : Job (CellState g.row.D.Denot)) → (get_or c.call_first.new.jobs.items n d).cell.node ≡ leader) at node;
      knows_all = λ d. subst (λ n. g.C.Caller.knows c.call_first.new.caller (records (get_or c.call_first.new.jobs.items n d).cell.pass)) at (first.knows d);
    }

pub returns-clause-carried : goal.returns-clause-carried
returns-clause-carried g c i d l =
    let jobs = c.call_first.new.jobs.items in
    let size = c.call_first.ensures.size in
    carried_on (process_of g.D.Disk.faults) (λ x w. IsAt x w) (causes_of g.D.Disk.content) c.args.wire.now (get_or c.args.starting.items i d) (get_or jobs i d) (get_or c.go_on.result.jobs.items i d)
    (c.call_first.ensures.carried i d l) (c.go_on.ensures.carried i d (omega (arith, size, l)))

pub returns-clause-quiet : goal.returns-clause-quiet
returns-clause-quiet g c none =
    let first = c.call_first.ensures in
    let at = c.acceptors-at.ensures.value in
    let jobs = c.call_first.new.jobs.items in
    let calls = g.C.Caller.called c.call_first.new.caller in
    let ok = on_ok _ c.call_first.result c.if-is_err.ensures.value first.opening in
    let answered = on_ok _ c.call_first.result c.if-is_err.ensures.value first.answered in
    let inside : c.acceptors-at.result < length c.args.starting.items = subst (λ n. n < length c.args.starting.items) (sym at) c.requires.at in
    record {
      starting = jobs;
      first = calls;
      size = first.size;
      node = λ i d l. (first.carried i d l).goes.node;
      later = λ i d l. (first.carried i d l).goes.faults;
      phases = record {
        within = subst (λ n. c.args.config.acceptors < n) (sym first.size) c.requires.at;
        leads = λ d. ap (λ n. (get_or jobs n d).cell.node) (sym at) ∙ (first.carried c.acceptors-at.result d inside).goes.node ∙ ap (λ n. (get_or c.args.starting.items n d).cell.node) at ∙ c.requires.caller.job_node d;
        opening = λ i d l. subst (λ n. IsToOpen (process_of g.D.Disk.faults) (λ (x : CellState g.row.D.Denot) w. IsAt x w) c.args.wire.now (only_at n i (rounds calls)) (get_or jobs i d)) at (ok i d (subst (λ n. i < n) first.size l));
        answered = λ d. subst (λ n. HasAnswered (process_of g.D.Disk.faults) g.C.Caller.answers calls (get_or jobs n d)) at (answered d);
        worked = c.go_on.ensures.worked none;
      };
    }

pub call_first-requires-clause-new : goal.call_first-requires-clause-new
call_first-requires-clause-new g c = c.requires.new

pub call_first-requires-clause-none : goal.call_first-requires-clause-none
call_first-requires-clause-none g c = c.requires.none

pub returns-then-is_err-clause-size : goal.returns-then-is_err-clause-size
returns-then-is_err-clause-size g c = ap (λ v. length v.items) c.starved.ensures.jobs ∙ c.call_first.ensures.size

pub returns-then-is_err-clause-quiet : goal.returns-then-is_err-clause-quiet
returns-then-is_err-clause-quiet g c none = some_no (sym c.starved.ensures.end ∙ none)

pub returns-then-is_err-clause-caller : goal.returns-then-is_err-clause-caller
returns-then-is_err-clause-caller g c none = some_no (sym c.starved.ensures.end ∙ none)

pub returns-then-is_err-clause-topics : goal.returns-then-is_err-clause-topics
returns-then-is_err-clause-topics g c = refl

pub go_on-requires-clause-at : goal.go_on-requires-clause-at
go_on-requires-clause-at g c κs within = subst (λ n. c.args.config.acceptors < n) (sym c.call_first.ensures.size) c.requires.at

pub returns-clause-size : goal.returns-clause-size
returns-clause-size g c = c.go_on.ensures.size ∙ c.call_first.ensures.size

pub returns-clause-caller : goal.returns-clause-caller
returns-clause-caller g c = c.go_on.ensures.caller

pub returns-clause-decided : goal.returns-clause-decided
returns-clause-decided g c = c.go_on.ensures.decided

pub returns-clause-topics : goal.returns-clause-topics
returns-clause-topics g c = c.go_on.ensures.topics
