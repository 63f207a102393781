use Rattle.std.specs.List.{AllZip}
use Rattle.std.proofs.Common.{◌≡◌, ◌<◌, ℕ, List, [], None, length, get_or, refl, sym, ap, ◌∙◌, subst, arith}
use Rattle.gp_vlog.specs.Logs.{LogState}
use Rattle.gp_work.specs.declared.job.Job.{Job}
use Rattle.gp_cell.specs.Cells.{CellState}
use Rattle.gp_cell.specs.Working.{process_of, causes_of, IsAt}
use Rattle.gp_phase.specs.Phases.{total}
use Rattle.gp_caller.specs.Adapting.{IsAdapted}
use Rattle.gp_ending.specs.Working.{IsCarriedJob, RestsAfter}
use Rattle.gp_ending.proofs.Carrying.{carried_on}
use Rattle.gp_ending.proofs.Resting.{rests_on, ready_again}
use Rattle.gp_cluster.specs.Cells.{LogGoes}
use Rattle.gp_cluster.specs.declared.policy.RoundPolicy.TheVariants.{Adaptive}
use Rattle.gp_cluster.specs.Seated.{IsCarriedRun, logs_in}
use Rattle.gp_cluster.proofs.Sitting as sitting
use Rattle.gp_cluster.proofs.Quieting.{carried_run}
use Rattle.gp_cluster.proofs.Carried.{offers_nothing, logs_carried, some_no_none, none_of}
use Rattle.gp_cluster.proofs.Left.{nothing_said, unposted, ended_early, as_many_logs}
use Rattle.gp_cluster.proofs.adapting.run_adapting.Goals as goal

pub returns-in-Err-clause-run : goal.returns-in-Err-clause-run
returns-in-Err-clause-run g c = let e = c.unclosed.ensures in
    nothing_said g.D.Disk.faults Adaptive g.D.Disk.content c.args.config c.args.offers.now _ _ c.unclosed.result.posted c.unclosed.result.end e.posted e.end e.logs

pub returns-in_default-clause-run : goal.returns-in_default-clause-run
returns-in_default-clause-run g c = let e = c.unclosed-in_default.ensures in
    nothing_said g.D.Disk.faults Adaptive g.D.Disk.content c.args.config c.args.offers.now _ _ c.unclosed-in_default.result.posted c.unclosed-in_default.result.end e.posted e.end e.logs

pub work-rested-requires-clause-new : goal.work-rested-requires-clause-new
work-rested-requires-clause-new g c κs within k d l = sitting.jobs_new g.D.Disk.faults c.args.config c.args.seated.wire c.args.seated.jobs.items c.args.seated.proposers.items c.requires.seated k d l

pub work-rested-requires-clause-at : goal.work-rested-requires-clause-at
work-rested-requires-clause-at g c κs within = sitting.leader_within g.D.Disk.faults c.args.config c.args.seated.wire c.args.seated.jobs.items c.args.seated.proposers.items c.requires.seated (let k = c.know.ensures.coordinators in omega arith)

pub work-rested-requires-clause-leads : goal.work-rested-requires-clause-leads
work-rested-requires-clause-leads g c κs within d = sitting.leads g.D.Disk.faults c.args.config c.args.seated.wire c.args.seated.jobs.items c.args.seated.proposers.items c.requires.seated (let k = c.know.ensures.coordinators in omega arith) d

pub work-rested-requires-clause-caller : goal.work-rested-requires-clause-caller
work-rested-requires-clause-caller g c κs within =
    let some : 0 < c.args.config.coordinators = let k = c.know.ensures.coordinators in omega arith in record {
      config_is = c.in-Ok-new.ensures.config;
      node_is = refl;
      job_config = λ d. (sitting.jobs_new g.D.Disk.faults c.args.config c.args.seated.wire c.args.seated.jobs.items c.args.seated.proposers.items c.requires.seated c.args.config.acceptors d (sitting.leader_within g.D.Disk.faults c.args.config c.args.seated.wire c.args.seated.jobs.items c.args.seated.proposers.items c.requires.seated some)).own.config ∙ c.requires.seated.rules;
      job_node = sitting.leads g.D.Disk.faults c.args.config c.args.seated.wire c.args.seated.jobs.items c.args.seated.proposers.items c.requires.seated some;
      knows_all = λ d. c.in-Ok-new.ensures.knows _;
    }

pub close_run-requires-clause-run : goal.close_run-requires-clause-run
close_run-requires-clause-run g c =
    let stopped = c.if-is_some.ensures in
    let new = sitting.proposing_new g.D.Disk.faults c.args.config c.args.seated.wire c.args.seated.jobs.items c.args.seated.proposers.items c.requires.seated in
    let run : IsCarriedRun g.D.Disk.content g.D.Disk.faults Adaptive c.args.config c.args.seated.wire [] c.args.seated.jobs.items c.args.seated.proposers.items c.work-rested.result.jobs.items c.args.seated.proposers.items c.work-rested.result.end = record {
      seated = c.requires.seated;
      size = c.work-rested.ensures.size;
      carried = c.work-rested.ensures.carried;
      as_many = refl;
      has = λ i d l. offers_nothing g.D.Disk.faults c.args.seated.wire (get_or c.args.seated.proposers.items i d) (new i d l);
      known = λ k d l. absurd (omega (arith, l));
      decided = c.work-rested.ensures.decided;
      quiet = λ none. some_no_none c.work-rested.result.end stopped none;
    } in
    record {
      policy = Adaptive;
      offers = [];
      jobs = c.args.seated.jobs.items;
      proposing = c.args.seated.proposers.items;
      run = run;
      many = refl;
      fits = c.requires.logs_room;
    }

pub close_run-requires-clause-cells_room : goal.close_run-requires-clause-cells_room
close_run-requires-clause-cells_room g c =
    let room = c.requires.cells_room.1 in
    let a = c.work-rested.ensures.size in
    (c.requires.cells_room.0, omega (arith, room, a))

pub returns-then-is_some-clause-run : goal.returns-then-is_some-clause-run
returns-then-is_some-clause-run g c =
    let stopped = c.if-is_some.ensures in
    let new = sitting.proposing_new g.D.Disk.faults c.args.config c.args.seated.wire c.args.seated.jobs.items c.args.seated.proposers.items c.requires.seated in
    let run : IsCarriedRun g.D.Disk.content g.D.Disk.faults Adaptive c.args.config c.args.seated.wire [] c.args.seated.jobs.items c.args.seated.proposers.items c.work-rested.result.jobs.items c.args.seated.proposers.items c.work-rested.result.end = record {
      seated = c.requires.seated;
      size = c.work-rested.ensures.size;
      carried = c.work-rested.ensures.carried;
      as_many = refl;
      has = λ i d l. offers_nothing g.D.Disk.faults c.args.seated.wire (get_or c.args.seated.proposers.items i d) (new i d l);
      known = λ k d l. absurd (omega (arith, l));
      decided = c.work-rested.ensures.decided;
      quiet = λ none. some_no_none c.work-rested.result.end stopped none;
    } in
    ended_early g.D.Disk.faults g.D.Disk.content c.args.config c.args.offers.now (logs_in c.args.seated.jobs.items) c.close_run.result.logs.items c.close_run.result.posted c.close_run.result.end
    (λ l. some_no_none c.work-rested.result.end stopped (c.close_run.ensures.early l)) (c.close_run.ensures.run Adaptive [] c.args.seated.jobs.items c.args.seated.proposers.items refl run)

pub offer_all-requires-clause-new : goal.offer_all-requires-clause-new
offer_all-requires-clause-new g c κs within k d l = sitting.proposing_new g.D.Disk.faults c.args.config c.args.seated.wire c.args.seated.jobs.items c.args.seated.proposers.items c.requires.seated k d l

pub unclosed-requires-in_default-offer_all-clause-logs_room : goal.unclosed-requires-in_default-offer_all-clause-logs_room
unclosed-requires-in_default-offer_all-clause-logs_room g c =
    as_many_logs g.D.Disk.faults _ _ c.args.room.logs (logs_carried g.D.Disk.content g.D.Disk.faults c.args.seated.wire c.args.seated.jobs.items c.work-rested.result.jobs.items c.work-rested.ensures.size c.work-rested.ensures.carried) c.requires.logs_room

pub returns-in_default-offer_all-clause-run : goal.returns-in_default-offer_all-clause-run
returns-in_default-offer_all-clause-run g c =
    let e = c.unclosed-in_default-offer_all.ensures in
    unposted g.D.Disk.faults Adaptive g.D.Disk.content c.args.config c.args.offers.now _ _ c.unclosed-in_default-offer_all.result.posted c.unclosed-in_default-offer_all.result.end e.posted e.end
    (subst (λ (ls : List (LogState g.row.D.Denot)). AllZip (LogGoes g.D.Disk.faults) (logs_in c.args.seated.jobs.items) ls) (sym e.logs) (logs_carried g.D.Disk.content g.D.Disk.faults c.args.seated.wire c.args.seated.jobs.items c.work-rested.result.jobs.items c.work-rested.ensures.size c.work-rested.ensures.carried))

pub go_on-worked-requires-clause-at : goal.go_on-worked-requires-clause-at
go_on-worked-requires-clause-at g c κs within =
    subst (λ n. c.args.config.acceptors < n) (sym c.work-rested.ensures.size) (sitting.leader_within g.D.Disk.faults c.args.config c.args.seated.wire c.args.seated.jobs.items c.args.seated.proposers.items c.requires.seated (let k = c.know.ensures.coordinators in omega arith))

pub go_on-worked-requires-clause-ready : goal.go_on-worked-requires-clause-ready
go_on-worked-requires-clause-ready g c κs within =
    ready_again IsAdapted g.D.Disk.faults c.args.seated.wire c.args.config.acceptors (total (process_of g.D.Disk.faults) 0 c.deref.result.now) c.work-rested.new.caller.calls.items c.args.seated.jobs.items c.work-rested.result.jobs.items
    (c.work-rested.ensures.quiet (none_of c.work-rested.result.end c.if-is_some.ensures))

pub go_on-worked-requires-clause-caller : goal.go_on-worked-requires-clause-caller
go_on-worked-requires-clause-caller g c κs within = c.work-rested.ensures.caller (none_of c.work-rested.result.end c.if-is_some.ensures)

pub close_run-requires-2-clause-run : goal.close_run-requires-2-clause-run
close_run-requires-2-clause-run g c =
    let rested : c.work-rested.result.end ≡ None = none_of c.work-rested.result.end c.if-is_some.ensures in
    let offers = c.in-Ok-offer_all.ensures in
    let first = c.work-rested.ensures in
    let later = c.go_on-worked.ensures in
    let size : length c.go_on-worked.result.jobs.items ≡ length c.args.seated.jobs.items = later.size ∙ first.size in
    let carried : (i : ℕ) (d : Job (CellState g.row.D.Denot)) → i < length c.args.seated.jobs.items → IsCarriedJob g.D.Disk.content g.D.Disk.faults c.args.seated.wire (get_or c.args.seated.jobs.items i d) (get_or c.go_on-worked.result.jobs.items i d)
    = λ i d l. carried_on (process_of g.D.Disk.faults) (λ x w. IsAt x w) (causes_of g.D.Disk.content) c.args.seated.wire (get_or c.args.seated.jobs.items i d) (get_or c.work-rested.result.jobs.items i d) (get_or c.go_on-worked.result.jobs.items i d) (first.carried i d l) (later.carried i d (subst (λ n. i < n) (sym first.size) l)) in
    let rests : c.go_on-worked.result.end ≡ None → RestsAfter IsAdapted g.D.Disk.faults c.args.seated.wire c.args.config.acceptors (total (process_of g.D.Disk.faults) 0 c.in-Ok-offer_all.offered.items) c.go_on-worked.new.caller.calls.items c.args.seated.jobs.items c.go_on-worked.result.jobs.items
    = λ none. subst (λ (js : List (Job (CellState g.row.D.Denot))). RestsAfter IsAdapted g.D.Disk.faults c.args.seated.wire c.args.config.acceptors (total (process_of g.D.Disk.faults) 0 js) c.go_on-worked.new.caller.calls.items c.args.seated.jobs.items c.go_on-worked.result.jobs.items) c.deref-2.ensures.value
    (rests_on IsAdapted g.D.Disk.faults c.args.seated.wire c.args.config.acceptors (total (process_of g.D.Disk.faults) 0 c.deref.result.now) (total (process_of g.D.Disk.faults) 0 c.deref-2.result.now) c.work-rested.new.caller.calls.items c.go_on-worked.new.caller.calls.items c.args.seated.jobs.items c.work-rested.result.jobs.items c.go_on-worked.result.jobs.items (first.quiet rested) (later.worked none)) in
    let run = carried_run Adaptive g.D.Disk.content g.D.Disk.faults c.args.config c.args.seated.wire c.args.offers.now c.args.seated.jobs.items c.args.seated.proposers.items c.go_on-worked.result.jobs.items c.in-Ok-offer_all.offered.items c.requires.seated size carried offers.size offers.offered offers.worked
    c.go_on-worked.result.end (let k = c.know.ensures.acceptors in omega arith) c.go_on-worked.new.caller.calls.items rests c.requires.known later.decided in
    record {
      policy = Adaptive;
      offers = c.args.offers.now;
      jobs = c.args.seated.jobs.items;
      proposing = c.args.seated.proposers.items;
      run = run;
      many = ap length c.as_slice-commands.ensures;
      fits = c.requires.logs_room;
    }

pub close_run-requires-2-clause-cells_room : goal.close_run-requires-2-clause-cells_room
close_run-requires-2-clause-cells_room g c =
    let room = c.requires.cells_room.1 in
    let a = c.work-rested.ensures.size in
    let b = c.go_on-worked.ensures.size in
    let p = c.in-Ok-offer_all.ensures.size in
    (c.requires.cells_room.0, omega (arith, room, a, b, p))

pub returns-clause-run : goal.returns-clause-run
returns-clause-run g c =
    let rested : c.work-rested.result.end ≡ None = none_of c.work-rested.result.end c.if-is_some.ensures in
    let offers = c.in-Ok-offer_all.ensures in
    let first = c.work-rested.ensures in
    let later = c.go_on-worked.ensures in
    let size : length c.go_on-worked.result.jobs.items ≡ length c.args.seated.jobs.items = later.size ∙ first.size in
    let carried : (i : ℕ) (d : Job (CellState g.row.D.Denot)) → i < length c.args.seated.jobs.items → IsCarriedJob g.D.Disk.content g.D.Disk.faults c.args.seated.wire (get_or c.args.seated.jobs.items i d) (get_or c.go_on-worked.result.jobs.items i d)
    = λ i d l. carried_on (process_of g.D.Disk.faults) (λ x w. IsAt x w) (causes_of g.D.Disk.content) c.args.seated.wire (get_or c.args.seated.jobs.items i d) (get_or c.work-rested.result.jobs.items i d) (get_or c.go_on-worked.result.jobs.items i d) (first.carried i d l) (later.carried i d (subst (λ n. i < n) (sym first.size) l)) in
    let rests : c.go_on-worked.result.end ≡ None → RestsAfter IsAdapted g.D.Disk.faults c.args.seated.wire c.args.config.acceptors (total (process_of g.D.Disk.faults) 0 c.in-Ok-offer_all.offered.items) c.go_on-worked.new.caller.calls.items c.args.seated.jobs.items c.go_on-worked.result.jobs.items
    = λ none. subst (λ (js : List (Job (CellState g.row.D.Denot))). RestsAfter IsAdapted g.D.Disk.faults c.args.seated.wire c.args.config.acceptors (total (process_of g.D.Disk.faults) 0 js) c.go_on-worked.new.caller.calls.items c.args.seated.jobs.items c.go_on-worked.result.jobs.items) c.deref-2.ensures.value
    (rests_on IsAdapted g.D.Disk.faults c.args.seated.wire c.args.config.acceptors (total (process_of g.D.Disk.faults) 0 c.deref.result.now) (total (process_of g.D.Disk.faults) 0 c.deref-2.result.now) c.work-rested.new.caller.calls.items c.go_on-worked.new.caller.calls.items c.args.seated.jobs.items c.work-rested.result.jobs.items c.go_on-worked.result.jobs.items (first.quiet rested) (later.worked none)) in
    let run = carried_run Adaptive g.D.Disk.content g.D.Disk.faults c.args.config c.args.seated.wire c.args.offers.now c.args.seated.jobs.items c.args.seated.proposers.items c.go_on-worked.result.jobs.items c.in-Ok-offer_all.offered.items c.requires.seated size carried offers.size offers.offered offers.worked
    c.go_on-worked.result.end (let k = c.know.ensures.acceptors in omega arith) c.go_on-worked.new.caller.calls.items rests c.requires.known later.decided in
    c.close_run-2.ensures.run Adaptive c.args.offers.now c.args.seated.jobs.items c.args.seated.proposers.items (ap length c.as_slice-commands.ensures) run

pub unclosed-requires-clause-cells_room : goal.unclosed-requires-clause-cells_room
unclosed-requires-clause-cells_room g c = (c.requires.cells_room.0, let most = c.requires.cells_room.1 in omega (arith, most))

pub unclosed-requires-clause-logs_room : goal.unclosed-requires-clause-logs_room
unclosed-requires-clause-logs_room g c = c.requires.logs_room

pub returns-in_default-clause-topics : goal.returns-in_default-clause-topics
returns-in_default-clause-topics g c = refl

pub work-rested-requires-clause-config : goal.work-rested-requires-clause-config
work-rested-requires-clause-config g c κs within = c.requires.seated.rules

pub work-rested-requires-clause-none : goal.work-rested-requires-clause-none
work-rested-requires-clause-none g c κs within = c.in-Ok-new.ensures.none

pub returns-then-is_some-clause-topics : goal.returns-then-is_some-clause-topics
returns-then-is_some-clause-topics g c = c.work-rested.ensures.topics

pub offer_all-requires-clause-nodes : goal.offer_all-requires-clause-nodes
offer_all-requires-clause-nodes g c κs within = sitting.proposing_nodes g.D.Disk.faults c.args.config c.args.seated.wire c.args.seated.jobs.items c.args.seated.proposers.items c.requires.seated

pub offer_all-requires-clause-few : goal.offer_all-requires-clause-few
offer_all-requires-clause-few g c κs within = c.requires.few

pub offer_all-requires-clause-known : goal.offer_all-requires-clause-known
offer_all-requires-clause-known g c κs within = c.requires.known

pub unclosed-requires-in_default-offer_all-clause-cells_room : goal.unclosed-requires-in_default-offer_all-clause-cells_room
unclosed-requires-in_default-offer_all-clause-cells_room g c = (c.requires.cells_room.0, let most = c.requires.cells_room.1 in let size = c.work-rested.ensures.size in omega (arith, most, size))

pub returns-in_default-offer_all-clause-topics : goal.returns-in_default-offer_all-clause-topics
returns-in_default-offer_all-clause-topics g c = c.work-rested.ensures.topics

pub returns-clause-topics : goal.returns-clause-topics
returns-clause-topics g c = c.go_on-worked.ensures.topics ∙ c.work-rested.ensures.topics
