use Rattle.std.proofs.Common.{◌≡◌, ◌<◌, List, None, length, refl, ap, ◌∙◌, subst, arith}
use Rattle.gp_cell.specs.Working.{process_of}
use Rattle.gp_phase.specs.Phases.{total}
use Rattle.gp_work.specs.declared.job.Job.{Job}
use Rattle.gp_cell.specs.Cells.{CellState}
use Rattle.gp_caller.specs.Calling.{IsCalled}
use Rattle.gp_ending.specs.Working.{RestsAfter}
use Rattle.gp_cluster.specs.declared.policy.RoundPolicy.TheVariants.{Multi}
use Rattle.gp_cluster.proofs.Sitting as sitting
use Rattle.gp_cluster.proofs.Quieting.{carried_run}
use Rattle.gp_cluster.proofs.Left.{nothing_said}
use Rattle.gp_cluster.proofs.turning.run_in_turn.Goals as goal

pub returns-in_default-clause-run : goal.returns-in_default-clause-run
returns-in_default-clause-run g c = let e = c.unclosed.ensures in
    nothing_said g.D.Disk.faults Multi g.D.Disk.content c.args.config c.args.offers.now _ _ c.unclosed.result.posted c.unclosed.result.end e.posted e.end e.logs

pub offer_all-requires-clause-new : goal.offer_all-requires-clause-new
offer_all-requires-clause-new g c κs within k d l = sitting.proposing_new g.D.Disk.faults c.args.config c.args.seated.wire c.args.seated.jobs.items c.args.seated.proposers.items c.requires.seated k d l

pub returns-in_default-offer_all-clause-run : goal.returns-in_default-offer_all-clause-run
returns-in_default-offer_all-clause-run g c = let e = c.unclosed-in_default-offer_all.ensures in
    nothing_said g.D.Disk.faults Multi g.D.Disk.content c.args.config c.args.offers.now _ _ c.unclosed-in_default-offer_all.result.posted c.unclosed-in_default-offer_all.result.end e.posted e.end e.logs

pub work-worked-requires-clause-new : goal.work-worked-requires-clause-new
work-worked-requires-clause-new g c κs within k d l = sitting.jobs_new g.D.Disk.faults c.args.config c.args.seated.wire c.args.seated.jobs.items c.args.seated.proposers.items c.requires.seated k d l

pub work-worked-requires-clause-at : goal.work-worked-requires-clause-at
work-worked-requires-clause-at g c κs within = sitting.leader_within g.D.Disk.faults c.args.config c.args.seated.wire c.args.seated.jobs.items c.args.seated.proposers.items c.requires.seated (let k = c.know.ensures.coordinators in omega arith)

pub work-worked-requires-clause-leads : goal.work-worked-requires-clause-leads
work-worked-requires-clause-leads g c κs within d = sitting.leads g.D.Disk.faults c.args.config c.args.seated.wire c.args.seated.jobs.items c.args.seated.proposers.items c.requires.seated (let k = c.know.ensures.coordinators in omega arith) d

pub work-worked-requires-clause-caller : goal.work-worked-requires-clause-caller
work-worked-requires-clause-caller g c κs within =
    let some : 0 < c.args.config.coordinators = let k = c.know.ensures.coordinators in omega arith in record {
      config_is = ap (λ x. x.config) c.in-Ok.ensures.made;
      node_is = refl;
      job_config = λ d. (sitting.jobs_new g.D.Disk.faults c.args.config c.args.seated.wire c.args.seated.jobs.items c.args.seated.proposers.items c.requires.seated c.args.config.acceptors d (sitting.leader_within g.D.Disk.faults c.args.config c.args.seated.wire c.args.seated.jobs.items c.args.seated.proposers.items c.requires.seated some)).own.config ∙ c.requires.seated.rules;
      job_node = sitting.leads g.D.Disk.faults c.args.config c.args.seated.wire c.args.seated.jobs.items c.args.seated.proposers.items c.requires.seated some;
      knows_all = λ d. c.in-Ok.ensures.knows _;
    }

pub close_run-requires-clause-run : goal.close_run-requires-clause-run
close_run-requires-clause-run g c =
    let offers = c.in-Ok-offer_all.ensures in
    let rests : c.work-worked.result.end ≡ None → RestsAfter IsCalled g.D.Disk.faults c.args.seated.wire c.args.config.acceptors (total (process_of g.D.Disk.faults) 0 c.in-Ok-offer_all.offered.items) c.work-worked.new.caller.calls c.args.seated.jobs.items c.work-worked.result.jobs.items
    = λ none. subst (λ (js : List (Job (CellState g.row.D.Denot))). RestsAfter IsCalled g.D.Disk.faults c.args.seated.wire c.args.config.acceptors (total (process_of g.D.Disk.faults) 0 js) c.work-worked.new.caller.calls c.args.seated.jobs.items c.work-worked.result.jobs.items) c.deref.ensures.value (c.work-worked.ensures.quiet none) in
    let run = carried_run Multi g.D.Disk.content g.D.Disk.faults c.args.config c.args.seated.wire c.args.offers.now c.args.seated.jobs.items c.args.seated.proposers.items c.work-worked.result.jobs.items c.in-Ok-offer_all.offered.items c.requires.seated c.work-worked.ensures.size c.work-worked.ensures.carried offers.size offers.offered offers.worked
    c.work-worked.result.end (let k = c.know.ensures.acceptors in omega arith) c.work-worked.new.caller.calls rests c.requires.known c.work-worked.ensures.decided in
    record {
      policy = Multi;
      offers = c.args.offers.now;
      jobs = c.args.seated.jobs.items;
      proposing = c.args.seated.proposers.items;
      run = run;
      many = ap length c.as_slice-commands.ensures;
      fits = c.requires.logs_room;
    }

pub returns-clause-run : goal.returns-clause-run
returns-clause-run g c =
    let offers = c.in-Ok-offer_all.ensures in
    let rests : c.work-worked.result.end ≡ None → RestsAfter IsCalled g.D.Disk.faults c.args.seated.wire c.args.config.acceptors (total (process_of g.D.Disk.faults) 0 c.in-Ok-offer_all.offered.items) c.work-worked.new.caller.calls c.args.seated.jobs.items c.work-worked.result.jobs.items
    = λ none. subst (λ (js : List (Job (CellState g.row.D.Denot))). RestsAfter IsCalled g.D.Disk.faults c.args.seated.wire c.args.config.acceptors (total (process_of g.D.Disk.faults) 0 js) c.work-worked.new.caller.calls c.args.seated.jobs.items c.work-worked.result.jobs.items) c.deref.ensures.value (c.work-worked.ensures.quiet none) in
    let run = carried_run Multi g.D.Disk.content g.D.Disk.faults c.args.config c.args.seated.wire c.args.offers.now c.args.seated.jobs.items c.args.seated.proposers.items c.work-worked.result.jobs.items c.in-Ok-offer_all.offered.items c.requires.seated c.work-worked.ensures.size c.work-worked.ensures.carried offers.size offers.offered offers.worked
    c.work-worked.result.end (let k = c.know.ensures.acceptors in omega arith) c.work-worked.new.caller.calls rests c.requires.known c.work-worked.ensures.decided in
    c.close_run.ensures.run Multi c.args.offers.now c.args.seated.jobs.items c.args.seated.proposers.items (ap length c.as_slice-commands.ensures) run

pub unclosed-requires-clause-cells_room : goal.unclosed-requires-clause-cells_room
unclosed-requires-clause-cells_room g c = (c.requires.cells_room.0, let most = c.requires.cells_room.1 in omega (arith, most))

pub unclosed-requires-clause-logs_room : goal.unclosed-requires-clause-logs_room
unclosed-requires-clause-logs_room g c = c.requires.logs_room

pub returns-in_default-clause-topics : goal.returns-in_default-clause-topics
returns-in_default-clause-topics g c = refl

pub offer_all-requires-clause-nodes : goal.offer_all-requires-clause-nodes
offer_all-requires-clause-nodes g c κs within = sitting.proposing_nodes g.D.Disk.faults c.args.config c.args.seated.wire c.args.seated.jobs.items c.args.seated.proposers.items c.requires.seated

pub offer_all-requires-clause-few : goal.offer_all-requires-clause-few
offer_all-requires-clause-few g c κs within = c.requires.few

pub offer_all-requires-clause-known : goal.offer_all-requires-clause-known
offer_all-requires-clause-known g c κs within = c.requires.known

pub unclosed-requires-in_default-offer_all-clause-cells_room : goal.unclosed-requires-in_default-offer_all-clause-cells_room
unclosed-requires-in_default-offer_all-clause-cells_room g c = (c.requires.cells_room.0, let most = c.requires.cells_room.1 in omega (arith, most))

pub unclosed-requires-in_default-offer_all-clause-logs_room : goal.unclosed-requires-in_default-offer_all-clause-logs_room
unclosed-requires-in_default-offer_all-clause-logs_room g c = c.requires.logs_room

pub returns-in_default-offer_all-clause-topics : goal.returns-in_default-offer_all-clause-topics
returns-in_default-offer_all-clause-topics g c = refl

pub work-worked-requires-clause-config : goal.work-worked-requires-clause-config
work-worked-requires-clause-config g c κs within = c.requires.seated.rules

pub work-worked-requires-clause-none : goal.work-worked-requires-clause-none
work-worked-requires-clause-none g c κs within = ap (λ x. x.calls) c.in-Ok.ensures.made

pub close_run-requires-clause-cells_room : goal.close_run-requires-clause-cells_room
close_run-requires-clause-cells_room g c =
    let most = c.requires.cells_room.1 in
    let size = c.work-worked.ensures.size in
    let offered = c.in-Ok-offer_all.ensures.size in
    (c.requires.cells_room.0, omega (arith, most, size, offered))

pub returns-clause-topics : goal.returns-clause-topics
returns-clause-topics g c = c.work-worked.ensures.topics
