use Rattle.std.proofs.Common.{◌≡◌, ◌<◌, ◌^◌, sym, List, map, length, get_or, subst, ap, ◌∙◌, arith}
use Rattle.std.proofs.lemmas.List.{length-map}
use Rattle.std.specs.List.{All}
use Rattle.gp_work.specs.declared.job.Job.{Job}
use Rattle.gp_cell.specs.Cells.{CellState}
use Rattle.gp_node.specs.Phases.{IsWorkedJob}
use Rattle.gp_seats.specs.Offering.{given_to, IsDone}
use Rattle.gp_seats.proofs.Counted.{count_given, all_offered, total_offered}
use Rattle.gp_seats.proofs.offering.offer_all.Goals as goal

pub give_all-requires-clause-few : goal.give_all-requires-clause-few
give_all-requires-clause-few g c = subst (λ os. length os < 2 ^ 32) (sym c.as_slice.ensures) c.requires.few

pub returns-then-all_done-clause-size : goal.returns-then-all_done-clause-size
returns-then-all_done-clause-size g c =
    let given = c.in_ok-given.ensures.given ∙ ap (λ os. map (given_to os) c.args.proposers.items) c.as_slice.ensures in
    c.workers-jobs.ensures.same ∙ (count_given g.D.Disk.faults c.args.wire.now c.args.offers.now c.args.proposers.items c.in_ok-given.given.items c.requires.nodes given).0

pub returns-then-all_done-clause-offered : goal.returns-then-all_done-clause-offered
returns-then-all_done-clause-offered g c =
    let given = c.in_ok-given.ensures.given ∙ ap (λ os. map (given_to os) c.args.proposers.items) c.as_slice.ensures in
    let done = subst (λ (js : List (Job (CellState g.row.D.Denot))). All IsDone js) c.deref.ensures.value (c.all_done.ensures c.if-all_done.true) in
    all_offered g.D.Disk.faults c.args.wire.now c.args.offers.now g.D.Disk.content c.args.proposers.items c.in_ok-given.given.items c.workers-jobs.result.items c.requires.new c.requires.nodes given c.workers-jobs.ensures.same c.workers-jobs.ensures.each done

pub returns-then-all_done-clause-count : goal.returns-then-all_done-clause-count
returns-then-all_done-clause-count g c =
    let given = c.in_ok-given.ensures.given ∙ ap (λ os. map (given_to os) c.args.proposers.items) c.as_slice.ensures in
    let done = subst (λ (js : List (Job (CellState g.row.D.Denot))). All IsDone js) c.deref.ensures.value (c.all_done.ensures c.if-all_done.true) in
    let size = c.workers-jobs.ensures.same ∙ (count_given g.D.Disk.faults c.args.wire.now c.args.offers.now c.args.proposers.items c.in_ok-given.given.items c.requires.nodes given).0 in
    total_offered g.D.Disk.faults c.args.wire.now c.args.offers.now c.args.proposers.items c.workers-jobs.result.items size c.requires.new c.requires.nodes c.requires.known
    (all_offered g.D.Disk.faults c.args.wire.now c.args.offers.now g.D.Disk.content c.args.proposers.items c.in_ok-given.given.items c.workers-jobs.result.items c.requires.new c.requires.nodes given c.workers-jobs.ensures.same c.workers-jobs.ensures.each done)

pub returns-then-all_done-clause-worked : goal.returns-then-all_done-clause-worked
returns-then-all_done-clause-worked g c =
    let given : c.in_ok-given.given.items ≡ map (given_to c.args.offers.now) c.args.proposers.items = c.in_ok-given.ensures.given ∙ ap (λ os. map (given_to os) c.args.proposers.items) c.as_slice.ensures in
    let size : length c.in_ok-given.given.items ≡ length c.args.proposers.items = ap length given ∙ length-map c.args.proposers.items (given_to c.args.offers.now) in
    λ i d l. subst (λ (js : List (Job (CellState g.row.D.Denot))). IsWorkedJob g.D.Disk.content g.D.Disk.faults c.args.wire.now (get_or js i d) (get_or c.workers-jobs.result.items i d)) given (c.workers-jobs.ensures.each i d (omega (arith, l, size)))
