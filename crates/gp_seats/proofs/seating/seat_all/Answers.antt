use Rattle.std.proofs.Common.{map, [], List, All, sym, subst, ap, ◌∙◌}
use Rattle.gp_work.specs.declared.job.Job.{Job}
use Rattle.gp_cell.specs.Cells.{CellState}
use Rattle.gp_seats.specs.Nodes.{working_nodes, proposer_nodes}
use Rattle.gp_seats.specs.Offering.{node_in}
use Rattle.gp_seats.specs.Seats.{CanSit, IsNewJob, new_passes, seats}
use Rattle.gp_seats.proofs.Sitting.{working_sit, new_jobs, all_of_each}
use Rattle.gp_seats.proofs.seating.seat_all.Goals as goal

pub make_jobs-requires : goal.make_jobs-requires
make_jobs-requires g c = subst (λ ps. CanSit c.args.config ps c.args.logs.items) (sym c.in-Ok.ensures.passes) (working_sit g.row.D.Denot c.args.config c.in-Ok.wire c.args.logs.items c.requires.count c.requires.blank)

pub returns-in-Ok-make_jobs-clause-new : goal.returns-in-Ok-make_jobs-clause-new
returns-in-Ok-make_jobs-clause-new g c =
    let wire = c.in-Ok.wire in let config = c.args.config in let logs = c.args.logs.items in
    let are = c.in-Ok-make_jobs.ensures.made ∙ ap (λ ps. seats config ps logs) c.in-Ok.ensures.passes in
    subst (λ (js : List (Job (CellState g.row.D.Denot))). All (IsNewJob g.D.Disk.faults wire config) js) (sym are) (all_of_each (IsNewJob g.D.Disk.faults wire config) (seats config (new_passes wire (working_nodes config)) logs) (new_jobs g.D.Disk.faults wire config (working_nodes config) logs c.in-Ok.ensures.wire.0))

pub returns-in-Ok-make_jobs-clause-order : goal.returns-in-Ok-make_jobs-clause-order
returns-in-Ok-make_jobs-clause-order g c = ap (λ (js : List (Job (CellState g.row.D.Denot))). map node_in js) c.in-Ok.ensures.proposers

pub returns-in-Ok-make_jobs-clause-new_too : goal.returns-in-Ok-make_jobs-clause-new_too
returns-in-Ok-make_jobs-clause-new_too g c =
    let wire = c.in-Ok.wire in let config = c.args.config in
    subst (λ (js : List (Job (CellState g.row.D.Denot))). All (IsNewJob g.D.Disk.faults wire config) js) (sym c.in-Ok.ensures.proposers) (all_of_each (IsNewJob g.D.Disk.faults wire config) (seats config (new_passes wire proposer_nodes) []) (new_jobs g.D.Disk.faults wire config proposer_nodes [] c.in-Ok.ensures.wire.0))
