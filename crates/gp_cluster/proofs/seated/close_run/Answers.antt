use Rattle.std.proofs.Common.{◌≡◌, List, ◌++◌, length, sym, ap, ◌∙◌, subst, arith}
use Rattle.gp_vlog.specs.Logs.{LogState}
use Rattle.gp_cell.specs.Cells.{CellState}
use Rattle.std.proofs.lemmas.List.{length-map}
use Rattle.gp_ending.specs.Ended.{cell_in, cells_of}
use Rattle.gp_shelf.specs.Lists.{HasRoomFor}
use Rattle.gp_stage.specs.Held.{AreUp}
use Rattle.gp_cluster.specs.Cells.{AreCellsAt, logs_of}
use Rattle.gp_cluster.specs.Closing.{Leaves}
use Rattle.gp_cluster.proofs.Going.{logs_go}
use Rattle.gp_cluster.proofs.Sitting as sitting
use Rattle.gp_cluster.proofs.Outcome as outcome
use Rattle.gp_cluster.proofs.Finishing as finishing
use Rattle.gp_cluster.proofs.Carried.{up_at_end, left_early}
use Rattle.gp_cluster.proofs.Left.{as_many_logs}
use Rattle.gp_cluster.proofs.seated.close_run.Goals as goal

pub take_cells-requires : goal.take_cells-requires
take_cells-requires g c = let room = c.requires.cells_room in let most = room.1 in let none = ap length room.0 in omega arith

pub conclude-requires-clause-config : goal.conclude-requires-clause-config
conclude-requires-clause-config g c = sym c.requires.run.run.seated.rules

pub conclude-requires-clause-nodes : goal.conclude-requires-clause-nodes
conclude-requires-clause-nodes g c n = sitting.are_all g.D.Disk.faults c.args.config c.args.wire c.requires.run.jobs c.requires.run.proposing c.requires.run.run.seated n

pub conclude-requires-clause-distinct : goal.conclude-requires-clause-distinct
conclude-requires-clause-distinct g c = sitting.distinct g.D.Disk.faults c.args.config c.args.wire c.requires.run.jobs c.requires.run.proposing c.requires.run.run.seated

pub conclude-requires-clause-cells : goal.conclude-requires-clause-cells
conclude-requires-clause-cells g c =
    let cells : c.take_cells-2.new.cells.items ≡ cells_of c.args.worked.jobs.items ++ cells_of c.args.proposers.items
    = c.take_cells-2.ensures.cells ∙ ap (λ (l : List (CellState g.row.D.Denot)). l ++ cells_of c.args.proposers.items) (c.take_cells.ensures.cells ∙ ap (λ (l : List (CellState g.row.D.Denot)). l ++ cells_of c.args.worked.jobs.items) c.requires.cells_room.0) in
    subst (AreCellsAt c.args.wire) (sym cells) (outcome.are_at g.D.Disk.content g.D.Disk.faults c.args.config c.args.wire c.requires.run.offers c.requires.run.jobs c.requires.run.proposing c.args.worked.jobs.items c.args.proposers.items c.requires.run.run.seated c.requires.run.run.size c.requires.run.run.carried c.requires.run.run.as_many c.requires.run.run.has c.take_cells.ensures.known c.take_cells-2.ensures.known)

pub conclude-requires-clause-up : goal.conclude-requires-clause-up
conclude-requires-clause-up g c none =
    let cells : c.take_cells-2.new.cells.items ≡ cells_of c.args.worked.jobs.items ++ cells_of c.args.proposers.items
    = c.take_cells-2.ensures.cells ∙ ap (λ (l : List (CellState g.row.D.Denot)). l ++ cells_of c.args.proposers.items) (c.take_cells.ensures.cells ∙ ap (λ (l : List (CellState g.row.D.Denot)). l ++ cells_of c.args.worked.jobs.items) c.requires.cells_room.0) in
    subst AreUp (sym cells) (up_at_end g.D.Disk.content g.D.Disk.faults c.requires.run.policy c.args.config c.args.wire c.requires.run.offers c.requires.run.jobs c.requires.run.proposing c.args.worked.jobs.items c.args.proposers.items c.args.worked.end c.requires.run.run none)

pub conclude-requires-clause-room : goal.conclude-requires-clause-room
conclude-requires-clause-room g c =
    let cells : c.take_cells-2.new.cells.items ≡ cells_of c.args.worked.jobs.items ++ cells_of c.args.proposers.items
    = c.take_cells-2.ensures.cells ∙ ap (λ (l : List (CellState g.row.D.Denot)). l ++ cells_of c.args.proposers.items) (c.take_cells.ensures.cells ∙ ap (λ (l : List (CellState g.row.D.Denot)). l ++ cells_of c.args.worked.jobs.items) c.requires.cells_room.0) in
    let goes = outcome.go g.D.Disk.content g.D.Disk.faults c.args.config c.args.wire c.requires.run.offers c.requires.run.jobs c.requires.run.proposing c.args.worked.jobs.items c.args.proposers.items c.requires.run.run.seated c.requires.run.run.size c.requires.run.run.carried c.requires.run.run.as_many c.requires.run.run.has c.take_cells.ensures.known c.take_cells-2.ensures.known in
    let first = outcome.logs_before g.D.Disk.content g.D.Disk.faults c.args.config c.args.wire c.requires.run.offers c.requires.run.jobs c.requires.run.proposing c.args.worked.jobs.items c.args.proposers.items c.requires.run.run.seated c.requires.run.run.size c.requires.run.run.carried c.requires.run.run.as_many c.requires.run.run.has c.take_cells.ensures.known c.take_cells-2.ensures.known in
    subst (λ (cs : List (CellState g.row.D.Denot)). HasRoomFor (length (logs_of cs)) c.args.room.logs) (sym cells)
    (as_many_logs g.D.Disk.faults _ _ c.args.room.logs (logs_go g.D.Disk.faults _ _ goes) (subst (λ (ls : List (LogState g.row.D.Denot)). HasRoomFor (length ls) c.args.room.logs) (sym first) c.requires.run.fits))

pub returns-clause-run : goal.returns-clause-run
returns-clause-run g c policy offers jobs proposing many run =
    let cells : c.take_cells-2.new.cells.items ≡ cells_of c.args.worked.jobs.items ++ cells_of c.args.proposers.items
    = c.take_cells-2.ensures.cells ∙ ap (λ (l : List (CellState g.row.D.Denot)). l ++ cells_of c.args.proposers.items) (c.take_cells.ensures.cells ∙ ap (λ (l : List (CellState g.row.D.Denot)). l ++ cells_of c.args.worked.jobs.items) c.requires.cells_room.0) in
    finishing.runs_from policy g.D.Disk.faults g.D.Disk.content g.D.Disk.image c.args.config c.args.wire offers jobs proposing c.args.worked.jobs.items c.args.proposers.items run.seated run.size run.carried run.as_many run.has c.take_cells.ensures.known c.take_cells-2.ensures.known
    c.args.worked.end run.decided run.known (let k = c.know.ensures.acceptors in omega arith) run.quiet
    (up_at_end g.D.Disk.content g.D.Disk.faults policy c.args.config c.args.wire offers jobs proposing c.args.worked.jobs.items c.args.proposers.items c.args.worked.end run) c.conclude.result.end c.conclude.result.posted c.conclude.result.logs.items
    (subst (λ (cs : List (CellState g.row.D.Denot)). Leaves g.D.Disk.faults c.args.config (length offers) cs c.args.worked.end c.conclude.result.end c.conclude.result.posted c.conclude.result.logs.items) cells
    (subst (λ n. Leaves g.D.Disk.faults c.args.config n c.take_cells-2.new.cells.items c.args.worked.end c.conclude.result.end c.conclude.result.posted c.conclude.result.logs.items) many c.conclude.ensures.left))
    c.conclude.ensures.ready

pub returns-clause-early : goal.returns-clause-early
returns-clause-early g c learned =
    left_early g.D.Disk.faults c.args.config c.args.commands c.take_cells-2.new.cells.items c.args.worked.jobs.items c.args.worked.end c.conclude.result.end c.conclude.result.posted c.conclude.result.logs.items c.requires.run.run.decided c.conclude.ensures.left learned

pub take_cells-requires-2 : goal.take_cells-requires-2
take_cells-requires-2 g c =
    let room = c.requires.cells_room in
    let most = room.1 in
    let same = c.take_cells.ensures.room in
    let size : length c.take_cells.new.cells.items ≡ length c.args.worked.jobs.items = ap length (c.take_cells.ensures.cells ∙ ap (λ (l : List (CellState g.row.D.Denot)). l ++ cells_of c.args.worked.jobs.items) room.0) ∙ length-map c.args.worked.jobs.items cell_in in
    omega (arith, most, same, size)
