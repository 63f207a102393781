use Rattle.std.proofs.Common.{◌≡◌, ◌≤◌, ℕ, Some, List, map, length, sym, ap, ◌∙◌, subst, vec_capacity}
use Rattle.std.specs.Prelude.{IfSome, slice_get}
use Rattle.std.specs.List.{All}
use Rattle.std.proofs.lemmas.Slice.Zip.{AllZip-long}
use Rattle.gp_msg.specs.declared.record.Record.{Record}
use Rattle.gp_wire.specs.Ends.{Closed}
use Rattle.gp_cell.specs.Lawful.{paxos_legal}
use Rattle.gp_cell.specs.Cells.{CellState, pass_of}
use Rattle.gp_cell.specs.Working.{IsAt}
use Rattle.gp_ending.proofs.Indexing.{each_of, get_each}
use Rattle.gp_stage.specs.Held.{whole_list}
use Rattle.gp_stage.specs.Kept.{AreHeld}
use Rattle.gp_cluster.specs.Cells.{IsKnownCell, LogGoes, logs_of}
use Rattle.gp_cluster.specs.Closing.{IsClosedBy, EndsAs}
use Rattle.gp_cluster.proofs.Going.{logs_go}
use Rattle.gp_cluster.proofs.Standing.{are_ready, are_cells_of}
use Rattle.gp_cluster.proofs.Settled.{go_same}
use Rattle.gp_cluster.proofs.Leaving.{left_open, goes_on, left_settled}
use Rattle.gp_cluster.proofs.settling.settle_and_close.Goals as goal

pub new-requires-clause-ready : goal.new-requires-clause-ready
new-requires-clause-ready g c = are_ready c.args.wire c.args.cells.items c.requires.cells c.requires.up

pub new-requires-clause-all : goal.new-requires-clause-all
new-requires-clause-all g c = are_cells_of c.args.wire c.args.cells.items c.requires.cells c.requires.distinct

pub leave-requires : goal.leave-requires
leave-requires g c =
    let goes = go_same g.D.Disk.faults c.args.cells.items c.in-Err.field-0.cells.items c.in-Err.ensures.back.1 in
    let long = AllZip-long (LogGoes g.D.Disk.faults) _ _ (logs_go g.D.Disk.faults c.args.cells.items c.in-Err.field-0.cells.items goes) in
    (c.requires.room.0, subst (λ n. n ≤ vec_capacity c.args.room) (sym long) c.requires.room.1)

pub returns-in-Err-clause-left : goal.returns-in-Err-clause-left
returns-in-Err-clause-left g c commands lacking =
    let goes = go_same g.D.Disk.faults c.args.cells.items c.in-Err.field-0.cells.items c.in-Err.ensures.back.1 in
    left_open g.D.Disk.faults c.args.config commands c.args.cells.items c.in-Err.field-0.cells.items c.leave.result.end c.leave.result.posted c.leave.result.logs.items goes c.leave.ensures.known c.leave.ensures.posted c.leave.ensures.end c.leave.ensures.logs

pub close-requires-clause-room : goal.close-requires-clause-room
close-requires-clause-room g c =
    let old = c.in-Ok.stage in let new = c.settle_cells.new.stage in let e = c.in-Ok.ensures in let s = c.settle_cells.ensures in let p = c.into_parts-wire.ensures in
    let wire = c.into_parts-wire.result.0 in
    let configs : (i : ℕ) (x : CellState g.row.D.Denot) → slice_get c.args.cells.items i ≡ Some x → x.config ≡ c.args.config = λ i x is. (get_each (λ y. IsAt y c.args.wire) c.args.cells.items (each_of (λ y. IsAt y c.args.wire) c.args.cells.items c.requires.cells.own) i x is).config ∙ sym c.requires.config in
    let held : AreHeld wire new.config new.cells new.holder = subst (λ (cs : List (CellState g.row.D.Denot)). AreHeld wire new.config cs new.holder) p.cells p.held in
    let closed = subst (λ (cs : List (CellState g.row.D.Denot)). (out : List Record) → Closed (paxos_legal wire.rules.config) wire.nodes (map pass_of cs) out → out ≡ whole_list new) p.cells p.closed in
    let goes = goes_on g.D.Disk.faults c.args.config 0 c.args.cells.items wire old new c.settle_cells.result e.about.0 configs e.cells e.lists e.legal s.driven s.goes s.failed s.brings held closed in
    let long = AllZip-long (LogGoes g.D.Disk.faults) _ _ (logs_go g.D.Disk.faults c.args.cells.items new.cells goes) in
    (c.requires.room.0, subst (λ (cs : List (CellState g.row.D.Denot)). length (logs_of cs) ≤ vec_capacity c.args.room) (sym p.cells) (subst (λ n. n ≤ vec_capacity c.args.room) (sym long) c.requires.room.1))

pub returns-clause-left : goal.returns-clause-left
returns-clause-left g c commands lacking =
    let old = c.in-Ok.stage in let new = c.settle_cells.new.stage in let e = c.in-Ok.ensures in let s = c.settle_cells.ensures in let p = c.into_parts-wire.ensures in
    let wire = c.into_parts-wire.result.0 in
    let configs : (i : ℕ) (x : CellState g.row.D.Denot) → slice_get c.args.cells.items i ≡ Some x → x.config ≡ c.args.config = λ i x is. (get_each (λ y. IsAt y c.args.wire) c.args.cells.items (each_of (λ y. IsAt y c.args.wire) c.args.cells.items c.requires.cells.own) i x is).config ∙ sym c.requires.config in
    let held : AreHeld wire new.config new.cells new.holder = subst (λ (cs : List (CellState g.row.D.Denot)). AreHeld wire new.config cs new.holder) p.cells p.held in
    let closed = subst (λ (cs : List (CellState g.row.D.Denot)). (out : List Record) → Closed (paxos_legal wire.rules.config) wire.nodes (map pass_of cs) out → out ≡ whole_list new) p.cells p.closed in
    left_settled g.D.Disk.faults c.args.config commands c.args.cells.items wire old new c.settle_cells.result e.about.0 configs e.cells e.lists e.legal s.driven s.goes s.failed s.brings held closed
    c.close.result.end c.close.result.posted c.close.result.logs.items
    (subst (λ (cs : List (CellState g.row.D.Denot)). IfSome c.close.result.posted (IsClosedBy wire cs)) p.cells c.close.ensures.posted)
    (subst (λ x. EndsAs x c.close.result.posted c.close.result.end) c.end_of-end.ensures c.close.ensures.end)
    (c.close.ensures.logs ∙ ap logs_of p.cells)
    (subst (λ (cs : List (CellState g.row.D.Denot)). All IsKnownCell cs) p.cells c.close.ensures.known)
    lacking
