use Rattle.std.proofs.Common.{get_or, arith}
use Rattle.std.proofs.lemmas.Option.{slice_get-get_or}
use Rattle.gp_stage.proofs.Acting.{own_wire, own_config, own_holds, own_up, own_fits, own_room, has_played}
use Rattle.gp_stage.proofs.playing.play_at.Goals as goal

pub step-requires-clause-own : goal.step-requires-clause-own
step-requires-clause-own g c =
    let mid = c.take_over.new.cells in let e = c.take_over.ensures in let here = c.requires.here in let long = e.long in
    own_wire c.args.wire.now c.args.cells.now mid c.args.holder c.args.at c.args.mv e.taken c.requires.can (get_or mid c.args.at c.index-cells-at.result)
    (slice_get-get_or mid c.args.at c.index-cells-at.result (omega (arith, here, long)))

pub step-requires-clause-config : goal.step-requires-clause-config
step-requires-clause-config g c =
    let mid = c.take_over.new.cells in let e = c.take_over.ensures in let here = c.requires.here in let long = e.long in
    own_config c.args.wire.now c.args.cells.now mid c.args.holder c.args.at c.args.mv e.taken c.requires.can (get_or mid c.args.at c.index-cells-at.result)
    (slice_get-get_or mid c.args.at c.index-cells-at.result (omega (arith, here, long)))

pub step-requires-clause-holds : goal.step-requires-clause-holds
step-requires-clause-holds g c =
    let mid = c.take_over.new.cells in let e = c.take_over.ensures in let here = c.requires.here in let long = e.long in
    own_holds c.args.wire.now c.args.cells.now mid c.args.holder c.args.at c.args.mv e.taken c.requires.can (get_or mid c.args.at c.index-cells-at.result)
    (slice_get-get_or mid c.args.at c.index-cells-at.result (omega (arith, here, long)))

pub step-requires-clause-up : goal.step-requires-clause-up
step-requires-clause-up g c =
    let mid = c.take_over.new.cells in let e = c.take_over.ensures in let here = c.requires.here in let long = e.long in
    own_up c.args.wire.now c.args.cells.now mid c.args.holder c.args.at c.args.mv e.taken c.requires.can (get_or mid c.args.at c.index-cells-at.result)
    (slice_get-get_or mid c.args.at c.index-cells-at.result (omega (arith, here, long)))

pub step-requires-clause-fits : goal.step-requires-clause-fits
step-requires-clause-fits g c =
    let mid = c.take_over.new.cells in let e = c.take_over.ensures in let here = c.requires.here in let long = e.long in
    own_fits c.args.wire.now c.args.cells.now mid c.args.holder c.args.at c.args.mv e.taken c.requires.can (get_or mid c.args.at c.index-cells-at.result)
    (slice_get-get_or mid c.args.at c.index-cells-at.result (omega (arith, here, long)))

pub step-requires-clause-room : goal.step-requires-clause-room
step-requires-clause-room g c =
    let mid = c.take_over.new.cells in let e = c.take_over.ensures in let here = c.requires.here in let long = e.long in
    own_room c.args.wire.now c.args.cells.now mid c.args.holder c.args.at c.args.mv e.taken c.requires.can (get_or mid c.args.at c.index-cells-at.result)
    (slice_get-get_or mid c.args.at c.index-cells-at.result (omega (arith, here, long))) c.requires.room

pub returns : goal.returns
returns g c =
    let mid = c.take_over.new.cells in let e = c.take_over.ensures in let here = c.requires.here in let long = e.long in let s = c.step.ensures in
    has_played c.args.wire.now c.args.cells.now mid c.args.holder c.args.at c.args.mv e.taken c.requires.can (get_or mid c.args.at c.index-cells-at.result)
    (slice_get-get_or mid c.args.at c.index-cells-at.result (omega (arith, here, long))) g.D.Disk.faults c.step.new.self c.step.result
    (record { same = s.same; goes = s.goes; whole = s.whole; posted = s.posted; count = s.count; up = s.up; cause = s.cause; counts = s.faults; limit = s.limit })
