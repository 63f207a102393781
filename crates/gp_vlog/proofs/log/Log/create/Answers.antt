use Rattle.std.proofs.Common.{false, refl, arith}
use Rattle.gp_vlog.proofs.Standing.{IsSized}
use Rattle.gp_vlog.proofs.Openings.{stored_new, keeps_stored, shows}
use Rattle.gp_vlog.proofs.log.Log.create.Goals as goal

pub invariant_of-result : goal.invariant_of-result
invariant_of-result g c =
    let sized : IsSized c.args.limit = record { low = c.requires.low; high = c.requires.high } in
    let stored = stored_new g.D.Disk.content g.D.Disk.image c.begin.new.disk c.args.limit sized c.new.result.items c.new.ensures.items c.in-Ok.ensures.begun in
    let low = c.requires.low in
    keeps_stored g.D.Disk.content g.D.Disk.image c.begin.new.disk c.args.limit sized false false c.new.result.items 0 (omega arith) (λ t. absurd cc) stored

pub returns-in-Ok-clause-ready : goal.returns-in-Ok-clause-ready
returns-in-Ok-clause-ready g c =
    let sized : IsSized c.args.limit = record { low = c.requires.low; high = c.requires.high } in
    let stored = stored_new g.D.Disk.content g.D.Disk.image c.begin.new.disk c.args.limit sized c.new.result.items c.new.ensures.items c.in-Ok.ensures.begun in
    (refl, shows g.D.Disk.content g.D.Disk.image c.begin.new.disk c.args.limit sized _ _ 0 stored)
