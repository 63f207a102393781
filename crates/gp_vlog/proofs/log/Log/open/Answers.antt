use Rattle.std.proofs.Common.{refl, arith}
use Rattle.gp_vlog.specs.Logs.{log_entries}
use Rattle.gp_vlog.proofs.Openings.{sized_in_range, keeps_stored, shows}
use Rattle.gp_vlog.proofs.log.Log.open.Goals as goal

pub invariant_of-result : goal.invariant_of-result
invariant_of-result g c =
    let f = c.in-Ok.found in
    let sized = sized_in_range f.limit c.in-Ok.ensures.limit in
    let low = sized.low in
    keeps_stored g.D.Disk.content g.D.Disk.image c.load.new.disk f.limit sized f.second f.first_version f.entries.items f.closed (c.in-Ok.ensures.room (omega (arith, low))) c.in-Ok.ensures.some c.in-Ok.ensures.found

pub returns-in-Ok-clause-ready : goal.returns-in-Ok-clause-ready
returns-in-Ok-clause-ready g c =
    let f = c.in-Ok.found in
    let sized = sized_in_range f.limit c.in-Ok.ensures.limit in
    (refl, shows g.D.Disk.content g.D.Disk.image c.load.new.disk f.limit sized f.second (log_entries f.first_version f.entries.items) f.closed c.in-Ok.ensures.found)
