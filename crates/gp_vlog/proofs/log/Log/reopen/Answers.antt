use Rattle.std.proofs.Common.{refl, sym, arith}
use Rattle.std.proofs.lemmas.Bool.{eqb-true}
use Rattle.gp_vlog.specs.Logs.{log_entries}
use Rattle.gp_vlog.proofs.Standing.{IsSized}
use Rattle.gp_vlog.proofs.Openings.{stored_again, keeps_stored, shows}
use Rattle.gp_vlog.proofs.log.Log.reopen.Goals as goal

pub invariant_of-self-2 : goal.invariant_of-self-2
invariant_of-self-2 g c =
    let i = c.self.inside in
    let k = c.self.invariant in
    let f = c.in_ok-found.found in
    let sized : IsSized i.limit = record { low = k.low; high = k.high } in
    let same = eqb-true i.limit f.limit c.in_ok-found.ensures.limit in
    let room = c.in_ok-found.ensures.room in
    let low = k.low in
    let fits = room (omega (arith, same, low)) in
    let stored = stored_again g.D.Disk.content g.D.Disk.image c.load.new.disk i.limit sized f.limit f.second (log_entries f.first_version f.entries.items) f.closed (sym same) c.in_ok-found.ensures.found in
    keeps_stored g.D.Disk.content g.D.Disk.image c.load.new.disk i.limit sized f.second f.first_version f.entries.items f.closed (omega (arith, same, fits)) c.in_ok-found.ensures.some stored

pub returns-clause-ready : goal.returns-clause-ready
returns-clause-ready g c =
    let i = c.self.inside in
    let k = c.self.invariant in
    let f = c.in_ok-found.found in
    let sized : IsSized i.limit = record { low = k.low; high = k.high } in
    let same = eqb-true i.limit f.limit c.in_ok-found.ensures.limit in
    let stored = stored_again g.D.Disk.content g.D.Disk.image c.load.new.disk i.limit sized f.limit f.second (log_entries f.first_version f.entries.items) f.closed (sym same) c.in_ok-found.ensures.found in
    (refl, shows g.D.Disk.content g.D.Disk.image c.load.new.disk i.limit sized f.second (log_entries f.first_version f.entries.items) f.closed stored)
