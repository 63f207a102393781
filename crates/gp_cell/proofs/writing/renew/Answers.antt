use Rattle.std.proofs.Common.{false, None, Err, inr, subst}
use Rattle.gp_msg.specs.Messages.{part_of}
use Rattle.gp_vlog.specs.Bodies.{need}
use Rattle.gp_vlog.specs.Causes.{IsFullWhere}
use Rattle.gp_vlog.specs.Logs.{LogState, StaysWhole, entry_for}
use Rattle.gp_cell.proofs.Counting.{counted, counted_as, renewed_leaves}
use Rattle.gp_cell.proofs.writing.renew.Goals as goal

pub returns-in-Ok-clause-fit : goal.returns-in-Ok-clause-fit
returns-in-Ok-clause-fit g c = (c.in-Ok.ensures.left, c.in-Ok.ensures.version)

pub returns-in-Ok-clause-entries : goal.returns-in-Ok-clause-entries
returns-in-Ok-clause-entries g c = c.in-Ok.ensures.renewed

pub returns-in-Ok-clause-full : goal.returns-in-Ok-clause-full
returns-in-Ok-clause-full g c = inr c.in-Ok.ensures.full

pub returns-in-Ok-clause-count : goal.returns-in-Ok-clause-count
returns-in-Ok-clause-count g c = counted c.in-Ok.ensures.cause (λ d. d) (λ d. d)

pub returns-in-Ok-clause-crash : goal.returns-in-Ok-clause-crash
returns-in-Ok-clause-crash g c =
    let d = g.D.Disk in let old : LogState g.row.D.Denot = c.args.log.now in let new : LogState g.row.D.Denot = c.renew.new.self in
    renewed_leaves d.content d.image d.moment d.since g.met.D.Disk.only_now old new (entry_for false c.args.part.now) c.requires.fit.1 c.in-Ok.ensures.any_moment

pub returns-in-Err-Full-clause-full : goal.returns-in-Err-Full-clause-full
returns-in-Err-Full-clause-full g c =
    let full = subst (λ f. IsFullWhere {T = Unit} c.args.log.now.limit 17 (need None (part_of c.args.part.now)) (Err f)) c.in-Err-Full.field-0-is c.in-Err-Full.ensures.full in
    let left = subst (λ f. StaysWhole {T = Unit} c.args.log.now c.renew.new.self (Err f)) c.in-Err-Full.field-0-is c.in-Err-Full.ensures.left in
    (left, full.0, record { no_more = c.requires.full; not_alone = full.2; needed_is = full.1 })

pub returns-in-Err-Full-clause-count : goal.returns-in-Err-Full-clause-count
returns-in-Err-Full-clause-count g c = counted_as c.in-Err-Full.ensures.cause c.in-Err-Full.field-0-is (λ d. d) (λ d. d)

pub returns-in-Err-Full-clause-crash : goal.returns-in-Err-Full-clause-crash
returns-in-Err-Full-clause-crash g c =
    let d = g.D.Disk in let old : LogState g.row.D.Denot = c.args.log.now in let new : LogState g.row.D.Denot = c.renew.new.self in
    renewed_leaves d.content d.image d.moment d.since g.met.D.Disk.only_now old new (entry_for false c.args.part.now) c.requires.fit.1 c.in-Err-Full.ensures.any_moment

pub returns-in-Err-Disk-clause-full : goal.returns-in-Err-Disk-clause-full
returns-in-Err-Disk-clause-full g c = let full = subst (λ f. IsFullWhere {T = Unit} c.args.log.now.limit 17 (need None (part_of c.args.part.now)) (Err f)) c.in-Err-Disk.field-0-is c.in-Err-Disk.ensures.full in inr full

pub returns-in-Err-Disk-clause-count : goal.returns-in-Err-Disk-clause-count
returns-in-Err-Disk-clause-count g c = counted_as c.in-Err-Disk.ensures.cause c.in-Err-Disk.field-0-is (λ d. d) (λ d. d)

pub returns-in-Err-Disk-clause-crash : goal.returns-in-Err-Disk-clause-crash
returns-in-Err-Disk-clause-crash g c =
    let d = g.D.Disk in let old : LogState g.row.D.Denot = c.args.log.now in let new : LogState g.row.D.Denot = c.renew.new.self in
    renewed_leaves d.content d.image d.moment d.since g.met.D.Disk.only_now old new (entry_for false c.args.part.now) c.requires.fit.1 c.in-Err-Disk.ensures.any_moment

pub returns-in-Err-NoMemory-clause-count : goal.returns-in-Err-NoMemory-clause-count
returns-in-Err-NoMemory-clause-count g c = counted_as c.in-Err-NoMemory.ensures.cause c.in-Err-NoMemory.field-0-is (λ d. d) (λ d. d)

pub returns-in-Err-NoMemory-clause-crash : goal.returns-in-Err-NoMemory-clause-crash
returns-in-Err-NoMemory-clause-crash g c =
    let d = g.D.Disk in let old : LogState g.row.D.Denot = c.args.log.now in let new : LogState g.row.D.Denot = c.renew.new.self in
    renewed_leaves d.content d.image d.moment d.since g.met.D.Disk.only_now old new (entry_for false c.args.part.now) c.requires.fit.1 c.in-Err-NoMemory.ensures.any_moment
