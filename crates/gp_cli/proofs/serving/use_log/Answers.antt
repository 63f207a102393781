use Rattle.std.proofs.Common.{◌≤◌, length, refl, ap, ◌∙◌}
use Rattle.std.specs.List.{insert}
use Rattle.std.proofs.Math.Nat.{le_refl}
use Rattle.std.proofs.lemmas.Option.{slice_get_read}
use Rattle.gp_cli.specs.Logs.{KeepsLast}
use Rattle.gp_cli.proofs.LogCauses.{stays_as_before}
use Rattle.gp_cli.proofs.DiskLists.{all_but, each_disk, ends_there}
use Rattle.gp_cli.proofs.serving.use_log.Goals as goal

pub returns-clause-ends : goal.returns-clause-ends
returns-clause-ends g c =
    let is = c.put_back.ensures ∙ ap (λ ds. insert ds c.args.number c.use_disk-status.result.1) c.remove-disk.ensures.items in
    let at = slice_get_read c.args.disks.items (length c.args.disks.items) c.args.number c.remove-disk.result refl c.requires.within c.remove-disk.ensures.value in
    ends_there g.D.Disk.content g.D.Disk.faults c.args.upgrades c.args.disks.items c.put_back.new.disks.items c.args.number c.remove-disk.result c.use_disk-status.result.1 _ _ _ _ c.requires.within at is c.use_disk-status.ensures.ends c.new.ensures

pub returns-clause-others : goal.returns-clause-others
returns-clause-others g c =
    let is = c.put_back.ensures ∙ ap (λ ds. insert ds c.args.number c.use_disk-status.result.1) c.remove-disk.ensures.items in
    all_but c.args.disks.items c.put_back.new.disks.items c.args.number c.use_disk-status.result.1 c.requires.within is

pub returns-clause-crash : goal.returns-clause-crash
returns-clause-crash g c =
    let is = c.put_back.ensures ∙ ap (λ ds. insert ds c.args.number c.use_disk-status.result.1) c.remove-disk.ensures.items in
    let at = slice_get_read c.args.disks.items (length c.args.disks.items) c.args.number c.remove-disk.result refl c.requires.within c.remove-disk.ensures.value in
    each_disk (KeepsLast g.D.Disk.content g.D.Disk.image g.D.Disk.moment g.D.Disk.since) c.args.disks.items c.put_back.new.disks.items c.args.number c.remove-disk.result c.use_disk-status.result.1 c.requires.within at is c.use_disk-status.ensures.crash
    (λ d. stays_as_before g.D.Disk.content g.D.Disk.image g.D.Disk.moment g.D.Disk.since d (g.met.D.Disk.only_now d))

pub returns-clause-disks_never_fall : goal.returns-clause-disks_never_fall
returns-clause-disks_never_fall g c =
    let is = c.put_back.ensures ∙ ap (λ ds. insert ds c.args.number c.use_disk-status.result.1) c.remove-disk.ensures.items in
    let at = slice_get_read c.args.disks.items (length c.args.disks.items) c.args.number c.remove-disk.result refl c.requires.within c.remove-disk.ensures.value in
    each_disk (λ was now. g.D.Disk.faults was ≤ g.D.Disk.faults now) c.args.disks.items c.put_back.new.disks.items c.args.number c.remove-disk.result c.use_disk-status.result.1 c.requires.within at is c.use_disk-status.ensures.disk_never_falls (λ d. le_refl (g.D.Disk.faults d))
