use Rattle.std.proofs.Common.{◌≡◌, rules}
use Rattle.gp_edge.specs.declared.call.Call.TheVariants as call
use Rattle.gp_edge.specs.Records.{noted}
use Rattle.gp_edge.proofs.DiskSteps.{passes, synced}
use Rattle.gp_edge.proofs.disks.MemDiskDisk.sync.Goals as goal

pub returns-clause-time : goal.returns-clause-time
returns-clause-time c =
    let one : c.sync.new.self ≡ noted call.Sync c.args.self.now.disk = search rules in
    passes c.args.self.now.disk c.sync.new.self call.Sync one

pub returns-clause-crash : goal.returns-clause-crash
returns-clause-crash c =
    let one : c.sync.new.self ≡ noted call.Sync c.args.self.now.disk = search rules in
    λ d image. synced c.args.self.now.disk c.sync.new.self one d image
