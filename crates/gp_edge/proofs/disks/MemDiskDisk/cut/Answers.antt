use Rattle.std.proofs.Common.{◌≡◌, rules}
use Rattle.gp_edge.specs.declared.call.Call.TheVariants as call
use Rattle.gp_edge.specs.Records.{noted}
use Rattle.gp_edge.proofs.DiskSteps.{passes}
use Rattle.gp_edge.proofs.disks.MemDiskDisk.cut.Goals as goal

pub returns-clause-time : goal.returns-clause-time
returns-clause-time c =
    let one : c.cut.new.self ≡ noted (call.Cut c.args.len) c.args.self.now.disk = search rules in
    passes c.args.self.now.disk c.cut.new.self (call.Cut c.args.len) one
