use Rattle.std.proofs.Common.{◌≡◌, rules}
use Rattle.gp_edge.specs.declared.call.Call.TheVariants as call
use Rattle.gp_edge.specs.Records.{noted}
use Rattle.gp_edge.proofs.DiskSteps.{passes}
use Rattle.gp_edge.proofs.disks.CalmDiskDisk.write_at.Goals as goal

pub returns-clause-time : goal.returns-clause-time
returns-clause-time c =
    let one : c.write_at.new.self ≡ noted (call.Write c.args.at c.args.from.now) c.args.self.now = search rules in
    passes c.args.self.now c.write_at.new.self (call.Write c.args.at c.args.from.now) one
