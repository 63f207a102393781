use Rattle.std.proofs.Common.{Bool, sym, subst}
use Rattle.gp_cli.specs.Outside.{device}
use Rattle.gp_cli.specs.Causes.{log_cause}
use Rattle.gp_cli.specs.Logs.{LogEnds}
use Rattle.gp_cli.proofs.logs.use_disk.Goals as goal

pub returns-then-upgrades-clause-ends : goal.returns-then-upgrades-clause-ends
returns-then-upgrades-clause-ends g c =
    let P : Bool → Type 0 = λ upgrades. LogEnds (log_cause upgrades c.args.number (device (g.D.Disk.content c.args.disk) (g.D.Disk.faults c.args.disk)) (device (g.D.Disk.content c.upgrade_log.result.1) (g.D.Disk.faults c.upgrade_log.result.1)))
    (device (g.K.Sink.written c.args.sink.now) (g.K.Sink.faults c.args.sink.now)) (device (g.K.Sink.written c.upgrade_log.new.sink) (g.K.Sink.faults c.upgrade_log.new.sink)) c.upgrade_log.result.0 in
    subst P (sym c.if-upgrades.true) c.upgrade_log.ensures.ends

pub returns-else-upgrades-clause-ends : goal.returns-else-upgrades-clause-ends
returns-else-upgrades-clause-ends g c =
    let P : Bool → Type 0 = λ upgrades. LogEnds (log_cause upgrades c.args.number (device (g.D.Disk.content c.args.disk) (g.D.Disk.faults c.args.disk)) (device (g.D.Disk.content c.show_log.result.1) (g.D.Disk.faults c.show_log.result.1)))
    (device (g.K.Sink.written c.args.sink.now) (g.K.Sink.faults c.args.sink.now)) (device (g.K.Sink.written c.show_log.new.sink) (g.K.Sink.faults c.show_log.new.sink)) c.show_log.result.0 in
    subst P (sym c.if-upgrades.false) c.show_log.ensures.ends
