use Rattle.gp_cli.proofs.LogCauses.{upgrade_ends}
use Rattle.gp_cli.proofs.logs.upgrade_log.Goals as goal

pub returns-in-Ok-clause-ends : goal.returns-in-Ok-clause-ends
returns-in-Ok-clause-ends g c =
    upgrade_ends g.D.Disk.content g.D.Disk.image g.D.Disk.faults c.args.number c.args.disk c.into_disk.result c.in-Ok.log c.take_on_and_print-status.new.log _ _ _ c.into_disk.ensures c.in-Ok.ensures.content (c.in-Ok.ensures.cause.steady (λ x. x)) c.take_on_and_print-status.ensures.ends
