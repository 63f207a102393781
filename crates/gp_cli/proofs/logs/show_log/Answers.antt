use Rattle.gp_cli.proofs.LogCauses.{shows_ends}
use Rattle.gp_cli.proofs.logs.show_log.Goals as goal

pub returns-in-Ok-clause-ends : goal.returns-in-Ok-clause-ends
returns-in-Ok-clause-ends g c =
    shows_ends g.D.Disk.content g.D.Disk.image g.D.Disk.faults c.args.number c.args.disk c.into_disk.result c.in-Ok.log _ _ _ c.into_disk.ensures c.in-Ok.ensures.content (c.in-Ok.ensures.cause.steady (λ x. x)) c.in-Ok.ensures.ready.1 c.print_log-status.ensures.told
