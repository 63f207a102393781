use Rattle.gp_cli.proofs.LogCauses.{takes_ends, takes_not_ends}
use Rattle.gp_cli.proofs.logs.take_on_and_print.Goals as goal

pub returns-in-Ok-clause-ends : goal.returns-in-Ok-clause-ends
returns-in-Ok-clause-ends g c =
    takes_ends g.D.Disk.content g.D.Disk.image g.D.Disk.faults c.args.number c.args.log.now c.take_on.new.log c.take_on.result _ _ _ c.in-Ok.is c.requires.on_disk c.take_on.ensures.taken c.take_on.ensures.cause c.print_log.ensures.told

pub returns-in-Err-clause-ends : goal.returns-in-Err-clause-ends
returns-in-Err-clause-ends g c =
    takes_not_ends g.D.Disk.content g.D.Disk.image g.D.Disk.faults c.args.number c.args.log.now c.take_on.new.log c.take_on.result c.in-Err.why _ _ _ c.in-Err.is c.requires.on_disk c.take_on.ensures.taken c.take_on.ensures.cause c.tell_unrenewed.ensures.told
