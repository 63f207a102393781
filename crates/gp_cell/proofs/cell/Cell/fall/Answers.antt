use Rattle.std.proofs.Common.{subst}
use Rattle.std.specs.Prelude.{IfSome}
use Rattle.gp_msg.specs.Messages.{part_of}
use Rattle.gp_cell.specs.Falls.{IsFall}
use Rattle.gp_cell.proofs.Reviving.{revives}
use Rattle.gp_cell.proofs.cell.Cell.fall.Goals as goal

pub returns-in-Ok-clause-revived : goal.returns-in-Ok-clause-revived
returns-in-Ok-clause-revived g c =
    let s = c.args.self.now in let part = part_of c.args.found.part in let e = c.in-Ok.ensures in
    let f = subst (λ o. IfSome o (IsFall s c.args.mv.now part)) c.in-Ok-Some.field-0-is c.in-Ok-Some.ensures.fall in
    revives s c.args.mv.now c.in-Ok.revived.item c.in-Ok.revived.next part c.in-Ok-Some.kept f e.node e.event e.sent e.next (c.requires.found.kept c.if-found.false)
