use Rattle.std.proofs.Common.{length, refl, sym, ap, ◌∙◌, subst}
use Rattle.std.specs.Prelude.{IfSome}
use Rattle.std.specs.List.{All}
use Rattle.gp_shelf.specs.Lists.{HasRoomFor}
use Rattle.gp_cluster.specs.Cells.{IsKnownCell, present, logs_of}
use Rattle.gp_cluster.specs.Closing.{IsClosedBy, EndsAs}
use Rattle.gp_cluster.proofs.closing.close.Goals as goal

pub finish-requires : goal.finish-requires
finish-requires g c = c.requires.all

pub present-requires : goal.present-requires
present-requires g c = subst (λ ls. HasRoomFor (length (present ls)) c.args.room) (sym c.in-Ok.ensures.logs) c.requires.room

pub leave-requires : goal.leave-requires
leave-requires g c = subst (λ cs. HasRoomFor (length (logs_of cs)) c.args.room) (ap (λ v. v.items) (sym c.in-Err.ensures.back.1)) c.requires.room

pub returns-in-Ok-clause-posted : goal.returns-in-Ok-clause-posted
returns-in-Ok-clause-posted g c = record { closed = c.in-Ok.ensures.closed; legal = c.in-Ok.ensures.legal }

pub returns-in-Ok-clause-end : goal.returns-in-Ok-clause-end
returns-in-Ok-clause-end g c = refl

pub returns-in-Ok-clause-logs : goal.returns-in-Ok-clause-logs
returns-in-Ok-clause-logs g c = c.present.ensures.logs ∙ ap present c.in-Ok.ensures.logs

pub returns-in-Ok-clause-ready : goal.returns-in-Ok-clause-ready
returns-in-Ok-clause-ready g c = c.present.ensures.ready

pub returns-in-Ok-clause-known : goal.returns-in-Ok-clause-known
returns-in-Ok-clause-known g c = subst (All IsKnownCell) c.deref.ensures.value c.know.ensures

pub returns-clause-posted : goal.returns-clause-posted
returns-clause-posted g c = subst (λ p. IfSome p (IsClosedBy c.args.wire c.args.cells.items)) (sym c.leave.ensures.posted) tt

pub returns-clause-end : goal.returns-clause-end
returns-clause-end g c = subst (λ p. EndsAs c.args.end p c.leave.result.end) (sym c.leave.ensures.posted) c.leave.ensures.end

pub returns-clause-logs : goal.returns-clause-logs
returns-clause-logs g c = c.leave.ensures.logs ∙ ap (λ v. logs_of v.items) c.in-Err.ensures.back.1

pub returns-clause-ready : goal.returns-clause-ready
returns-clause-ready g c = c.leave.ensures.ready

pub returns-clause-known : goal.returns-clause-known
returns-clause-known g c = subst (All IsKnownCell) c.deref.ensures.value c.know.ensures
