use Rattle.std.proofs.Common.{refl, subst}
use Rattle.std.specs.List.{All}
use Rattle.gp_cluster.specs.Cells.{IsKnownCell}
use Rattle.gp_cluster.proofs.closing.leave.Goals as goal

pub logs_of-requires : goal.logs_of-requires
logs_of-requires g c = c.requires

pub returns-clause-posted : goal.returns-clause-posted
returns-clause-posted g c = refl

pub returns-clause-end : goal.returns-clause-end
returns-clause-end g c = refl

pub returns-clause-logs : goal.returns-clause-logs
returns-clause-logs g c = c.logs_of.ensures.logs

pub returns-clause-ready : goal.returns-clause-ready
returns-clause-ready g c = c.logs_of.ensures.ready

pub returns-clause-known : goal.returns-clause-known
returns-clause-known g c = subst (All IsKnownCell) c.deref.ensures.value c.know.ensures
