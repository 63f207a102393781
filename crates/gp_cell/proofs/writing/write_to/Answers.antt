use Rattle.std.proofs.Common.{sym, subst, Option, Some}
use Rattle.std.specs.Prelude.{OnOk}
use Rattle.gp_vlog.specs.Logs.{LogState}
use Rattle.gp_cell.specs.Crashes.{AddsToLog}
use Rattle.gp_cell.proofs.Lasting.{added_keeps}
use Rattle.gp_cell.proofs.Crashing.{adds_to}
use Rattle.gp_cell.proofs.writing.write_to.Goals as goal

pub returns-clause-kept : goal.returns-clause-kept
returns-clause-kept g c = added_keeps c.in-Some.log c.write_part.new.log c.args.part.now c.write_part.result c.write_part.ensures.fit c.write_part.ensures.entries

pub returns-clause-entries : goal.returns-clause-entries
returns-clause-entries g c =
    let r = c.write_part.result in let new = c.write_part.new.log in let d = c.args.part.now in
    subst (λ (o : Option (LogState g.row.D.Denot)). OnOk r (AddsToLog o (Some new) d)) (sym c.in-Some.is) (adds_to c.in-Some.log new d r c.write_part.ensures.entries c.write_part.ensures.full)
