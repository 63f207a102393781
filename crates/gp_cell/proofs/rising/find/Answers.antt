use Rattle.std.proofs.Common.{◌≡◌, ◌-◌, sym, ap, ◌∙◌, Some}
use Rattle.std.specs.Prelude.{slice_get}
use Rattle.gp_vlog.specs.Logs.{last}
use Rattle.gp_cell.proofs.Lasting.{last_there}
use Rattle.gp_msg.specs.Messages.{part_of}
use Rattle.gp_cell.proofs.rising.find.Goals as goal

pub returns-in-Ok-clause-last : goal.returns-in-Ok-clause-last
returns-in-Ok-clause-last g c =
    let entries = c.args.log.now.entries in
    let there : last entries ≡ Some c.entry.result.now = ap (λ n. slice_get entries (n - 1)) (sym c.count-count.ensures) ∙ c.entry.ensures in
    last_there (part_of c.args.first) entries c.in-Ok.part (there ∙ ap Some (sym c.in-Ok.ensures))
