use Rattle.std.proofs.Common.{sym, ap, ◌∙◌}
use Rattle.std.specs.Option.{option_copied}
use Rattle.gp_cell.specs.Cores.{part_in}
use Rattle.gp_stage.proofs.Lasting.{top_last, top_none}
use Rattle.gp_stage.proofs.tops.top_of_cell.Goals as goal

pub returns-in-Some-clause-top : goal.returns-in-Some-clause-top
returns-in-Some-clause-top g c up = let x = c.args.cell.now in
    c.top_of_part.ensures ∙ sym (top_last _ (part_in x.core) x.log c.in-Some.part.now (c.is_down-down.ensures.kept up) (sym c.durable.ensures ∙ ap option_copied c.in-Some.is))

pub returns-in-None-clause-top : goal.returns-in-None-clause-top
returns-in-None-clause-top g c up = let x = c.args.cell.now in
    sym (top_none x.config x.node (part_in x.core) x.log (c.is_down-down.ensures.kept up) (sym c.durable.ensures ∙ ap option_copied c.in-None.is))
