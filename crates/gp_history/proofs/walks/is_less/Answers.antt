use Rattle.std.proofs.Common.{sym, ap, ◌∙◌}
use Rattle.std.specs.Option.{option_copied}
use Rattle.gp_history.specs.Walks.{is_less}
use Rattle.gp_history.proofs.walks.is_less.Goals as goal

pub returns-in-Some : goal.returns-in-Some
returns-in-Some c = c.lt.ensures ∙ sym (ap (λ o. is_less c.args.c.now (option_copied o)) c.in-Some.is)
