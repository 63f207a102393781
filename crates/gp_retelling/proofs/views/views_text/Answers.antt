use Rattle.std.proofs.Common.{List, ℕ, ◌++◌, ap, ◌∙◌}
use Rattle.gp_onlookers.specs.Texts.{looks_text}
use Rattle.gp_retelling.proofs.views.views_text.Goals as goal

pub returns-clause-text : goal.returns-clause-text
returns-clause-text g c = (c.in_ok-looks.looks, c.in_ok-looks.ensures.seen, c.in_ok-push_sight.ensures ∙ ap (λ (t : List ℕ). t ++ looks_text c.in_ok-looks.looks) c.in_ok-text.ensures)
