use Rattle.std.proofs.Common.{◌∙◌}
use Rattle.std.specs.Ordering.{eq_by_cmp}
use Rattle.gp_command.specs.Key.{key_cmp}
use Rattle.std.specs.Cmp.Lexicographic.{texts_ties}
use Rattle.gp_command.proofs.key.KeyPartialEq.eq.Goals as goal

pub returns : goal.returns
returns c = c.eq.ensures ∙ texts_ties c.as_bytes.result.now c.as_bytes-2.result.now ∙ (λ i. eq_by_cmp key_cmp (c.as_bytes.ensures.value i) (c.as_bytes-2.ensures.value i))
