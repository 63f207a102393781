use Rattle.std.proofs.Common.{◌≡◌, length, sym, ◌∙◌, arith}
use Rattle.std.proofs.lemmas.Bool.{eq-eqb}
use Rattle.gp_history.proofs.Joins.{history_of_is}
use Rattle.gp_history.specs.Sequence.{history_of}
use Rattle.gp_history.proofs.Prefix.{prefix_refl}
use Rattle.gp_history.proofs.Lub.{bounded_compatible}
use Rattle.gp_bounds.proofs.Beside.{beside_is_compatible}
use Rattle.gp_bounds.proofs.Meeting.{start_prefix}
use Rattle.gp_bounds.proofs.compatibles.compatible.Goals as goal

pub returns-then-from-len : goal.returns-then-from-len
returns-then-from-len g c =
    let xs = g.H.Hist.sequence c.args.a.now in
    let ys = g.H.Hist.sequence c.args.b.now in
    let whole : c.common_start-from.result ≡ length xs = omega (arith, c.len.ensures.items) in
    let below = start_prefix xs ys c.common_start-from.result c.common_start-from.ensures.alike whole in
    let wk = history_of_is ys in
    (λ t. bounded_compatible (history_of xs) (history_of ys) (history_of ys) (history_of_is xs) wk wk below (prefix_refl (history_of ys) wk), λ a. eq-eqb c.common_start-from.result c.len.result c.if-from-len.true)

pub returns-else-from-len : goal.returns-else-from-len
returns-else-from-len g c =
    let k = beside_is_compatible (g.H.Hist.sequence c.args.a.now) (g.H.Hist.sequence c.args.b.now) in
    (λ t. k.0 (sym c.all_beside.ensures ∙ t), λ a. c.all_beside.ensures ∙ k.1 a)
