use Rattle.std.proofs.Common.{◌≡◌, length, arith}
use Rattle.gp_history.proofs.Counts.{same_if_prefix}
use Rattle.gp_history.proofs.walks.is_same.Goals as goal

pub returns-then-len : goal.returns-then-len
returns-then-len g c =
    let xs = g.H.Hist.sequence c.args.a.now in
    let ys = g.H.Hist.sequence c.args.b.now in
    let as_long : length xs ≡ length ys = omega (arith, c.len.ensures.items, c.len-2.ensures.items) in
    let k = same_if_prefix xs ys c.len.ensures.distinct c.len-2.ensures.distinct in
    (λ t. k.0 (as_long, c.is_prefix.ensures.0 t), λ e. c.is_prefix.ensures.1 (k.1 e).1)
