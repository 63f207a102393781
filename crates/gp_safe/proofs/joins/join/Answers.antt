use Rattle.std.proofs.Common.{◌≡◌, length, ap, ◌∙◌, arith}
use Rattle.gp_history.specs.Sequence.{history_of}
use Rattle.gp_bounds.proofs.Meeting.{start_prefix}
use Rattle.gp_safe.proofs.Sharing.{join_of_start}
use Rattle.gp_safe.proofs.joins.join.Goals as goal

pub returns-then-common_start-len : goal.returns-then-common_start-len
returns-then-common_start-len c =
    let xs = c.args.a.now in
    let ys = c.args.b.now in
    let whole : c.common_start.result ≡ length xs = omega (arith, c.len.ensures.items) in
    ap history_of c.in_ok-whole.ensures ∙ join_of_start xs ys (start_prefix xs ys c.common_start.result c.common_start.ensures.alike whole)
