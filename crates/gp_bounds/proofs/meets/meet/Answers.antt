use Rattle.std.proofs.Common.{◌≡◌, length, sym, ap, ◌∙◌, arith}
use Rattle.gp_history.specs.Sequence.{history_of}
use Rattle.gp_bounds.proofs.Meeting.{start_prefix, meet_left_whole, meet_right_whole}
use Rattle.gp_bounds.proofs.meets.meet.Goals as goal

pub returns-then-from-len : goal.returns-then-from-len
returns-then-from-len g c =
    let whole : c.common_start-from.result ≡ length (g.H.Hist.sequence c.args.a.now) = omega (arith, c.len.ensures.items) in
    ap history_of c.in_ok-whole.ensures
    ∙ meet_left_whole (g.H.Hist.sequence c.args.a.now) (g.H.Hist.sequence c.args.b.now) (start_prefix (g.H.Hist.sequence c.args.a.now) (g.H.Hist.sequence c.args.b.now) c.common_start-from.result c.common_start-from.ensures.alike whole)

pub returns-then-from-len-2 : goal.returns-then-from-len-2
returns-then-from-len-2 g c =
    let whole : c.common_start-from.result ≡ length (g.H.Hist.sequence c.args.b.now) = omega (arith, c.len-2.ensures.items) in
    ap history_of c.in_ok-whole-2.ensures
    ∙ meet_right_whole (g.H.Hist.sequence c.args.a.now) (g.H.Hist.sequence c.args.b.now) (start_prefix (g.H.Hist.sequence c.args.b.now) (g.H.Hist.sequence c.args.a.now) c.common_start-from.result (sym c.common_start-from.ensures.alike) whole)
