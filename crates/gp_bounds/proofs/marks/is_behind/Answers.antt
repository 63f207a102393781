use Rattle.std.proofs.Common.{◌∙◌}
use Rattle.gp_history.specs.Sequence.{history_of}
use Rattle.gp_bounds.proofs.Counting.{alone_is_behind}
use Rattle.gp_bounds.proofs.marks.is_behind.Goals as goal

pub returns-then-is_alone : goal.returns-then-is_alone
returns-then-is_alone g c =
    c.if-is_alone.true
    ∙ alone_is_behind (g.H.Hist.sequence c.args.a.now) (g.H.Hist.sequence c.args.b.now) (history_of (g.H.Hist.sequence c.args.kept.now)) c.args.from c.args.i c.args.j c.args.d.now
    c.args.counts.now.counts c.args.counts.now.are_all_marked c.requires.counted (c.is_alone.ensures c.if-is_alone.true) c.requires.left c.requires.right c.requires.alike c.requires.kept
