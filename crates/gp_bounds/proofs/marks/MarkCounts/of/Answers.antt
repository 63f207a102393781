use Rattle.std.proofs.Common.{◌≡◌, get_or, set, subst, ap, arith}
use Rattle.std.specs.Prelude.{◌≢◌}
use Rattle.gp_history.proofs.Tests.{fst_of, snd_of}
use Rattle.gp_bounds.proofs.Counting.{all_counted, one_counted}
use Rattle.gp_bounds.proofs.marks.MarkCounts.of.Goals as goal

pub loop-i-preserved : goal.loop-i-preserved
loop-i-preserved g c =
    one_counted (g.H.Hist.sequence c.args.h.now) c.args.from c.loop-i.i c.at-c.result.now c.loop-i.counts _ c.one_more.result c.loop-i.are_all_marked _
    c.loop-i.invariant c.at-c.ensures (ap (λ k. set c.loop-i.counts k c.one_more.result) c.entry_of-entry.ensures.value) c.one_more.ensures.some
    (subst (λ k. get_or c.loop-i.counts k 0 ≢ 0 → c.one_more.result ≡ 2) c.entry_of-entry.ensures.value c.one_more.ensures.again)
    (λ yes. (fst_of c.loop-i.are_all_marked c.is_marked-are_all_marked.result yes, c.is_marked-are_all_marked.ensures (snd_of c.loop-i.are_all_marked c.is_marked-are_all_marked.result yes)))

pub returns : goal.returns
returns g c =
    all_counted (g.H.Hist.sequence c.args.h.now) c.args.from c.loop-i.i c.loop-i.counts c.loop-i.are_all_marked c.loop-i.invariant
    (omega (arith, c.len-i-end.ensures.items))
