use Rattle.std.proofs.Common.{◌≡◌, true, not, sym, ap, ◌∙◌, arith}
use Rattle.std.proofs.lemmas.Bool.{true≢false}
use Rattle.std.proofs.lemmas.Option.{slice_get_within}
use Rattle.gp_command.specs.Conflict.{same}
use Rattle.gp_command.proofs.ConflictLemmas.{same_itself}
use Rattle.gp_history.proofs.Tests.{not_false}
use Rattle.gp_history.proofs.Places.{start_step}
use Rattle.gp_history.proofs.walks.common_start.Goals as goal

pub loop-i-preserved : goal.loop-i-preserved
loop-i-preserved g c =
    start_step (g.H.Hist.sequence c.args.a.now) (g.H.Hist.sequence c.args.b.now) c.loop-i.i c.at-c.result.now c.at-d.result.now c.loop-i.invariant
    c.at-c.ensures
    c.at-d.ensures
    (not_false (same c.at-c.result.now c.at-d.result.now) (sym c.ne.ensures ∙ c.if-ne.false))

pub returns-then-ne-clause-longest : goal.returns-then-ne-clause-longest
returns-then-ne-clause-longest g c = λ x p q.
    let left : c.at-c.result.now ≡ x = let both = sym c.at-c.ensures ∙ p in cc in
    let right : c.at-d.result.now ≡ x = let both = sym c.at-d.ensures ∙ q in cc in
    let alike : same c.at-c.result.now c.at-d.result.now ≡ true = (λ i. same (left i) (right i)) ∙ same_itself x in
    true≢false (sym (sym c.ne.ensures ∙ c.if-ne.true) ∙ ap not alike)

pub returns-clause-longest : goal.returns-clause-longest
returns-clause-longest g c = λ x p q.
    let left = slice_get_within (g.H.Hist.sequence c.args.a.now) c.min-shorter.result x p in
    let right = slice_get_within (g.H.Hist.sequence c.args.b.now) c.min-shorter.result x q in
    omega (arith, left, right, c.len.ensures.items, c.len-2.ensures.items, c.min-shorter.ensures)
