use Rattle.std.proofs.Common.{◌≡◌, [], ◌∙◌, rules}
use Rattle.std.proofs.lemmas.List.{nil_from_length}
use Rattle.std.proofs.lemmas.Bool.{eqb-true}
use Rattle.gp_verdict.proofs.Judged.{no_report, no_divider, report_right, report_wrong}
use Rattle.gp_verdict.proofs.judging.judge_ending.Goals as goal

pub returns-then-is_empty : goal.returns-then-is_empty
returns-then-is_empty c = λ events run.
    let over : c.args.rest.now ≡ [] = nil_from_length c.args.rest.now (eqb-true _ _ (search rules)) in
    rw c.refused.ensures (no_report c.args.played.world events c.args.number c.args.rest.now over run)

pub returns-then-not-is_divider : goal.returns-then-not-is_divider
returns-then-not-is_divider c = λ events run.
    rw c.refused-then-not-is_divider.ensures (no_divider c.args.played.world events c.args.number c.args.rest.now c.first_line.result.0.now c.first_line.result.1.now c.first_line.ensures.first (search rules) run)

pub returns-in-None : goal.returns-in-None
returns-in-None c = λ events run.
    report_right c.args.played.world events c.args.number c.args.rest.now c.first_line.result.0.now c.first_line.result.1.now c.deref.result.now c.first_difference.result c.first_line.ensures.first (search rules)
    (c.deref.ensures.value ∙ c.requires.text) run c.first_difference.ensures c.in-None.is

pub returns : goal.returns
returns c = λ events run.
    rw c.refused-in-Some.ensures (report_wrong c.args.played.world events c.args.number c.args.rest.now c.first_line.result.0.now c.first_line.result.1.now c.deref.result.now c.first_difference.result c.in-Some.line c.first_line.ensures.first (search rules)
    (c.deref.ensures.value ∙ c.requires.text) run c.first_difference.ensures c.in-Some.is)
