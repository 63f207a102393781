use Rattle.std.proofs.Common.{◌≡◌, [], length, sym, ap, ◌∙◌, arith, rules}
use Rattle.std.proofs.lemmas.List.{length-append, nil_from_length}
use Rattle.std.proofs.lemmas.Bool.{eqb-true}
use Rattle.gp_verdict.proofs.Differences.{lines_differ, lines_alike, wanted_over, both_over, printed_over}
use Rattle.gp_verdict.proofs.reports.first_difference.Goals as goal

pub loop-printed-preserved : goal.loop-printed-preserved
loop-printed-preserved c =
    let on = c.loop-printed.invariant in
    let alike = lines_alike c.loop-printed.number c.loop-printed.printed.now c.loop-printed.wanted.now c.first_line.result.0.now c.first_line.result.1.now c.first_line-in-loop-printed.result.0.now c.first_line-in-loop-printed.result.1.now
    c.first_line.ensures.first c.first_line-in-loop-printed.ensures.first (search rules) in
    let size = ap length c.first_line.ensures.parts ∙ length-append c.first_line.result.0.now c.first_line.result.1.now in
    let some = c.first_line.ensures.some in let room = on.1 in
    (sym alike ∙ on.0, omega (arith, size, some, room))

pub returns-then-is_empty : goal.returns-then-is_empty
returns-then-is_empty c =
    let over : c.loop-printed.wanted.now ≡ [] = nil_from_length c.loop-printed.wanted.now (eqb-true _ _ (search rules)) in
    sym (wanted_over c.loop-printed.number c.loop-printed.printed.now c.loop-printed.wanted.now c.first_line.result.0.now c.first_line.result.1.now c.first_line.ensures.first over) ∙ c.loop-printed.invariant.0

pub returns-then-not-are_alike : goal.returns-then-not-are_alike
returns-then-not-are_alike c =
    sym (lines_differ c.loop-printed.number c.loop-printed.printed.now c.loop-printed.wanted.now c.first_line.result.0.now c.first_line.result.1.now c.first_line-in-loop-printed.result.0.now c.first_line-in-loop-printed.result.1.now
    c.first_line.ensures.first c.first_line-in-loop-printed.ensures.first (search rules)) ∙ c.loop-printed.invariant.0

pub returns-in-empty : goal.returns-in-empty
returns-in-empty c =
    let over : c.loop-printed.printed.now ≡ [] = nil_from_length c.loop-printed.printed.now (eqb-true _ _ (search rules)) in
    let none = c.in-empty.len_below in
    let too : c.loop-printed.wanted.now ≡ [] = nil_from_length c.loop-printed.wanted.now (omega (arith, none)) in
    sym (both_over c.loop-printed.number c.loop-printed.printed.now c.loop-printed.wanted.now over too) ∙ c.loop-printed.invariant.0

pub returns-in-len1-up : goal.returns-in-len1-up
returns-in-len1-up c =
    let over : c.loop-printed.printed.now ≡ [] = nil_from_length c.loop-printed.printed.now (eqb-true _ _ (search rules)) in
    let some = c.in-len1-up.len_at_least in
    sym (printed_over c.loop-printed.number c.loop-printed.printed.now c.loop-printed.wanted.now over (omega (arith, some))) ∙ c.loop-printed.invariant.0
