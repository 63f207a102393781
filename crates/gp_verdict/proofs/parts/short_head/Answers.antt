use Rattle.std.proofs.Common.{◌≡◌, ◌++◌, ℕ, List, [], length, take, ap, ◌∙◌, arith, rules}
use Rattle.std.proofs.lemmas.List.{nil_from_length, take-append-drop}
use Rattle.std.proofs.lemmas.Bool.{eqb-true}
use Rattle.gp_words.specs.Lines.{lines_of}
use Rattle.gp_verdict.proofs.LineHeads.{short_on_start, short_on_more, shorts_stop, shorts_over}
use Rattle.gp_verdict.proofs.parts.short_head.Goals as goal

pub loop-rest-init : goal.loop-rest-init
loop-rest-init c = short_on_start c.args.bytes.now

pub loop-rest-preserved : goal.loop-rest-preserved
loop-rest-preserved c =
    short_on_more c.args.bytes.now c.loop-rest.rest.now c.first_line.result.0.now c.first_line.result.1.now c.loop-rest.place c.loop-rest.lines c.loop-rest.invariant
    c.first_line.ensures.parts c.first_line.ensures.some c.first_line.ensures.first (search rules)

pub returns-then-holds_limit-clause-head : goal.returns-then-holds_limit-clause-head
returns-then-holds_limit-clause-head c =
    let s = shorts_stop c.args.bytes.now c.loop-rest.rest.now c.first_line.result.0.now c.first_line.result.1.now c.loop-rest.place c.loop-rest.lines c.loop-rest.invariant c.first_line.ensures.first (search rules) in
    ap lines_of c.head_of.ensures.head ∙ s.head_is

pub returns-then-holds_limit-clause-parts : goal.returns-then-holds_limit-clause-parts
returns-then-holds_limit-clause-parts c =
    ap (λ (bs : List ℕ). bs ++ c.head_of.result.rest.now) c.head_of.ensures.head ∙ ap (λ (bs : List ℕ). take c.loop-rest.place c.args.bytes.now ++ bs) c.head_of.ensures.rest ∙ take-append-drop c.loop-rest.place c.args.bytes.now

pub returns-then-holds_limit-clause-count : goal.returns-then-holds_limit-clause-count
returns-then-holds_limit-clause-count c =
    let s = shorts_stop c.args.bytes.now c.loop-rest.rest.now c.first_line.result.0.now c.first_line.result.1.now c.loop-rest.place c.loop-rest.lines c.loop-rest.invariant c.first_line.ensures.first (search rules) in
    c.head_of.ensures.lines ∙ s.count

pub returns-then-holds_limit-clause-short : goal.returns-then-holds_limit-clause-short
returns-then-holds_limit-clause-short c =
    let s = shorts_stop c.args.bytes.now c.loop-rest.rest.now c.first_line.result.0.now c.first_line.result.1.now c.loop-rest.place c.loop-rest.lines c.loop-rest.invariant c.first_line.ensures.first (search rules) in
    let f = s.short in let e = ap length c.head_of.ensures.head in omega (arith, f, e)

pub returns-then-holds_limit-clause-few : goal.returns-then-holds_limit-clause-few
returns-then-holds_limit-clause-few c =
    let s = shorts_stop c.args.bytes.now c.loop-rest.rest.now c.first_line.result.0.now c.first_line.result.1.now c.loop-rest.place c.loop-rest.lines c.loop-rest.invariant c.first_line.ensures.first (search rules) in
    let f = s.few in let e = ap length c.head_of.ensures.head in let n = c.head_of.ensures.lines in omega (arith, f, e, n)

pub returns-clause-head : goal.returns-clause-head
returns-clause-head c =
    let over : c.loop-rest.rest.now ≡ [] = nil_from_length c.loop-rest.rest.now (eqb-true _ _ (search rules)) in
    let s = shorts_over c.args.bytes.now c.loop-rest.rest.now c.loop-rest.place c.loop-rest.lines c.loop-rest.invariant over in
    ap lines_of c.head_of-2.ensures.head ∙ s.head_is

pub returns-clause-parts : goal.returns-clause-parts
returns-clause-parts c =
    ap (λ (bs : List ℕ). bs ++ c.head_of-2.result.rest.now) c.head_of-2.ensures.head ∙ ap (λ (bs : List ℕ). take c.loop-rest.place c.args.bytes.now ++ bs) c.head_of-2.ensures.rest ∙ take-append-drop c.loop-rest.place c.args.bytes.now

pub returns-clause-count : goal.returns-clause-count
returns-clause-count c =
    let over : c.loop-rest.rest.now ≡ [] = nil_from_length c.loop-rest.rest.now (eqb-true _ _ (search rules)) in
    let s = shorts_over c.args.bytes.now c.loop-rest.rest.now c.loop-rest.place c.loop-rest.lines c.loop-rest.invariant over in
    c.head_of-2.ensures.lines ∙ s.count

pub returns-clause-short : goal.returns-clause-short
returns-clause-short c =
    let over : c.loop-rest.rest.now ≡ [] = nil_from_length c.loop-rest.rest.now (eqb-true _ _ (search rules)) in
    let s = shorts_over c.args.bytes.now c.loop-rest.rest.now c.loop-rest.place c.loop-rest.lines c.loop-rest.invariant over in
    let f = s.short in let e = ap length c.head_of-2.ensures.head in omega (arith, f, e)

pub returns-clause-few : goal.returns-clause-few
returns-clause-few c =
    let over : c.loop-rest.rest.now ≡ [] = nil_from_length c.loop-rest.rest.now (eqb-true _ _ (search rules)) in
    let s = shorts_over c.args.bytes.now c.loop-rest.rest.now c.loop-rest.place c.loop-rest.lines c.loop-rest.invariant over in
    let f = s.few in let e = ap length c.head_of-2.ensures.head in let n = c.head_of-2.ensures.lines in omega (arith, f, e, n)
