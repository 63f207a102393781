use Rattle.std.proofs.Common.{◌≡◌, [], length, ap, ◌∙◌, arith, rules}
use Rattle.std.proofs.lemmas.List.{nil_from_length}
use Rattle.std.proofs.lemmas.Bool.{eqb-true}
use Rattle.gp_words.specs.Lines.{lines_of}
use Rattle.gp_verdict.proofs.LineHeads.{traces_on_start, traces_on_more, traces_stop, traces_over}
use Rattle.gp_verdict.proofs.parts.trace_head.Goals as goal

pub loop-rest-init : goal.loop-rest-init
loop-rest-init c = traces_on_start c.args.bytes.now

pub loop-rest-preserved : goal.loop-rest-preserved
loop-rest-preserved c =
    traces_on_more c.args.bytes.now c.loop-rest.rest.now c.first_line.result.0.now c.first_line.result.1.now c.loop-rest.place c.loop-rest.lines c.loop-rest.invariant
    c.first_line.ensures.parts c.first_line.ensures.some c.first_line.ensures.first (search rules)

pub returns-then-ends_trace-clause-head : goal.returns-then-ends_trace-clause-head
returns-then-ends_trace-clause-head c =
    let t = traces_stop c.args.bytes.now c.loop-rest.rest.now c.first_line.result.0.now c.first_line.result.1.now c.loop-rest.place c.loop-rest.lines c.loop-rest.invariant c.first_line.ensures.first (search rules) in
    ap lines_of c.head_of.ensures.head ∙ t.head_is

pub returns-then-ends_trace-clause-rest : goal.returns-then-ends_trace-clause-rest
returns-then-ends_trace-clause-rest c =
    let t = traces_stop c.args.bytes.now c.loop-rest.rest.now c.first_line.result.0.now c.first_line.result.1.now c.loop-rest.place c.loop-rest.lines c.loop-rest.invariant c.first_line.ensures.first (search rules) in
    ap lines_of c.head_of.ensures.rest ∙ t.rest_is

pub returns-then-ends_trace-clause-count : goal.returns-then-ends_trace-clause-count
returns-then-ends_trace-clause-count c =
    let t = traces_stop c.args.bytes.now c.loop-rest.rest.now c.first_line.result.0.now c.first_line.result.1.now c.loop-rest.place c.loop-rest.lines c.loop-rest.invariant c.first_line.ensures.first (search rules) in
    c.head_of.ensures.lines ∙ t.count

pub returns-then-ends_trace-clause-few : goal.returns-then-ends_trace-clause-few
returns-then-ends_trace-clause-few c =
    let t = traces_stop c.args.bytes.now c.loop-rest.rest.now c.first_line.result.0.now c.first_line.result.1.now c.loop-rest.place c.loop-rest.lines c.loop-rest.invariant c.first_line.ensures.first (search rules) in
    let f = t.few in let n = c.head_of.ensures.lines in let s = ap length c.head_of.ensures.rest in omega (arith, f, n, s)

pub returns-clause-head : goal.returns-clause-head
returns-clause-head c =
    let over : c.loop-rest.rest.now ≡ [] = nil_from_length c.loop-rest.rest.now (eqb-true _ _ (search rules)) in
    let t = traces_over c.args.bytes.now c.loop-rest.rest.now c.loop-rest.place c.loop-rest.lines c.loop-rest.invariant over in
    ap lines_of c.head_of-2.ensures.head ∙ t.head_is

pub returns-clause-rest : goal.returns-clause-rest
returns-clause-rest c =
    let over : c.loop-rest.rest.now ≡ [] = nil_from_length c.loop-rest.rest.now (eqb-true _ _ (search rules)) in
    let t = traces_over c.args.bytes.now c.loop-rest.rest.now c.loop-rest.place c.loop-rest.lines c.loop-rest.invariant over in
    ap lines_of c.head_of-2.ensures.rest ∙ t.rest_is

pub returns-clause-count : goal.returns-clause-count
returns-clause-count c =
    let over : c.loop-rest.rest.now ≡ [] = nil_from_length c.loop-rest.rest.now (eqb-true _ _ (search rules)) in
    let t = traces_over c.args.bytes.now c.loop-rest.rest.now c.loop-rest.place c.loop-rest.lines c.loop-rest.invariant over in
    c.head_of-2.ensures.lines ∙ t.count

pub returns-clause-few : goal.returns-clause-few
returns-clause-few c =
    let over : c.loop-rest.rest.now ≡ [] = nil_from_length c.loop-rest.rest.now (eqb-true _ _ (search rules)) in
    let t = traces_over c.args.bytes.now c.loop-rest.rest.now c.loop-rest.place c.loop-rest.lines c.loop-rest.invariant over in
    let f = t.few in let n = c.head_of-2.ensures.lines in let s = ap length c.head_of-2.ensures.rest in omega (arith, f, n, s)
