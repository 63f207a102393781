use Rattle.std.proofs.Common.{◌≡◌, ◌++◌, List, map, take, ap, subst, ◌∙◌, ℕ, arith, length, refl, get_or}
use Rattle.std.proofs.lemmas.Option.{slice_get-get_or}
use Rattle.std.specs.Prelude.{OnOk}
use Rattle.gp_words.specs.Spacing.{joined, gap, dash}
use Rattle.gp_report.specs.Texts.{identity}
use Rattle.gp_report.proofs.WrittenWords.{word_more, words_ended}
use Rattle.gp_onlookers.proofs.texts.push_identities.Goals as goal

pub loop-i-preserved : goal.loop-i-preserved
loop-i-preserved c =
    let id = get_or c.args.order.now c.loop-i.i (record { proposer = 0; number = 0 }) in
    c.in_ok-push_identity.ensures.written
    ∙ ap (λ (t : List ℕ). t ++ identity id) (c.in_ok-push_gap.ensures.written ∙ ap (λ (t : List ℕ). t ++ gap c.loop-i.i) c.loop-i.invariant)
    ∙ word_more identity c.args.to.now.items c.args.order.now c.loop-i.i id (slice_get-get_or c.args.order.now c.loop-i.i _ c.loop-i-test.true)

pub returns : goal.returns
returns c =
    let all : c.loop-i.i ≡ length c.args.order.now = omega (arith, c.loop-i.auto.i-end, c.loop-i-test.false) in
    let written =
    ap (λ (t : List ℕ). t ++ dash (length c.args.order.now)) (c.loop-i.invariant ∙ ap (λ n. c.args.to.now.items ++ joined (map identity (take n c.args.order.now))) all)
    ∙ words_ended identity c.args.to.now.items c.args.order.now (length c.args.order.now) refl in
    subst (λ (text : List ℕ). OnOk c.push_dash.result (c.push_dash.new.to.items ≡ text)) written c.push_dash.ensures.written
