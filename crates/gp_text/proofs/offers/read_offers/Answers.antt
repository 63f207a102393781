use Rattle.std.proofs.Common.{◌≡◌, [], Err, sym, ap, subst, ◌∙◌, arith, rules}
use Rattle.std.proofs.lemmas.List.{nil_from_length}
use Rattle.std.proofs.lemmas.Bool.{eqb-true}
use Rattle.gp_words.specs.Lines.{lines_of}
use Rattle.gp_text.proofs.LineSteps.{no_lines, within_next}
use Rattle.gp_text.specs.Offering.{ended, after_line, follow}
use Rattle.gp_text.specs.OfferAnswers.{Reads, unread_at}
use Rattle.gp_text.proofs.OfferSteps.{reading_opens, follow_end, follow_too_long, follow_goes, follow_stops}
use Rattle.gp_text.proofs.PlayedAlone.{script_alone}
use Rattle.gp_text.proofs.offers.read_offers.Goals as goal

pub loop-rest-init : goal.loop-rest-init
loop-rest-init c = record { reads = reading_opens c.args.bytes.now; within = record { near = omega arith; counted = omega arith; parts = omega arith } }

pub returns-then-holds_limit-clause-reads : goal.returns-then-holds_limit-clause-reads
returns-then-holds_limit-clause-reads c =
    let on = c.loop-rest.invariant in
    rw c.at.ensures (sym on.reads ∙ ap (λ lines. follow c.loop-rest.number c.loop-rest.place c.loop-rest.so_far lines) c.first_line.ensures.first ∙ follow_too_long _ _ _ _ _ (search rules))

pub returns-in-Err-clause-reads : goal.returns-in-Err-clause-reads
returns-in-Err-clause-reads c =
    let on = c.loop-rest.invariant in
    let fails = rw c.text_of.ensures at c.in-Err.ensures in
    let stops = follow_stops c.loop-rest.number c.loop-rest.place c.loop-rest.so_far c.first_line.result.0.now (lines_of c.first_line.result.1.now) c.in-Err.why (search rules) fails in
    let reads = ap (λ lines. follow c.loop-rest.number c.loop-rest.place c.loop-rest.so_far lines) (sym c.first_line.ensures.first) ∙ on.reads in
    rw c.at-in-Err.ensures (subst (λ read. Reads read (Err (unread_at c.loop-rest.number c.in-Err.why))) reads stops)

pub loop-rest-preserved : goal.loop-rest-preserved
loop-rest-preserved c =
    let on = c.loop-rest.invariant in
    let goes = follow_goes c.loop-rest.number c.loop-rest.place c.loop-rest.so_far c.in-Ok.more c.first_line.result.0.now (lines_of c.first_line.result.1.now) (search rules)
    (ap (λ t. after_line c.loop-rest.so_far t) (sym c.text_of.ensures) ∙ c.in-Ok.ensures) in
    record {
      reads = sym goes ∙ ap (λ lines. follow c.loop-rest.number c.loop-rest.place c.loop-rest.so_far lines) (sym c.first_line.ensures.first) ∙ on.reads;
      within = within_next c.args.bytes.now _ c.first_line.result.0.now c.first_line.result.1.now _ _ on.within c.first_line.ensures.parts c.first_line.ensures.some (search rules);
    }

pub returns-in-Some-clause-reads : goal.returns-in-Some-clause-reads
returns-in-Some-clause-reads c =
    let on = c.loop-rest.invariant in
    let over : c.loop-rest.rest.now ≡ [] = nil_from_length c.loop-rest.rest.now (eqb-true _ _ (search rules)) in
    sym on.reads ∙ ap (λ bytes. follow c.loop-rest.number c.loop-rest.place c.loop-rest.so_far (lines_of bytes)) over
    ∙ ap (λ lines. follow c.loop-rest.number c.loop-rest.place c.loop-rest.so_far lines) no_lines ∙ follow_end _ _ _ ∙ ap (λ said. ended c.loop-rest.number said) c.in-Some.is

pub returns-in-Some-clause-offered : goal.returns-in-Some-clause-offered
returns-in-Some-clause-offered c =
    let played = script_alone c.args.bytes.now c.in-Some.offers (returns-in-Some-clause-reads c) in played.offered

pub returns-in-None-clause-reads : goal.returns-in-None-clause-reads
returns-in-None-clause-reads c =
    let on = c.loop-rest.invariant in
    let over : c.loop-rest.rest.now ≡ [] = nil_from_length c.loop-rest.rest.now (eqb-true _ _ (search rules)) in
    rw c.at-in-None.ensures
    (sym on.reads ∙ ap (λ bytes. follow c.loop-rest.number c.loop-rest.place c.loop-rest.so_far (lines_of bytes)) over
    ∙ ap (λ lines. follow c.loop-rest.number c.loop-rest.place c.loop-rest.so_far lines) no_lines ∙ follow_end _ _ _ ∙ ap (λ said. ended c.loop-rest.number said) c.in-None.is)
