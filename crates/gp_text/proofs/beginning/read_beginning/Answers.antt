use Rattle.std.proofs.Common.{◌≡◌, [], None, sym, ap, ◌∙◌, arith, rules}
use Rattle.std.proofs.lemmas.List.{nil_from_length}
use Rattle.std.proofs.lemmas.Bool.{eqb-true}
use Rattle.gp_run.specs.Runs.{newest_first}
use Rattle.gp_words.specs.Lines.{lines_of}
use Rattle.gp_text.specs.Reading.{reading_from}
use Rattle.gp_text.proofs.LineSteps.{no_lines, reading_opens, reading_from_end, reading_from_too_long, reading_from_passed, reading_from_goes, reading_from_stops, within_next}
use Rattle.gp_text.proofs.beginning.read_beginning.Goals as goal

pub loop-rest-init : goal.loop-rest-init
loop-rest-init c = (λ language. reading_opens language c.args.bytes.now, record { near = omega arith; counted = omega arith; parts = omega arith })

pub returns-then-holds_limit-clause-opens : goal.returns-then-holds_limit-clause-opens
returns-then-holds_limit-clause-opens c = λ language.
    rw c.at.ensures (record {
      before = None;
      says = sym (c.loop-rest.invariant.0 language) ∙ ap (λ lines. reading_from language c.loop-rest.number c.loop-rest.place lines) c.first_line.ensures.first ∙ reading_from_too_long language _ _ _ _ (search rules);
      run = ap newest_first c.new.ensures;
    })

pub returns-in-Ok-clause-opens : goal.returns-in-Ok-clause-opens
returns-in-Ok-clause-opens c = λ language.
    sym (c.loop-rest.invariant.0 language) ∙ ap (λ lines. reading_from language c.loop-rest.number c.loop-rest.place lines) c.first_line.ensures.first
    ∙ reading_from_goes language c.loop-rest.number c.loop-rest.place c.first_line.result.0.now (lines_of c.first_line.result.1.now) c.in-Ok.config (search rules) (search rules) (search rules)

pub returns-in-Ok-clause-short : goal.returns-in-Ok-clause-short
returns-in-Ok-clause-short c =
    let w = within_next c.args.bytes.now _ c.first_line.result.0.now c.first_line.result.1.now _ _ c.loop-rest.invariant.1 c.first_line.ensures.parts c.first_line.ensures.some (search rules) in
    (w.near, w.counted, w.parts)

pub returns-in-Err-clause-opens : goal.returns-in-Err-clause-opens
returns-in-Err-clause-opens c = λ language.
    let stops = reading_from_stops language c.loop-rest.number c.loop-rest.place c.first_line.result.0.now (lines_of c.first_line.result.1.now) c.in-Err.why c.new-in-Err.result (search rules) (search rules) (search rules) c.new-in-Err.ensures in
    rw (c.at-in-Err.ensures, ← c.loop-rest.invariant.0 language, c.first_line.ensures.first) stops

pub loop-rest-preserved : goal.loop-rest-preserved
loop-rest-preserved c = (
  λ language. sym (reading_from_passed language c.loop-rest.number c.loop-rest.place c.first_line.result.0.now (lines_of c.first_line.result.1.now) (search rules) (search rules))
      ∙ ap (λ lines. reading_from language c.loop-rest.number c.loop-rest.place lines) (sym c.first_line.ensures.first) ∙ c.loop-rest.invariant.0 language,
  within_next c.args.bytes.now _ c.first_line.result.0.now c.first_line.result.1.now _ _ c.loop-rest.invariant.1 c.first_line.ensures.parts c.first_line.ensures.some (search rules),
)

pub returns-clause-opens : goal.returns-clause-opens
returns-clause-opens c = λ language.
    let ended : c.loop-rest.rest.now ≡ [] = nil_from_length c.loop-rest.rest.now (eqb-true _ _ (search rules)) in
    rw c.at-2.ensures (record {
      before = None;
      says = sym (c.loop-rest.invariant.0 language) ∙ ap (λ bytes. reading_from language c.loop-rest.number c.loop-rest.place (lines_of bytes)) ended
          ∙ ap (λ lines. reading_from language c.loop-rest.number c.loop-rest.place lines) no_lines ∙ reading_from_end language _ _;
      run = ap newest_first c.new-2.ensures;
    })
