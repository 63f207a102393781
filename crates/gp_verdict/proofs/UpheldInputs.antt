-- What is upheld is what a run prints.
use Rattle.std.proofs.Common.{◌≡◌, ℕ, ◌+◌, ◌≤◌, Bool, true, false, List, [], ◌∷◌, ◌++◌, length, Option, Some, None, refl, sym, ap, subst, ◌∙◌}
use Rattle.std.specs.Prelude.{nat_le, codes}
use Rattle.std.proofs.lemmas.Bool.{leb-true, le-leb}
use Rattle.std.proofs.lemmas.Slice.Eq.{bytes_eq-Decides}
use Rattle.gp_history.proofs.Tests.{by_cases}
use Rattle.gp_round.specs.Counts.{Counts}
use Rattle.gp_msg.specs.declared.event.Event.{Event}
use Rattle.gp_run.specs.Runs.{run_of}
use Rattle.gp_words.specs.Lines.{lines_of, text_of}
use Rattle.gp_report.specs.Texts.{report}
use Rattle.gp_text.specs.declared.limits.TheConstants.{MOST_BYTES}
use Rattle.gp_text.specs.Reading.{Reading, Whole, Refused, Sofar}
use Rattle.gp_verdict.specs.Parts.{texts_of, is_divider, ends_trace, trace_lines, after_trace, short_lines, first_difference}
use Rattle.gp_verdict.specs.Verdicts.{Verdict, Upheld, Rejected, script_of, on_difference, ending_verdict, on_script, lines_verdict, too_long_after, verdict}
use Rattle.gp_verdict.specs.Printed.{IsPrinted}
use Rattle.gp_verdict.proofs.Differences.{none_differs, self_alike}
use Rattle.gp_verdict.proofs.Shown.{shows_nothing, ends_nowhere, parted}
use Rattle.gp_verdict.proofs.Judged.{verdict_parts, verdict_short, divider_at}

-- ---- what is printed is upheld

pub divider_ends : (text : List ℕ) → text ≡ codes "--" → (is_divider text ≡ true) × (ends_trace text ≡ true)
divider_ends text is = subst (λ (t : List ℕ). (is_divider t ≡ true) × (ends_trace t ≡ true)) (sym is) (refl, refl)

pub printed_upheld : (bytes : List ℕ) (config : Counts) (events : List Event) → IsPrinted bytes config events → verdict bytes ≡ Upheld config events
printed_upheld bytes config events p =
    let own : Sofar = record { events = events; shown = [] } in
    let ends = divider_ends (text_of p.divider) p.divides in
    let parts = parted p.script p.divider p.reported (ends_nowhere config own p.script p.says refl) ends.1 in
    let lines = lines_of bytes in
    let trace : trace_lines lines ≡ p.script = ap trace_lines p.lines ∙ parts.0 in
    let tail : after_trace lines ≡ p.divider ∷ p.reported = ap after_trace p.lines ∙ parts.1 in
    let number = length (trace_lines lines) + 1 in
    verdict_short bytes (le-leb (length bytes) MOST_BYTES p.short)
    ∙ verdict_parts lines
    ∙ ap (λ r. on_script r number (after_trace lines)) (ap script_of trace ∙ p.says)
    ∙ ap (ending_verdict config events number) tail
    ∙ divider_at config events number p.divider p.reported ends.0
    ∙ ap (λ ts. on_difference config events (first_difference (number + 1) ts (texts_of (lines_of (report config (run_of config events)))))) p.reports
    ∙ ap (on_difference config events) (self_alike (number + 1) (texts_of (lines_of (report config (run_of config events)))))

-- ---- what is upheld is printed

-- what it takes for the lines after a trace to be upheld
record IsEnding (own : Counts) (said : List Event) (lines : List (List ℕ)) (config : Counts) (events : List Event) : Type 0 where
  config_is : own ≡ config
  events_are : said ≡ events
  divider : List ℕ
  reported : List (List ℕ)
  parts : lines ≡ divider ∷ reported
  divides : text_of divider ≡ codes "--"
  reports : texts_of reported ≡ texts_of (lines_of (report own (run_of own said)))

difference_upheld : (own : Counts) (said : List Event) (number : ℕ) (line : List ℕ) (lines : List (List ℕ)) (config : Counts) (events : List Event) (difference : Option ℕ)
    → first_difference number (texts_of lines) (texts_of (lines_of (report own (run_of own said)))) ≡ difference → is_divider (text_of line) ≡ true → on_difference own said difference ≡ Upheld config events
    → IsEnding own said (line ∷ lines) config events
difference_upheld own said number line lines config events None is divides e =
    let config_is : own ≡ config = cc in
    let events_are : said ≡ events = cc in
    record {
      config_is = config_is;
      events_are = events_are;
      divider = line;
      reported = lines;
      parts = refl;
      divides = (bytes_eq-Decides (text_of line) (codes "--")).0 divides;
      reports = none_differs number (texts_of lines) (texts_of (lines_of (report own (run_of own said)))) is;
    }
difference_upheld own said number line lines config events (Some wrong) is divides e = absurd cc

ending_at : (own : Counts) (said : List Event) (number : ℕ) (line : List ℕ) (lines : List (List ℕ)) (config : Counts) (events : List Event) (divides : Bool) → is_divider (text_of line) ≡ divides
    → ending_verdict own said number (line ∷ lines) ≡ Upheld config events → IsEnding own said (line ∷ lines) config events
unfolding ending_verdict
ending_at own said number line lines config events true is e =
    let upheld = sym (divider_at own said number line lines is) ∙ e in
    difference_upheld own said (number + 1) line lines config events (first_difference (number + 1) (texts_of lines) (texts_of (lines_of (report own (run_of own said))))) refl is upheld
ending_at own said number line lines config events false is e = absurd (let f = rw is at e in cc)

ending_upheld : (own : Counts) (said : List Event) (number : ℕ) (lines : List (List ℕ)) (config : Counts) (events : List Event) → ending_verdict own said number lines ≡ Upheld config events → IsEnding own said lines config events
unfolding ending_verdict
ending_upheld own said number [] config events e = absurd cc
ending_upheld own said number (line ∷ lines) config events e = ending_at own said number line lines config events (is_divider (text_of line)) refl e

-- what it takes for a trace and the lines after it to be upheld
record IsWholeTrace (read : Reading) (lines : List (List ℕ)) (config : Counts) (events : List Event) : Type 0 where
  own : Counts
  said : Sofar
  whole : read ≡ Whole own said
  ending : IsEnding own said.events lines config events

script_upheld : (read : Reading) (number : ℕ) (lines : List (List ℕ)) (config : Counts) (events : List Event) → on_script read number lines ≡ Upheld config events → IsWholeTrace read lines config events
script_upheld (Whole own said) number lines config events e = record { own = own; said = said; whole = refl; ending = ending_upheld own said.events number lines config events e }
script_upheld (Refused line why before) number lines config events e = absurd cc

too_long_rejected : (count : ℕ) (ruling : Verdict) (config : Counts) (events : List Event) → too_long_after count ruling ≡ Upheld config events → false ≡ true
too_long_rejected count (Upheld own said) config events e = absurd cc
too_long_rejected count (Rejected line why before) config events e = by_cases (nat_le line count) (λ le. let f = rw le at e in absurd cc) (λ gt. let f = rw gt at e in absurd cc)

upheld_short : (bytes : List ℕ) (config : Counts) (events : List Event) (short : Bool) → nat_le (length bytes) MOST_BYTES ≡ short → verdict bytes ≡ Upheld config events → (length bytes ≤ MOST_BYTES) × (lines_verdict (lines_of bytes) ≡ Upheld config events)
unfolding verdict
upheld_short bytes config events true is e = (leb-true (length bytes) MOST_BYTES is, rw is at e)
upheld_short bytes config events false is e = absurd (let f = too_long_rejected (length (short_lines 0 (lines_of bytes))) (lines_verdict (short_lines 0 (lines_of bytes))) config events (rw is at e) in cc)

-- the lines are those of the trace and those after it
trace_parts_at : (line : List ℕ) (lines : List (List ℕ)) (ends : Bool) → ends_trace (text_of line) ≡ ends → lines ≡ trace_lines lines ++ after_trace lines → line ∷ lines ≡ trace_lines (line ∷ lines) ++ after_trace (line ∷ lines)
unfolding trace_lines after_trace
trace_parts_at line lines true is ih = rw is refl
trace_parts_at line lines false is ih = rw is (ap (λ (ls : List (List ℕ)). line ∷ ls) ih)

pub trace_parts : (lines : List (List ℕ)) → lines ≡ trace_lines lines ++ after_trace lines
unfolding trace_lines after_trace
trace_parts [] = refl
trace_parts (line ∷ lines) = trace_parts_at line lines (ends_trace (text_of line)) refl (trace_parts lines)

pub upheld_printed : (bytes : List ℕ) (config : Counts) (events : List Event) → verdict bytes ≡ Upheld config events → IsPrinted bytes config events
upheld_printed bytes config events e =
    let u = upheld_short bytes config events (nat_le (length bytes) MOST_BYTES) refl e in
    let lines = lines_of bytes in
    let w = script_upheld (script_of (trace_lines lines)) (length (trace_lines lines) + 1) (after_trace lines) config events (sym (verdict_parts lines) ∙ u.1) in
    let n = w.ending in
    let none = shows_nothing w.own w.said lines w.whole in
    record {
      short = u.0;
      script = trace_lines lines;
      divider = n.divider;
      reported = n.reported;
      lines = trace_parts lines ∙ ap (λ (ls : List (List ℕ)). trace_lines lines ++ ls) n.parts;
      says = w.whole ∙ ap (λ c. Whole c w.said) n.config_is ∙ ap (λ es. Whole config (record { events = es; shown = w.said.shown })) n.events_are
          ∙ ap (λ shown. Whole config (record { events = events; shown = shown })) none;
      divides = n.divides;
      reports = n.reports ∙ ap (λ c. texts_of (lines_of (report c (run_of c w.said.events)))) n.config_is ∙ ap (λ es. texts_of (lines_of (report config (run_of config es)))) n.events_are;
    }
