-- How the verdict on an input comes from its parts.
use Rattle.std.proofs.Common.{◌≡◌, ℕ, ◌+◌, true, false, List, [], ◌∷◌, ◌++◌, length, Option, Some, None, Result, refl, sym, ap, subst, ◌∙◌}
use Rattle.std.specs.Prelude.{nat_le}
use Rattle.gp_round.specs.Counts.{Counts}
use Rattle.gp_msg.specs.declared.event.Event.{Event}
use Rattle.gp_run.specs.Runs.{run_of}
use Rattle.gp_words.specs.Lines.{lines_of, text_of}
use Rattle.gp_world.specs.State.{WorldState, entries_of}
use Rattle.gp_service.specs.Stores.{store_language}
use Rattle.gp_script.specs.declared.reason.Reason.TheVariants.{BadLine}
use Rattle.gp_report.specs.Texts.{report}
use Rattle.gp_text.specs.declared.played.Played.{Played}
use Rattle.gp_text.specs.declared.played.Unplayed.{Unplayed}
use Rattle.gp_text.specs.declared.played.Unplayed.TheVariants as unplayed
use Rattle.gp_text.specs.declared.limits.TheConstants.{MOST_BYTES}
use Rattle.gp_text.specs.Reading.{Reading, Whole, reading}
use Rattle.gp_text.specs.Texts.{shown_text}
use Rattle.gp_text.specs.Playing.{Stops, IsPlayed}
use Rattle.gp_text.proofs.LineSteps.{no_lines, reading_opens}
use Rattle.gp_script.specs.declared.reason.Reason.TheVariants as reason
use Rattle.gp_verdict.specs.declared.answer.Unaudited.{Unaudited}
use Rattle.gp_verdict.specs.declared.answer.Unaudited.TheVariants as unaudited
use Rattle.gp_verdict.specs.Parts.{texts_of, is_divider, trace_lines, after_trace, short_lines, first_difference}
use Rattle.gp_verdict.specs.Verdicts.{Rejected, said, script_of, on_difference, report_verdict, ending_verdict, on_script, lines_verdict, too_long_after, verdict}
use Rattle.gp_verdict.specs.Answers.{unaudited_of, IsUpheld, Refuses, Judges}
use Rattle.gp_verdict.proofs.Shown.{shows_nothing}

-- ---- the lines after a trace

pub no_report : (world : WorldState) (events : List Event) (number : ℕ) (rest : List ℕ) → rest ≡ [] → entries_of world ≡ run_of world.config events
    → Refuses (ending_verdict world.config events number (lines_of rest)) (unaudited.Bad number reason.NoReport world.records)
unfolding ending_verdict
no_report world events number rest none run = record { before = said world.config events; ruled = ap (λ bs. ending_verdict world.config events number (lines_of bs)) none ∙ ap (ending_verdict world.config events number) no_lines; run = run }

pub no_divider_at : (config : Counts) (events : List Event) (number : ℕ) (line : List ℕ) (lines : List (List ℕ)) → is_divider (text_of line) ≡ false
    → ending_verdict config events number (line ∷ lines) ≡ Rejected number BadLine (said config events)
unfolding ending_verdict
no_divider_at config events number line lines differs_there = rw differs_there refl

pub divider_at : (config : Counts) (events : List Event) (number : ℕ) (line : List ℕ) (lines : List (List ℕ)) → is_divider (text_of line) ≡ true
    → ending_verdict config events number (line ∷ lines) ≡ report_verdict config events (number + 1) lines
unfolding ending_verdict
divider_at config events number line lines divides = rw divides refl

pub no_divider : (world : WorldState) (events : List Event) (number : ℕ) (rest line after : List ℕ) → lines_of rest ≡ line ∷ lines_of after → is_divider (text_of line) ≡ false → entries_of world ≡ run_of world.config events
    → Refuses (ending_verdict world.config events number (lines_of rest)) (unaudited.Bad number BadLine world.records)
no_divider world events number rest line after first differs_there run = record {
  before = said world.config events;
  ruled = ap (ending_verdict world.config events number) first ∙ no_divider_at world.config events number line (lines_of after) differs_there;
  run = run;
}

-- the first difference decides
differs : (world : WorldState) (events : List Event) (number : ℕ) (rest line after text : List ℕ) (difference : Option ℕ) → lines_of rest ≡ line ∷ lines_of after → is_divider (text_of line) ≡ true
    → text ≡ report world.config (entries_of world) → entries_of world ≡ run_of world.config events → difference ≡ first_difference (number + 1) (texts_of (lines_of after)) (texts_of (lines_of text))
    → ending_verdict world.config events number (lines_of rest) ≡ on_difference world.config events difference
differs world events number rest line after text difference first divides is run e =
    ap (ending_verdict world.config events number) first ∙ divider_at world.config events number line (lines_of after) divides
    ∙ ap (λ (t : List ℕ). on_difference world.config events (first_difference (number + 1) (texts_of (lines_of after)) (texts_of (lines_of t)))) (sym (is ∙ ap (report world.config) run))
    ∙ ap (on_difference world.config events) (sym e)

pub report_right : (world : WorldState) (events : List Event) (number : ℕ) (rest line after text : List ℕ) (difference : Option ℕ) → lines_of rest ≡ line ∷ lines_of after → is_divider (text_of line) ≡ true
    → text ≡ report world.config (entries_of world) → entries_of world ≡ run_of world.config events → difference ≡ first_difference (number + 1) (texts_of (lines_of after)) (texts_of (lines_of text)) → difference ≡ None
    → IsUpheld (ending_verdict world.config events number (lines_of rest)) world
report_right world events number rest line after text difference first divides is run e none = record {
  events = events;
  ruled = differs world events number rest line after text difference first divides is run e ∙ ap (on_difference world.config events) none;
  run = run;
}

pub report_wrong : (world : WorldState) (events : List Event) (number : ℕ) (rest line after text : List ℕ) (difference : Option ℕ) (where_it_is : ℕ) → lines_of rest ≡ line ∷ lines_of after → is_divider (text_of line) ≡ true
    → text ≡ report world.config (entries_of world) → entries_of world ≡ run_of world.config events → difference ≡ first_difference (number + 1) (texts_of (lines_of after)) (texts_of (lines_of text)) → difference ≡ Some where_it_is
    → Refuses (ending_verdict world.config events number (lines_of rest)) (unaudited.Bad where_it_is reason.WrongReport world.records)
report_wrong world events number rest line after text difference where_it_is first divides is run e some = record {
  before = said world.config events;
  ruled = differs world events number rest line after text difference first divides is run e ∙ ap (on_difference world.config events) some;
  run = run;
}

-- ---- the trace, and the lines after it

pub verdict_parts : (lines : List (List ℕ)) → lines_verdict lines ≡ on_script (script_of (trace_lines lines)) (length (trace_lines lines) + 1) (after_trace lines)
unfolding lines_verdict
verdict_parts lines = refl

-- the first bytes are read as the lines of the trace
pub head_reads : (bytes head : List ℕ) → lines_of head ≡ trace_lines (lines_of bytes) → reading head ≡ script_of (trace_lines (lines_of bytes))
head_reads bytes head is = sym (reading_opens store_language head) ∙ ap script_of is

not_played : (read : Reading) (number : ℕ) (lines : List (List ℕ)) (why : Unplayed) → Stops read why → Refuses (on_script read number lines) (unaudited_of why)
not_played read number lines unplayed.NoMemory stops = tt
not_played read number lines (unplayed.Bad line why records) stops = record { before = stops.before; ruled = ap (λ r. on_script r number lines) stops.says; run = stops.run }

pub trace_refused : (bytes head : List ℕ) (why : Unplayed) → lines_of head ≡ trace_lines (lines_of bytes) → Stops (reading head) why → Refuses (lines_verdict (lines_of bytes)) (unaudited_of why)
trace_refused bytes head why is stops =
    let lines = lines_of bytes in
    subst (λ v. Refuses v (unaudited_of why)) (sym (verdict_parts lines)) (not_played (script_of (trace_lines lines)) (length (trace_lines lines) + 1) (after_trace lines) why (subst (λ r. Stops r why) (head_reads bytes head is) stops))

-- a trace shows nothing, so its text is the report
pub trace_text : (bytes head : List ℕ) (played : Played) → lines_of head ≡ trace_lines (lines_of bytes) → IsPlayed (reading head) played → played.text.items ≡ report played.world.config (entries_of played.world)
trace_text bytes head played is p =
    let whole = sym (head_reads bytes head is) ∙ p.whole in
    let none = shows_nothing played.world.config p.said (lines_of bytes) whole in
    p.text ∙ ap (λ shown. shown_text played.world.config shown ++ report played.world.config (run_of played.world.config p.said.events)) none ∙ ap (report played.world.config) (sym p.run)

pub trace_played : (bytes head rest : List ℕ) (count : ℕ) (played : Played) (result : Result WorldState Unaudited) → lines_of head ≡ trace_lines (lines_of bytes) → lines_of rest ≡ after_trace (lines_of bytes) → count ≡ length (trace_lines (lines_of bytes))
    → (p : IsPlayed (reading head) played) → Judges (ending_verdict played.world.config p.said.events (count + 1) (lines_of rest)) result → Judges (lines_verdict (lines_of bytes)) result
trace_played bytes head rest count played result is left counted p judged =
    let lines = lines_of bytes in
    let whole : script_of (trace_lines lines) ≡ Whole played.world.config p.said = sym (head_reads bytes head is) ∙ p.whole in
    let same : lines_verdict lines ≡ ending_verdict played.world.config p.said.events (count + 1) (lines_of rest) =
    verdict_parts lines ∙ ap (λ r. on_script r (length (trace_lines lines) + 1) (after_trace lines)) whole
    ∙ ap (λ n. ending_verdict played.world.config p.said.events (n + 1) (after_trace lines)) (sym counted)
    ∙ ap (ending_verdict played.world.config p.said.events (count + 1)) (sym left) in
    subst (λ v. Judges v result) (sym same) judged

-- ---- a line that is too long

pub verdict_short : (bytes : List ℕ) → nat_le (length bytes) MOST_BYTES ≡ true → verdict bytes ≡ lines_verdict (lines_of bytes)
unfolding verdict
verdict_short bytes le = rw le refl

pub verdict_long : (bytes : List ℕ) → nat_le (length bytes) MOST_BYTES ≡ false → verdict bytes ≡ too_long_after (length (short_lines 0 (lines_of bytes))) (lines_verdict (short_lines 0 (lines_of bytes)))
unfolding verdict
verdict_long bytes gt = rw gt refl

pub judged_short : (bytes : List ℕ) (result : Result WorldState Unaudited) → nat_le (length bytes) MOST_BYTES ≡ true → Judges (lines_verdict (lines_of bytes)) result → Judges (verdict bytes) result
judged_short bytes result le judged = subst (λ v. Judges v result) (sym (verdict_short bytes le)) judged

pub judged_long : (bytes head : List ℕ) (count : ℕ) (result : Unaudited) → nat_le (length bytes) MOST_BYTES ≡ false → lines_of head ≡ short_lines 0 (lines_of bytes) → count ≡ length (short_lines 0 (lines_of bytes))
    → Refuses (too_long_after count (lines_verdict (lines_of head))) result → Refuses (verdict bytes) result
judged_long bytes head count result gt is counted refuses =
    let same : too_long_after count (lines_verdict (lines_of head)) ≡ verdict bytes =
    ap (λ n. too_long_after n (lines_verdict (lines_of head))) counted ∙ ap (λ ls. too_long_after (length (short_lines 0 (lines_of bytes))) (lines_verdict ls)) is ∙ sym (verdict_long bytes gt) in
    subst (λ v. Refuses v result) same refuses
