-- What is refused at a line of the trace, or because a line is too long.
use Rattle.std.proofs.Common.{◌≡◌, ℕ, ◌+◌, ◌≤◌, ◌<◌, Bool, true, false, cond, List, [], ◌∷◌, ◌++◌, length, Option, Some, None, ◌⊎◌, inl, inr, refl, sym, ap, subst, ◌∙◌, arith}
use Rattle.std.specs.Prelude.{◌||◌, nat_le, nat_lt}
use Rattle.std.specs.List.{All}
use Rattle.std.proofs.lemmas.Bool.{leb-true, leb-false, le-leb, lt-leb}
use Rattle.std.proofs.lemmas.List.{length-append}
use Rattle.std.proofs.lemmas.List.Elements.{All-nil, All-cons}
use Rattle.gp_history.proofs.Tests.{by_cases}
use Rattle.gp_round.specs.Counts.{Counts}
use Rattle.gp_msg.specs.declared.event.Event.{Event}
use Rattle.gp_run.specs.Runs.{run_of}
use Rattle.gp_words.specs.Lines.{lines_of, text_of}
use Rattle.gp_words.specs.Tokens.{tokens_of}
use Rattle.gp_words.proofs.LineLemmas.{lines_whole}
use Rattle.gp_service.specs.Stores.{store_language}
use Rattle.gp_script.specs.declared.reason.Reason.{Reason}
use Rattle.gp_script.specs.declared.reason.Reason.TheVariants.{TooLong, BadLine, NoReport, WrongReport}
use Rattle.gp_script.specs.Reasons.{is_of_report}
use Rattle.gp_report.specs.Texts.{report}
use Rattle.gp_text.specs.declared.limits.TheConstants.{MOST_BYTES}
use Rattle.gp_text.specs.Reading.{Reading, Whole, Refused, Script, Sofar, holds_limit, reading_in}
use Rattle.gp_text.specs.Refusals.{BreaksAt}
use Rattle.gp_text.proofs.LineSteps.{reading_opens}
use Rattle.gp_text.proofs.RefusedLines.{breaks_at, no_more}
use Rattle.gp_round.proofs.Counting.{left_true}
use Rattle.gp_text.proofs.ShortScripts.{before_limit}
use Rattle.gp_verdict.specs.Parts.{texts_of, is_divider, is_show, ends_trace, trace_lines, after_trace, short_lines, first_difference}
use Rattle.gp_verdict.specs.Verdicts.{Verdict, Upheld, Rejected, said, script_of, on_difference, ending_verdict, on_script, lines_verdict, too_long_after, verdict}
use Rattle.gp_verdict.specs.Rejections.{EndsTrace, BreaksTraceAt, ShowsAt, IsBelowLimit, said_in, IsRefusedBelow, IsTooLongAt}
use Rattle.gp_verdict.proofs.LineHeads.{joined, heads_lines, trace_goes, trace_stops, tail_goes, tail_stops, short_goes, short_stops}
use Rattle.gp_verdict.proofs.Judged.{verdict_parts, verdict_short, verdict_long, divider_at, no_divider_at}
use Rattle.gp_verdict.proofs.UpheldInputs.{trace_parts}
use Rattle.gp_verdict.proofs.ReportFaults.{says_events}

-- ---- the lines of a trace, and those behind it

abbrev GoesOn : List ℕ → Type 0
GoesOn line = ends_trace (text_of line) ≡ false

goes_on_at : (line : List ℕ) (lines : List (List ℕ)) (ends : Bool) → ends_trace (text_of line) ≡ ends → All GoesOn (trace_lines lines) → All GoesOn (trace_lines (line ∷ lines))
goes_on_at line lines true is all = subst (λ (ls : List (List ℕ)). All GoesOn ls) (sym (trace_stops line lines is)) (All-nil GoesOn)
goes_on_at line lines false is all = subst (λ (ls : List (List ℕ)). All GoesOn ls) (sym (trace_goes line lines is)) (All-cons GoesOn line (trace_lines lines) is all)

all_go_on : (lines : List (List ℕ)) → All GoesOn (trace_lines lines)
unfolding trace_lines
all_go_on [] = All-nil GoesOn
all_go_on (line ∷ lines) = goes_on_at line lines (ends_trace (text_of line)) refl (all_go_on lines)

ends_at : (line : List ℕ) (lines : List (List ℕ)) (ends : Bool) → ends_trace (text_of line) ≡ ends → EndsTrace (after_trace lines) → EndsTrace (after_trace (line ∷ lines))
ends_at line lines true is rest = subst (λ (ls : List (List ℕ)). EndsTrace ls) (sym (tail_stops line lines is)) is
ends_at line lines false is rest = subst (λ (ls : List (List ℕ)). EndsTrace ls) (sym (tail_goes line lines is)) rest

tail_ends : (lines : List (List ℕ)) → EndsTrace (after_trace lines)
unfolding after_trace
tail_ends [] = tt
tail_ends (line ∷ lines) = ends_at line lines (ends_trace (text_of line)) refl (tail_ends lines)

-- ---- a line of the trace is refused

trace_breaks : (bytes : List ℕ) (line : ℕ) (why : Reason) (before : Option Script) → script_of (trace_lines (lines_of bytes)) ≡ Refused line why before → BreaksTraceAt (lines_of bytes) line why before
trace_breaks bytes line why before refused =
    let lines = lines_of bytes in
    let trace = trace_lines lines in
    let heads : lines_of (joined trace) ≡ trace = heads_lines bytes trace (after_trace lines) (trace_parts lines) in
    let same : reading_in store_language (joined trace) ≡ script_of trace = sym (reading_opens store_language (joined trace)) ∙ ap script_of heads in
    record {
      trace = trace;
      behind = after_trace lines;
      parts = trace_parts lines;
      goes_on = all_go_on lines;
      ends = tail_ends lines;
      breaks = subst (λ (ls : List (List ℕ)). BreaksAt store_language ls line why before) heads (breaks_at store_language (joined trace) line why before (same ∙ refused));
    }

-- ---- a line behind the trace is refused

-- it is the first one, and not the divider; the first one has this number
record IsBad (own : Counts) (events : List Event) (number : ℕ) (lines : List (List ℕ)) (line : ℕ) (why : Reason) (before : Option Script) : Type 0 where
  first : List ℕ
  rest : List (List ℕ)
  parts : lines ≡ first ∷ rest
  divides : is_divider (text_of first) ≡ false
  line_is : line ≡ number
  why_is : why ≡ BadLine
  before_is : before ≡ said own events

difference_bad : (own : Counts) (events : List Event) (difference : Option ℕ) (line : ℕ) (why : Reason) (before : Option Script) → is_of_report why ≡ false → on_difference own events difference ≡ Rejected line why before → false ≡ true
difference_bad own events None line why before of_trace e = absurd cc
difference_bad own events (Some place) line why before of_trace e =
    let same : WrongReport ≡ why = cc in
    sym of_trace ∙ ap is_of_report (sym same)

missing_bad : (own : Counts) (events : List Event) (number line : ℕ) (why : Reason) (before : Option Script) → is_of_report why ≡ false → Rejected number NoReport (said own events) ≡ Rejected line why before → false ≡ true
missing_bad own events number line why before of_trace e =
    let same : NoReport ≡ why = cc in
    sym of_trace ∙ ap is_of_report (sym same)

ending_bad_at : (own : Counts) (events : List Event) (number : ℕ) (first : List ℕ) (rest : List (List ℕ)) (line : ℕ) (why : Reason) (before : Option Script) (divides : Bool) → is_divider (text_of first) ≡ divides → is_of_report why ≡ false
    → ending_verdict own events number (first ∷ rest) ≡ Rejected line why before → IsBad own events number (first ∷ rest) line why before
ending_bad_at own events number first rest line why before true is of_trace e =
    let never = difference_bad own events (first_difference (number + 1) (texts_of rest) (texts_of (lines_of (report own (run_of own events))))) line why before of_trace (sym (divider_at own events number first rest is) ∙ e) in
    absurd cc
ending_bad_at own events number first rest line why before false is of_trace e =
    let same : Rejected number BadLine (said own events) ≡ Rejected line why before = sym (no_divider_at own events number first rest is) ∙ e in
    let line_is : number ≡ line = cc in
    let why_is : BadLine ≡ why = cc in
    let before_is : said own events ≡ before = cc in
    record { first = first; rest = rest; parts = refl; divides = is; line_is = sym line_is; why_is = sym why_is; before_is = sym before_is }

ending_bad : (own : Counts) (events : List Event) (number : ℕ) (lines : List (List ℕ)) (line : ℕ) (why : Reason) (before : Option Script) → is_of_report why ≡ false → ending_verdict own events number lines ≡ Rejected line why before
    → IsBad own events number lines line why before
unfolding ending_verdict
ending_bad own events number [] line why before of_trace e = let never = missing_bad own events number line why before of_trace e in absurd cc
ending_bad own events number (first ∷ rest) line why before of_trace e = ending_bad_at own events number first rest line why before (is_divider (text_of first)) refl of_trace e

shows_then : (divides shows : Bool) → (divides || shows) ≡ true → divides ≡ false → shows ≡ true
shows_then true shows e never = cc
shows_then false shows e never = e

trace_shows : (bytes : List ℕ) (line : ℕ) (why : Reason) (before : Option Script) (own : Counts) (sofar : Sofar) → script_of (trace_lines (lines_of bytes)) ≡ Whole own sofar
    → IsBad own sofar.events (length (trace_lines (lines_of bytes)) + 1) (after_trace (lines_of bytes)) line why before → ShowsAt (lines_of bytes) line why before
trace_shows bytes line why before own sofar whole b =
    let lines = lines_of bytes in
    let ends : ends_trace (text_of b.first) ≡ true = subst (λ (ls : List (List ℕ)). EndsTrace ls) b.parts (tail_ends lines) in
    record {
      config = own;
      events = sofar.events;
      front = trace_lines lines;
      shown = b.first;
      rest = b.rest;
      parts = trace_parts lines ∙ ap (λ (ls : List (List ℕ)). trace_lines lines ++ ls) b.parts;
      says = says_events lines own sofar whole;
      shows = shows_then (is_divider (text_of b.first)) (is_show (tokens_of (text_of b.first))) ends b.divides;
      line_is = b.line_is;
      why_is = b.why_is;
      before_is = b.before_is;
    }

script_bad : (bytes : List ℕ) (read : Reading) (line : ℕ) (why : Reason) (before : Option Script) → script_of (trace_lines (lines_of bytes)) ≡ read → is_of_report why ≡ false
    → on_script read (length (trace_lines (lines_of bytes)) + 1) (after_trace (lines_of bytes)) ≡ Rejected line why before
    → BreaksTraceAt (lines_of bytes) line why before ⊎ ShowsAt (lines_of bytes) line why before
script_bad bytes (Whole own sofar) line why before is of_trace e =
    inr (trace_shows bytes line why before own sofar is (ending_bad own sofar.events (length (trace_lines (lines_of bytes)) + 1) (after_trace (lines_of bytes)) line why before of_trace e))
script_bad bytes (Refused wrong cause earlier) line why before is of_trace e =
    let same : Rejected wrong cause earlier ≡ Rejected line why before = e in
    let line_is : wrong ≡ line = cc in
    let why_is : cause ≡ why = cc in
    let before_is : earlier ≡ before = cc in
    inl (trace_breaks bytes line why before (is ∙ (λ i. Refused (line_is i) (why_is i) (before_is i))))

-- **where an input is refused for a line of its trace**
pub script_breaks : (bytes : List ℕ) (line : ℕ) (why : Reason) (before : Option Script) → length bytes ≤ MOST_BYTES → is_of_report why ≡ false → verdict bytes ≡ Rejected line why before
    → BreaksTraceAt (lines_of bytes) line why before ⊎ ShowsAt (lines_of bytes) line why before
script_breaks bytes line why before short of_trace e =
    script_bad bytes (script_of (trace_lines (lines_of bytes))) line why before refl of_trace (sym (verdict_short bytes (le-leb (length bytes) MOST_BYTES short) ∙ verdict_parts (lines_of bytes)) ∙ e)

-- ---- the lines below the limit

-- among the lines from this place on, those below the limit, and the one behind them
record IsCutAt (place : ℕ) (lines : List (List ℕ)) : Type 0 where
  long : List ℕ
  rest : List (List ℕ)
  parts : lines ≡ short_lines place lines ++ long ∷ rest
  limit : holds_limit (place + length (joined (short_lines place lines))) long ≡ true

joined_size : (line : List ℕ) (lines : List (List ℕ)) → length (joined (line ∷ lines)) ≡ length line + length (joined lines)
joined_size line lines = length-append line (joined lines)

cut_here : (place : ℕ) (line : List ℕ) (lines : List (List ℕ)) → holds_limit place line ≡ true → IsCutAt place (line ∷ lines)
cut_here place line lines long =
    let stops = short_stops place line lines long in
    let place_is : place ≡ place + length (joined (short_lines place (line ∷ lines))) = no_more place ∙ ap (λ (ls : List (List ℕ)). place + length (joined ls)) (sym stops) in
    record {
      long = line;
      rest = lines;
      parts = ap (λ (ls : List (List ℕ)). ls ++ line ∷ lines) (sym stops);
      limit = subst (λ (n : ℕ). holds_limit n line ≡ true) place_is long;
    }

cut_later : (place : ℕ) (line : List ℕ) (lines : List (List ℕ)) → holds_limit place line ≡ false → IsCutAt (place + length line) lines → IsCutAt place (line ∷ lines)
cut_later place line lines short c =
    let more = short_lines (place + length line) lines in
    let goes = short_goes place line lines short in
    let size = joined_size line more in
    let together : (place + length line) + length (joined more) ≡ place + length (joined (line ∷ more)) = omega (arith, size) in
    record {
      long = c.long;
      rest = c.rest;
      parts = ap (λ (ls : List (List ℕ)). line ∷ ls) c.parts ∙ ap (λ (ls : List (List ℕ)). ls ++ c.long ∷ c.rest) (sym goes);
      limit = subst (λ (n : ℕ). holds_limit n c.long ≡ true) (together ∙ ap (λ (ls : List (List ℕ)). place + length (joined ls)) (sym goes)) c.limit;
    }

more_past : (place : ℕ) (line : List ℕ) (lines : List (List ℕ)) → MOST_BYTES < place + length (joined (line ∷ lines)) → MOST_BYTES < (place + length line) + length (joined lines)
more_past place line lines past = let size = joined_size line lines in omega (arith, past, size)

none_past : (place : ℕ) → place ≤ MOST_BYTES → MOST_BYTES < place + 0 → false ≡ true
none_past place near past = absurd (omega (arith, near, past))

cut_at : (place : ℕ) (lines : List (List ℕ)) → place ≤ MOST_BYTES → MOST_BYTES < place + length (joined lines) → IsCutAt place lines
cut_at place [] near past = let never = none_past place near past in absurd cc
cut_at place (line ∷ lines) near past =
    by_cases (holds_limit place line)
    (λ long. cut_here place line lines long)
    (λ short. cut_later place line lines short (cut_at (place + length line) lines (before_limit place line near short) (more_past place line lines past)))

abbrev head_in : List ℕ → List ℕ
head_in bytes = joined (short_lines 0 (lines_of bytes))

record IsHead (bytes : List ℕ) : Type 0 where
  below : IsBelowLimit (head_in bytes) bytes
  lines : lines_of (head_in bytes) ≡ short_lines 0 (lines_of bytes)
  short : length (head_in bytes) ≤ MOST_BYTES

all_past : (bytes : List ℕ) → MOST_BYTES < length bytes → MOST_BYTES < 0 + length (joined (lines_of bytes))
all_past bytes past = let size = ap length (lines_whole bytes) in omega (arith, past, size)

head_is : (bytes : List ℕ) → MOST_BYTES < length bytes → IsHead bytes
head_is bytes past =
    let c = cut_at 0 (lines_of bytes) (omega arith) (all_past bytes past) in
    let same : lines_of (head_in bytes) ≡ short_lines 0 (lines_of bytes) = heads_lines bytes (short_lines 0 (lines_of bytes)) (c.long ∷ c.rest) c.parts in
    let none : 0 + length (head_in bytes) ≡ length (head_in bytes) = omega arith in
    let limit : holds_limit (length (head_in bytes)) c.long ≡ true = subst (λ (n : ℕ). holds_limit n c.long ≡ true) none c.limit in
    record {
      below = record { long = c.long; rest = c.rest; parts = c.parts ∙ ap (λ (ls : List (List ℕ)). ls ++ c.long ∷ c.rest) (sym same); limit = limit };
      lines = same;
      short = leb-true (length (head_in bytes)) MOST_BYTES (left_true (nat_le (length (head_in bytes)) MOST_BYTES) (nat_lt MOST_BYTES (length (head_in bytes) + length c.long)) limit);
    }

-- ---- a line that is too long

-- the verdict on a longer input comes from that on its lines below the limit
long_is : (bytes : List ℕ) → MOST_BYTES < length bytes → IsHead bytes → verdict bytes ≡ too_long_after (length (lines_of (head_in bytes))) (verdict (head_in bytes))
long_is bytes past h =
    let shorts = short_lines 0 (lines_of bytes) in
    let ruled : verdict (head_in bytes) ≡ lines_verdict shorts = verdict_short (head_in bytes) (le-leb (length (head_in bytes)) MOST_BYTES h.short) ∙ ap lines_verdict h.lines in
    verdict_long bytes (lt-leb (length bytes) MOST_BYTES past)
    ∙ ap (λ (ls : List (List ℕ)). too_long_after (length ls) (lines_verdict shorts)) (sym h.lines)
    ∙ ap (too_long_after (length (lines_of (head_in bytes)))) (sym ruled)

-- the verdict refuses none of this many first lines
record Stands (count : ℕ) (ruling : Verdict) : Type 0 where
  stands : (earlier : ℕ) (cause : Reason) (script : Option Script) → ruling ≡ Rejected earlier cause script → count < earlier

upheld_stands : (count : ℕ) (config : Counts) (events : List Event) (earlier : ℕ) (cause : Reason) (script : Option Script) → Upheld config events ≡ Rejected earlier cause script → count < earlier
upheld_stands count config events earlier cause script e = absurd cc

later_stands : (count number : ℕ) (reason_is : Reason) (said_is : Option Script) → nat_le number count ≡ false
    → (earlier : ℕ) (cause : Reason) (script : Option Script) → Rejected number reason_is said_is ≡ Rejected earlier cause script → count < earlier
later_stands count number reason_is said_is gt earlier cause script e =
    let same : number ≡ earlier = cc in
    subst (λ (n : ℕ). count < n) same (leb-false number count gt)

-- what the verdict on the first lines makes of the line behind them
abbrev Rules : ℕ → Verdict → ℕ → Reason → Option Script → Type 0
Rules count ruling line why before =
    ((line ≤ count) × (ruling ≡ Rejected line why before)) ⊎ (Stands count ruling × (line ≡ count + 1) × (why ≡ TooLong) × (before ≡ said_in ruling))

by_test : (test : Bool) (count number : ℕ) (cause : Reason) (script : Option Script) (line : ℕ) (why : Reason) (before : Option Script) → nat_le number count ≡ test
    → cond test (Rejected number cause script) (Rejected (count + 1) TooLong script) ≡ Rejected line why before → Rules count (Rejected number cause script) line why before
by_test true count number cause script line why before is e =
    let same : number ≡ line = cc in
    inl (subst (λ (n : ℕ). n ≤ count) same (leb-true number count is), e)
by_test false count number cause script line why before is e =
    let line_is : count + 1 ≡ line = cc in
    let why_is : TooLong ≡ why = cc in
    let before_is : script ≡ before = cc in
    inr (record { stands = later_stands count number cause script is }, sym line_is, sym why_is, sym before_is)

by_ruling : (count : ℕ) (ruling : Verdict) (line : ℕ) (why : Reason) (before : Option Script) → too_long_after count ruling ≡ Rejected line why before → Rules count ruling line why before
by_ruling count (Upheld config events) line why before e =
    let line_is : count + 1 ≡ line = cc in
    let why_is : TooLong ≡ why = cc in
    let before_is : said config events ≡ before = cc in
    inr (record { stands = upheld_stands count config events }, sym line_is, sym why_is, sym before_is)
by_ruling count (Rejected number cause script) line why before e = by_test (nat_le number count) count number cause script line why before refl e

-- **where an input that is too long is refused**
pub too_long_breaks : (bytes : List ℕ) (line : ℕ) (why : Reason) (before : Option Script) → MOST_BYTES < length bytes → verdict bytes ≡ Rejected line why before
    → IsRefusedBelow bytes line why before ⊎ IsTooLongAt bytes line why before
too_long_breaks bytes line why before past e =
    let h = head_is bytes past in
    elim (by_ruling (length (lines_of (head_in bytes))) (verdict (head_in bytes)) line why before (sym (long_is bytes past h) ∙ e)) [
      | inl early ↦ inl (record { head = head_in bytes; below = h.below; within = early.0; refused = early.1 })
      | inr late ↦ inr (record { head = head_in bytes; below = h.below; stands = late.0.stands; line_is = late.1; why_is = late.2; before_is = late.3 })
    ]
