-- What is refused for its report.
use Rattle.std.proofs.Common.{◌≡◌, ℕ, ◌+◌, ◌≤◌, Bool, true, false, List, [], ◌∷◌, ◌++◌, length, Option, Some, None, refl, sym, ap, subst, ◌∙◌, arith}
use Rattle.std.specs.Prelude.{codes}
use Rattle.std.proofs.lemmas.Bool.{le-leb}
use Rattle.std.proofs.lemmas.List.{append-nil}
use Rattle.std.proofs.lemmas.Slice.Eq.{bytes_eq-Decides}
use Rattle.gp_round.specs.Counts.{Counts}
use Rattle.gp_msg.specs.declared.event.Event.{Event}
use Rattle.gp_run.specs.Runs.{run_of}
use Rattle.gp_words.specs.Lines.{lines_of, text_of}
use Rattle.gp_script.specs.declared.reason.Reason.TheVariants.{BadLine}
use Rattle.gp_script.specs.Reasons.{is_of_report}
use Rattle.gp_service.specs.Stores.{store_language}
use Rattle.gp_text.proofs.RefusedLines.{reason_own}
use Rattle.gp_report.specs.Texts.{report}
use Rattle.gp_text.specs.declared.limits.TheConstants.{MOST_BYTES}
use Rattle.gp_text.specs.Reading.{Reading, Whole, Refused, Script, Sofar}
use Rattle.gp_script.specs.declared.reason.Reason.{Reason}
use Rattle.gp_script.specs.declared.reason.Reason.TheVariants as reason
use Rattle.gp_verdict.specs.Parts.{texts_of, is_divider, trace_lines, after_trace, first_difference, PartAt}
use Rattle.gp_verdict.specs.Verdicts.{Rejected, said, script_of, on_difference, ending_verdict, on_script, verdict}
use Rattle.gp_verdict.specs.Printed.{LacksReport, HasWrongReport}
use Rattle.gp_verdict.proofs.Differences.{difference_parts, parts_differ}
use Rattle.gp_verdict.proofs.Shown.{shows_nothing, ends_nowhere, parted, whole_trace}
use Rattle.gp_verdict.proofs.Judged.{verdict_parts, verdict_short, divider_at, no_divider_at}
use Rattle.gp_verdict.proofs.UpheldInputs.{divider_ends, trace_parts}

-- ---- the lines after a trace

-- the lines after a trace that said these events, the first of which has this number, are refused so
abbrev IsMissing : Counts → List Event → ℕ → List (List ℕ) → ℕ → Option Script → Type 0
IsMissing own events number lines line before = (lines ≡ []) × (line ≡ number) × (before ≡ said own events)

record IsWrong (own : Counts) (events : List Event) (number : ℕ) (lines : List (List ℕ)) (line : ℕ) (before : Option Script) : Type 0 where
  divider : List ℕ
  reported : List (List ℕ)
  parts : lines ≡ divider ∷ reported
  divides : text_of divider ≡ codes "--"
  wrong : PartAt (number + 1) (texts_of reported) (texts_of (lines_of (report own (run_of own events)))) line
  before_is : before ≡ said own events

-- what a refusal for the report says of the lines after a trace
record Faulty (why : Reason) (own : Counts) (events : List Event) (number : ℕ) (lines : List (List ℕ)) (line : ℕ) (before : Option Script) : Type 0 where
  missing : why ≡ reason.NoReport → IsMissing own events number lines line before
  wrong : why ≡ reason.WrongReport → IsWrong own events number lines line before

-- the reasons differ
unlike : (why : Reason) → reason.WrongReport ≡ why → why ≡ reason.NoReport → ⊥
unlike why is none = absurd cc

unlike_missing : (why : Reason) → BadLine ≡ why → why ≡ reason.NoReport → ⊥
unlike_missing why is none = absurd cc

unlike_wrong : (why : Reason) → BadLine ≡ why → why ≡ reason.WrongReport → ⊥
unlike_wrong why is other = absurd cc

missing_alone : (why : Reason) → reason.NoReport ≡ why → why ≡ reason.WrongReport → ⊥
missing_alone why is other = absurd cc

difference_faulty : (own : Counts) (events : List Event) (number : ℕ) (divider : List ℕ) (reported : List (List ℕ)) (line : ℕ) (why : Reason) (before : Option Script) (difference : Option ℕ)
    → first_difference (number + 1) (texts_of reported) (texts_of (lines_of (report own (run_of own events)))) ≡ difference → text_of divider ≡ codes "--"
    → on_difference own events difference ≡ Rejected line why before → Faulty why own events number (divider ∷ reported) line before
difference_faulty own events number divider reported line why before None is divides e = absurd cc
difference_faulty own events number divider reported line why before (Some place) is divides e =
    let why_is : reason.WrongReport ≡ why = cc in
    let place_is : place ≡ line = cc in
    let before_is : said own events ≡ before = cc in
    record {
      missing = λ none. absurd (unlike why why_is none);
      wrong = λ _. record {
        divider = divider;
        reported = reported;
        parts = refl;
        divides = divides;
        wrong = difference_parts (number + 1) line (texts_of reported) (texts_of (lines_of (report own (run_of own events)))) (is ∙ ap Some place_is);
        before_is = sym before_is;
      };
    }

bad_line_faulty : (own : Counts) (events : List Event) (number : ℕ) (lines : List (List ℕ)) (line : ℕ) (why : Reason) (before : Option Script) → Rejected number BadLine (said own events) ≡ Rejected line why before
    → Faulty why own events number lines line before
bad_line_faulty own events number lines line why before e =
    let why_is : BadLine ≡ why = cc in
    record { missing = λ none. absurd (unlike_missing why why_is none); wrong = λ other. absurd (unlike_wrong why why_is other) }

ending_faulty_at : (own : Counts) (events : List Event) (number : ℕ) (divider : List ℕ) (reported : List (List ℕ)) (line : ℕ) (why : Reason) (before : Option Script) (divides : Bool) → is_divider (text_of divider) ≡ divides
    → ending_verdict own events number (divider ∷ reported) ≡ Rejected line why before → Faulty why own events number (divider ∷ reported) line before
ending_faulty_at own events number divider reported line why before true is e =
    difference_faulty own events number divider reported line why before (first_difference (number + 1) (texts_of reported) (texts_of (lines_of (report own (run_of own events))))) refl
    ((bytes_eq-Decides (text_of divider) (codes "--")).0 is) (sym (divider_at own events number divider reported is) ∙ e)
ending_faulty_at own events number divider reported line why before false is e =
    bad_line_faulty own events number (divider ∷ reported) line why before (sym (no_divider_at own events number divider reported is) ∙ e)

missing_faulty : (own : Counts) (events : List Event) (number line : ℕ) (why : Reason) (before : Option Script) → Rejected number reason.NoReport (said own events) ≡ Rejected line why before → Faulty why own events number [] line before
missing_faulty own events number line why before e =
    let why_is : reason.NoReport ≡ why = cc in
    let line_is : number ≡ line = cc in
    let before_is : said own events ≡ before = cc in
    record { missing = λ _. (refl, sym line_is, sym before_is); wrong = λ other. absurd (missing_alone why why_is other) }

ending_faulty : (own : Counts) (events : List Event) (number : ℕ) (lines : List (List ℕ)) (line : ℕ) (why : Reason) (before : Option Script) → ending_verdict own events number lines ≡ Rejected line why before
    → Faulty why own events number lines line before
unfolding ending_verdict
ending_faulty own events number [] line why before e = missing_faulty own events number line why before e
ending_faulty own events number (divider ∷ reported) line why before e = ending_faulty_at own events number divider reported line why before (is_divider (text_of divider)) refl e

-- ---- the trace

record IsFaulty (why : Reason) (read : Reading) (number : ℕ) (lines : List (List ℕ)) (line : ℕ) (before : Option Script) : Type 0 where
  own : Counts
  sofar : Sofar
  whole : read ≡ Whole own sofar
  faulty : Faulty why own sofar.events number lines line before

-- the trace is whole, since a script is not refused for its report
not_refused : (lines : List (List ℕ)) (wrong : ℕ) (cause : Reason) (earlier : Option Script) (line : ℕ) (why : Reason) (before : Option Script) → script_of lines ≡ Refused wrong cause earlier → is_of_report why ≡ true
    → Rejected wrong cause earlier ≡ Rejected line why before → false ≡ true
not_refused lines wrong cause earlier line why before is of_report e =
    let same : cause ≡ why = cc in
    sym (reason_own store_language 1 0 lines wrong cause earlier is) ∙ ap is_of_report same ∙ of_report

script_faulty : (trace : List (List ℕ)) (read : Reading) (number : ℕ) (lines : List (List ℕ)) (line : ℕ) (why : Reason) (before : Option Script) → script_of trace ≡ read → is_of_report why ≡ true → on_script read number lines ≡ Rejected line why before
    → IsFaulty why read number lines line before
script_faulty trace (Whole own sofar) number lines line why before is of_report e = record { own = own; sofar = sofar; whole = refl; faulty = ending_faulty own sofar.events number lines line why before e }
script_faulty trace (Refused wrong cause earlier) number lines line why before is of_report e = let never = not_refused trace wrong cause earlier line why before is of_report e in absurd cc

lines_faulty : (bytes : List ℕ) (line : ℕ) (why : Reason) (before : Option Script) → length bytes ≤ MOST_BYTES → is_of_report why ≡ true → verdict bytes ≡ Rejected line why before
    → IsFaulty why (script_of (trace_lines (lines_of bytes))) (length (trace_lines (lines_of bytes)) + 1) (after_trace (lines_of bytes)) line before
lines_faulty bytes line why before short of_report e =
    let trace = trace_lines (lines_of bytes) in
    script_faulty trace (script_of trace) (length trace + 1) (after_trace (lines_of bytes)) line why before refl of_report
    (sym (verdict_short bytes (le-leb (length bytes) MOST_BYTES short) ∙ verdict_parts (lines_of bytes)) ∙ e)

-- what the trace says, without what it shows
pub says_events : (lines : List (List ℕ)) (own : Counts) (sofar : Sofar) → script_of (trace_lines lines) ≡ Whole own sofar → script_of (trace_lines lines) ≡ Whole own (record { events = sofar.events; shown = [] })
says_events lines own sofar whole = whole ∙ ap (λ shown. Whole own (record { events = sofar.events; shown = shown })) (shows_nothing own sofar lines whole)

-- ---- no report

pub missing_says : (bytes : List ℕ) (line : ℕ) (before : Option Script) → length bytes ≤ MOST_BYTES → verdict bytes ≡ Rejected line reason.NoReport before → LacksReport (lines_of bytes) line before
missing_says bytes line before short e =
    let f = lines_faulty bytes line reason.NoReport before short refl e in
    let missing = f.faulty.missing refl in
    let lines = lines_of bytes in
    let all : lines ≡ trace_lines lines = trace_parts lines ∙ ap (λ (ls : List (List ℕ)). trace_lines lines ++ ls) missing.0 ∙ append-nil (trace_lines lines) in
    record {
      config = f.own;
      events = f.sofar.events;
      says = ap script_of all ∙ says_events lines f.own f.sofar f.whole;
      line_is = missing.1 ∙ ap (λ (ls : List (List ℕ)). length ls + 1) (sym all);
      before_is = missing.2;
    }

nothing_follows : (config : Counts) (events : List Event) (number : ℕ) → ending_verdict config events number [] ≡ Rejected number reason.NoReport (said config events)
unfolding ending_verdict
nothing_follows config events number = refl

pub says_missing : (bytes : List ℕ) (line : ℕ) (before : Option Script) → length bytes ≤ MOST_BYTES → LacksReport (lines_of bytes) line before → verdict bytes ≡ Rejected line reason.NoReport before
says_missing bytes line before short l =
    let lines = lines_of bytes in
    let own : Sofar = record { events = l.events; shown = [] } in
    let parts = whole_trace lines (ends_nowhere l.config own lines l.says refl) in
    let number = length (trace_lines lines) + 1 in
    verdict_short bytes (le-leb (length bytes) MOST_BYTES short) ∙ verdict_parts lines
    ∙ ap (λ r. on_script r number (after_trace lines)) (ap script_of parts.0 ∙ l.says)
    ∙ ap (ending_verdict l.config l.events number) parts.1
    ∙ nothing_follows l.config l.events number
    ∙ ap (λ n. Rejected n reason.NoReport (said l.config l.events)) (ap (λ (ls : List (List ℕ)). length ls + 1) parts.0 ∙ sym l.line_is)
    ∙ ap (Rejected line reason.NoReport) (sym l.before_is)

-- ---- a wrong report

next_number : (n : ℕ) → (n + 1) + 1 ≡ n + 2
next_number n = omega arith

pub wrong_says : (bytes : List ℕ) (line : ℕ) (before : Option Script) → length bytes ≤ MOST_BYTES → verdict bytes ≡ Rejected line reason.WrongReport before → HasWrongReport (lines_of bytes) line before
wrong_says bytes line before short e =
    let f = lines_faulty bytes line reason.WrongReport before short refl e in
    let w = f.faulty.wrong refl in
    let lines = lines_of bytes in
    record {
      config = f.own;
      events = f.sofar.events;
      script = trace_lines lines;
      divider = w.divider;
      reported = w.reported;
      parts = trace_parts lines ∙ ap (λ (ls : List (List ℕ)). trace_lines lines ++ ls) w.parts;
      says = says_events lines f.own f.sofar f.whole;
      divides = w.divides;
      wrong = subst (λ n. PartAt n (texts_of w.reported) (texts_of (lines_of (report f.own (run_of f.own f.sofar.events)))) line) (next_number (length (trace_lines lines))) w.wrong;
      before_is = w.before_is;
    }

pub says_wrong : (bytes : List ℕ) (line : ℕ) (before : Option Script) → length bytes ≤ MOST_BYTES → HasWrongReport (lines_of bytes) line before → verdict bytes ≡ Rejected line reason.WrongReport before
says_wrong bytes line before short w =
    let lines = lines_of bytes in
    let own : Sofar = record { events = w.events; shown = [] } in
    let ends = divider_ends (text_of w.divider) w.divides in
    let parts = parted w.script w.divider w.reported (ends_nowhere w.config own w.script w.says refl) ends.1 in
    let trace : trace_lines lines ≡ w.script = ap trace_lines w.parts ∙ parts.0 in
    let tail : after_trace lines ≡ w.divider ∷ w.reported = ap after_trace w.parts ∙ parts.1 in
    let number = length w.script + 1 in
    let wanted = texts_of (lines_of (report w.config (run_of w.config w.events))) in
    let found : first_difference (number + 1) (texts_of w.reported) wanted ≡ Some line =
    ap (λ n. first_difference n (texts_of w.reported) wanted) (next_number (length w.script)) ∙ parts_differ (length w.script + 2) line (texts_of w.reported) wanted w.wrong in
    verdict_short bytes (le-leb (length bytes) MOST_BYTES short) ∙ verdict_parts lines
    ∙ ap (λ r. on_script r (length (trace_lines lines) + 1) (after_trace lines)) (ap script_of trace ∙ w.says)
    ∙ ap (λ (ls : List (List ℕ)). ending_verdict w.config w.events (length ls + 1) (after_trace lines)) trace
    ∙ ap (ending_verdict w.config w.events number) tail
    ∙ divider_at w.config w.events number w.divider w.reported ends.0
    ∙ ap (on_difference w.config w.events) found
    ∙ ap (Rejected line reason.WrongReport) (sym w.before_is)
