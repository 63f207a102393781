-- The verdict on an input: it is what a legal run prints, or it is refused at the first line that breaks a rule.
use Rattle.std.specs.Prelude.{ℕ, ◌+◌, nat_le, List, [], ◌∷◌, length, Option, Some, None, if◌then◌else◌}
use Rattle.gp_round.specs.Counts.{Counts}
use Rattle.gp_msg.specs.declared.event.Event.{Event}
use Rattle.gp_run.specs.Runs.{run_of}
use Rattle.gp_words.specs.Lines.{lines_of, text_of}
use Rattle.gp_service.specs.Stores.{store_language}
use Rattle.gp_script.specs.declared.reason.Reason.TheVariants.{TooLong, BadLine}
use Rattle.gp_report.specs.Texts.{report}
use Rattle.gp_text.specs.declared.limits.TheConstants.{MOST_BYTES}
use Rattle.gp_text.specs.Reading.{Reading, Whole, Refused, Script, reading_from}
use Rattle.gp_text.specs.Limits.{IsLegalScript, IsLegalBefore}
use Rattle.gp_script.specs.declared.reason.Reason.{Reason}
use Rattle.gp_script.specs.declared.reason.Reason.TheVariants as reason
use Rattle.gp_verdict.specs.Parts.{texts_of, is_divider, trace_lines, after_trace, short_lines, first_difference}

-- the configuration and the events of a trace whose report is right, or the first refused line, the reason, and what the lines of the trace before it said, if there was a configuration
pub data Verdict : Type 0 where
  Upheld : Counts → List Event → Verdict
  Rejected : ℕ → Reason → Option Script → Verdict

-- what a trace said
abbrev pub said : Counts → List Event → Option Script
said config events = Some (record { config = config; events = events })

-- what these lines say as a script of the key store
abbrev pub script_of : List (List ℕ) → Reading
script_of lines = reading_from store_language 1 0 lines

-- nothing differs, or the line with this number does
abbrev pub on_difference : Counts → List Event → Option ℕ → Verdict
on_difference config events None = Upheld config events
on_difference config events (Some line) = Rejected line reason.WrongReport (said config events)

-- the lines after the divider, the first of which has this number, against the lines of the report
abbrev pub report_verdict : Counts → List Event → ℕ → List (List ℕ) → Verdict
report_verdict config events number lines =
    on_difference config events (first_difference number (texts_of lines) (texts_of (lines_of (report config (run_of config events)))))

-- the lines after a trace, the first of which has this number: the divider, and the lines of the report
unfoldable pub ending_verdict : Counts → List Event → ℕ → List (List ℕ) → Verdict
ending_verdict config events number [] = Rejected number reason.NoReport (said config events)
ending_verdict config events number (line ∷ lines) =
    if is_divider (text_of line) then report_verdict config events (number + 1) lines
    else Rejected number BadLine (said config events)

-- what the trace says, and the lines after it
abbrev pub on_script : Reading → ℕ → List (List ℕ) → Verdict
on_script (Whole config sofar) number lines = ending_verdict config sofar.events number lines
on_script (Refused line why before) number lines = Rejected line why before

-- the verdict on lines none of which is too long
unfoldable pub lines_verdict : List (List ℕ) → Verdict
lines_verdict lines = on_script (script_of (trace_lines lines)) (length (trace_lines lines) + 1) (after_trace lines)

-- the line after this many first lines is too long; a refusal of one of the first lines takes precedence
abbrev pub too_long_after : ℕ → Verdict → Verdict
too_long_after count (Upheld config events) = Rejected (count + 1) TooLong (said config events)
too_long_after count (Rejected line why before) =
    if nat_le line count then Rejected line why before else Rejected (count + 1) TooLong before

-- the verdict on an input
unfoldable pub verdict : List ℕ → Verdict
verdict bytes =
    if nat_le (length bytes) MOST_BYTES then lines_verdict (lines_of bytes)
    else too_long_after (length (short_lines 0 (lines_of bytes))) (lines_verdict (short_lines 0 (lines_of bytes)))

-- what the trace said is legal: a run of its configuration, within the limits of a script and in agreement
abbrev pub RulesLegally : Verdict → Type 0
RulesLegally (Upheld config events) = IsLegalScript config events
RulesLegally (Rejected line why before) = IsLegalBefore before
