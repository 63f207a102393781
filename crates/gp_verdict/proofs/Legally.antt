-- What a trace says is legal, whatever the verdict on the input is.
use Rattle.std.proofs.Common.{◌≡◌, ℕ, ◌+◌, Bool, true, false, List, [], ◌∷◌, ◌++◌, length, Option, Some, None, refl, sym, ap, subst, ◌∙◌, append_assoc}
use Rattle.std.specs.Prelude.{nat_le}
use Rattle.std.proofs.lemmas.List.{append-nil}
use Rattle.gp_history.proofs.Tests.{by_cases}
use Rattle.gp_round.specs.Counts.{Counts}
use Rattle.gp_msg.specs.declared.event.Event.{Event}
use Rattle.gp_words.specs.Lines.{lines_of, text_of}
use Rattle.gp_world.specs.State.{WorldState, entries_of}
use Rattle.gp_service.specs.Stores.{store_language}
use Rattle.gp_report.specs.Texts.{report}
use Rattle.gp_report.specs.Replicas.{IsInAgreement}
use Rattle.gp_run.specs.Runs.{run_of}
use Rattle.gp_text.specs.declared.limits.TheConstants.{MOST_BYTES}
use Rattle.gp_text.specs.Reading.{Reading, Whole, Refused, holds_limit, reading}
use Rattle.gp_text.specs.Limits.{IsLegalScript, SaysLegally}
use Rattle.gp_text.proofs.LineSteps.{reading_opens}
use Rattle.gp_text.proofs.SaidLegally.{reading_legal}
use Rattle.gp_verdict.specs.Parts.{texts_of, is_divider, ends_trace, trace_lines, after_trace, short_lines, first_difference}
use Rattle.gp_verdict.specs.Verdicts.{Verdict, Upheld, Rejected, script_of, on_difference, ending_verdict, on_script, lines_verdict, too_long_after, verdict, RulesLegally}
use Rattle.gp_verdict.specs.Answers.{IsUpheld}
use Rattle.gp_verdict.proofs.LineHeads.{joined, heads_lines}
use Rattle.gp_verdict.proofs.Judged.{verdict_parts}

-- ---- first lines of a text

-- these are the first ones of those lines
record AreFirst (heads lines : List (List ℕ)) : Type 0 where
  others : List (List ℕ)
  whole : lines ≡ heads ++ others

first_of_first : (heads lines all : List (List ℕ)) → AreFirst heads lines → AreFirst lines all → AreFirst heads all
first_of_first heads lines all a b = record { others = a.others ++ b.others; whole = b.whole ∙ ap (λ (ls : List (List ℕ)). ls ++ b.others) a.whole ∙ append_assoc heads a.others b.others }

trace_first_at : (line : List ℕ) (lines : List (List ℕ)) (ends : Bool) → ends_trace (text_of line) ≡ ends → AreFirst (trace_lines lines) lines → AreFirst (trace_lines (line ∷ lines)) (line ∷ lines)
unfolding trace_lines
trace_first_at line lines true is a = rw is (record { others = line ∷ lines; whole = refl })
trace_first_at line lines false is a = rw is (record { others = a.others; whole = ap (λ (ls : List (List ℕ)). line ∷ ls) a.whole })

trace_first : (lines : List (List ℕ)) → AreFirst (trace_lines lines) lines
unfolding trace_lines
trace_first [] = record { others = []; whole = refl }
trace_first (line ∷ lines) = trace_first_at line lines (ends_trace (text_of line)) refl (trace_first lines)

short_first_at : (place : ℕ) (line : List ℕ) (lines : List (List ℕ)) (long : Bool) → holds_limit place line ≡ long → AreFirst (short_lines (place + length line) lines) lines → AreFirst (short_lines place (line ∷ lines)) (line ∷ lines)
unfolding short_lines
short_first_at place line lines true is a = rw is (record { others = line ∷ lines; whole = refl })
short_first_at place line lines false is a = rw is (record { others = a.others; whole = ap (λ (ls : List (List ℕ)). line ∷ ls) a.whole })

short_first : (place : ℕ) (lines : List (List ℕ)) → AreFirst (short_lines place lines) lines
unfolding short_lines
short_first place [] = record { others = []; whole = refl }
short_first place (line ∷ lines) = short_first_at place line lines (holds_limit place line) refl (short_first (place + length line) lines)

-- what the first lines of a text say is legal
first_legal : (bytes : List ℕ) (heads : List (List ℕ)) → AreFirst heads (lines_of bytes) → SaysLegally (script_of heads)
first_legal bytes heads a =
    let same : reading (joined heads) ≡ script_of heads = sym (reading_opens store_language (joined heads)) ∙ ap script_of (heads_lines bytes heads a.others a.whole) in
    subst SaysLegally same (reading_legal (joined heads))

-- ---- the verdict

difference_legal : (config : Counts) (events : List Event) (difference : Option ℕ) → IsLegalScript config events → RulesLegally (on_difference config events difference)
difference_legal config events None legal = legal
difference_legal config events (Some line) legal = legal

ending_legal_at : (config : Counts) (events : List Event) (number : ℕ) (line : List ℕ) (lines : List (List ℕ)) (divides : Bool) → is_divider (text_of line) ≡ divides → IsLegalScript config events → RulesLegally (ending_verdict config events number (line ∷ lines))
unfolding ending_verdict
ending_legal_at config events number line lines true is legal = rw is (difference_legal config events (first_difference (number + 1) (texts_of lines) (texts_of (lines_of (report config (run_of config events))))) legal)
ending_legal_at config events number line lines false is legal = rw is legal

ending_legal : (config : Counts) (events : List Event) (number : ℕ) (lines : List (List ℕ)) → IsLegalScript config events → RulesLegally (ending_verdict config events number lines)
unfolding ending_verdict
ending_legal config events number [] legal = legal
ending_legal config events number (line ∷ lines) legal = ending_legal_at config events number line lines (is_divider (text_of line)) refl legal

script_legal : (read : Reading) (number : ℕ) (lines : List (List ℕ)) → SaysLegally read → RulesLegally (on_script read number lines)
script_legal (Whole config sofar) number lines legal = ending_legal config sofar.events number lines legal
script_legal (Refused line why before) number lines legal = legal

lines_legal : (bytes : List ℕ) (lines : List (List ℕ)) → AreFirst lines (lines_of bytes) → RulesLegally (lines_verdict lines)
lines_legal bytes lines a =
    subst RulesLegally (sym (verdict_parts lines))
    (script_legal (script_of (trace_lines lines)) (length (trace_lines lines) + 1) (after_trace lines) (first_legal bytes (trace_lines lines) (first_of_first (trace_lines lines) lines (lines_of bytes) (trace_first lines) a)))

too_long_legal : (count : ℕ) (ruling : Verdict) → RulesLegally ruling → RulesLegally (too_long_after count ruling)
too_long_legal count (Upheld config events) legal = legal
too_long_legal count (Rejected line why before) legal = by_cases (nat_le line count) (λ le. rw le legal) (λ gt. rw gt legal)

pub rules_legally : (bytes : List ℕ) → RulesLegally (verdict bytes)
unfolding verdict
rules_legally bytes =
    by_cases (nat_le (length bytes) MOST_BYTES)
    (λ le. rw le (lines_legal bytes (lines_of bytes) (record { others = []; whole = sym (append-nil (lines_of bytes)) })))
    (λ gt. rw gt (too_long_legal (length (short_lines 0 (lines_of bytes))) (lines_verdict (short_lines 0 (lines_of bytes))) (lines_legal bytes (short_lines 0 (lines_of bytes)) (short_first 0 (lines_of bytes)))))

-- a run that is upheld is in agreement
pub upheld_agrees : (bytes : List ℕ) (world : WorldState) → IsUpheld (verdict bytes) world → IsInAgreement world.config (entries_of world)
upheld_agrees bytes world u =
    let legal : IsLegalScript world.config u.events = subst RulesLegally u.ruled (rules_legally bytes) in
    subst (IsInAgreement world.config) (sym u.run) legal.agreement
