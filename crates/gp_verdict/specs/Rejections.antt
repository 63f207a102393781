-- Inputs that are refused at a line of the trace, or because a line is too long.
use Rattle.std.specs.Prelude.{◌≡◌, ◌≤◌, ◌<◌, ℕ, ◌+◌, true, false, List, [], ◌∷◌, ◌++◌, length, Option}
use Rattle.std.specs.List.{All}
use Rattle.gp_round.specs.Counts.{Counts}
use Rattle.gp_msg.specs.declared.event.Event.{Event}
use Rattle.gp_words.specs.Lines.{lines_of, text_of}
use Rattle.gp_words.specs.Tokens.{tokens_of}
use Rattle.gp_service.specs.Stores.{store_language}
use Rattle.gp_script.specs.declared.reason.Reason.{Reason}
use Rattle.gp_script.specs.declared.reason.Reason.TheVariants.{TooLong, BadLine}
use Rattle.gp_text.specs.Reading.{Whole, Script, holds_limit}
use Rattle.gp_text.specs.Refusals.{BreaksAt}
use Rattle.gp_verdict.specs.Parts.{is_show, ends_trace}
use Rattle.gp_verdict.specs.Verdicts.{Verdict, Upheld, Rejected, said, script_of, verdict}

-- no line is left, or the first one is `--` or a `show` line
abbrev pub EndsTrace : List (List ℕ) → Type 0
EndsTrace [] = Unit {0}
EndsTrace (line ∷ lines) = ends_trace (text_of line) ≡ true

-- the lines before the first one that is `--` or a `show` line are a script of the key store that is refused at this line
pub record BreaksTraceAt (lines : List (List ℕ)) (line : ℕ) (why : Reason) (before : Option Script) : Type 0 where
  pub trace : List (List ℕ)
  pub behind : List (List ℕ)
  pub parts : lines ≡ trace ++ behind
  pub goes_on : All (λ l. ends_trace (text_of l) ≡ false) trace
  pub ends : EndsTrace behind
  pub breaks : BreaksAt store_language trace line why before

-- behind a script of the key store that says a run and shows nothing, this line is a `show` line
pub record ShowsAt (lines : List (List ℕ)) (line : ℕ) (why : Reason) (before : Option Script) : Type 0 where
  pub config : Counts
  pub events : List Event
  pub front : List (List ℕ)
  pub shown : List ℕ
  pub rest : List (List ℕ)
  pub parts : lines ≡ front ++ shown ∷ rest
  pub says : script_of front ≡ Whole config (record { events = events; shown = [] })
  pub shows : is_show (tokens_of (text_of shown)) ≡ true
  pub line_is : line ≡ length front + 1
  pub why_is : why ≡ BadLine
  pub before_is : before ≡ said config events

-- ---- inputs that are too long

-- the head is the lines of an input before the one that holds the first byte that is too many
pub record IsBelowLimit (head bytes : List ℕ) : Type 0 where
  pub long : List ℕ
  pub rest : List (List ℕ)
  pub parts : lines_of bytes ≡ lines_of head ++ long ∷ rest
  pub limit : holds_limit (length head) long ≡ true

-- what the lines of the trace said, all of them or those before the refused one
abbrev pub said_in : Verdict → Option Script
said_in (Upheld config events) = said config events
said_in (Rejected line why before) = before

-- the lines below the limit are refused at one of them, and the input is refused for that
pub record IsRefusedBelow (bytes : List ℕ) (line : ℕ) (why : Reason) (before : Option Script) : Type 0 where
  pub head : List ℕ
  pub below : IsBelowLimit head bytes
  pub within : line ≤ length (lines_of head)
  pub refused : verdict head ≡ Rejected line why before

-- the lines below the limit are refused at none of them, and the input is refused at the next line, after what they said
pub record IsTooLongAt (bytes : List ℕ) (line : ℕ) (why : Reason) (before : Option Script) : Type 0 where
  pub head : List ℕ
  pub below : IsBelowLimit head bytes
  pub stands : (earlier : ℕ) (cause : Reason) (script : Option Script) → verdict head ≡ Rejected earlier cause script → length (lines_of head) < earlier
  pub line_is : line ≡ length (lines_of head) + 1
  pub why_is : why ≡ TooLong
  pub before_is : before ≡ said_in (verdict head)
