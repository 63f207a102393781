-- The parts of what a run prints: the lines of a trace, a line `--`, and the lines of a report.
use Rattle.std.specs.Prelude.{◌≡◌, ◌≢◌, ℕ, ◌+◌, Bool, false, ◌||◌, List, [], ◌∷◌, ◌++◌, length, map, Option, Some, None, if◌then◌else◌, codes}
use Rattle.std.specs.Str.{bytes_eq}
use Rattle.gp_words.specs.Lines.{text_of}
use Rattle.gp_words.specs.Tokens.{tokens_of}
use Rattle.gp_text.specs.Reading.{holds_limit}

-- the texts of some lines
abbrev pub texts_of : List (List ℕ) → List (List ℕ)
texts_of lines = map text_of lines

-- the text of the line that separates a trace from a report
abbrev pub is_divider : List ℕ → Bool
is_divider text = bytes_eq text (codes "--")

abbrev pub is_show : List (List ℕ) → Bool
is_show [] = false
is_show (word ∷ words) = bytes_eq word (codes "show")

-- a line with this text is not a line of a trace: it is the divider, or it shows something
abbrev pub ends_trace : List ℕ → Bool
ends_trace text = is_divider text || is_show (tokens_of text)

-- the lines before the first one that is not a line of a trace
unfoldable pub trace_lines : List (List ℕ) → List (List ℕ)
trace_lines [] = []
trace_lines (line ∷ lines) = if ends_trace (text_of line) then [] else line ∷ trace_lines lines

-- that line and the lines after it
unfoldable pub after_trace : List (List ℕ) → List (List ℕ)
after_trace [] = []
after_trace (line ∷ lines) = if ends_trace (text_of line) then line ∷ lines else after_trace lines

-- the lines, from this place of the input on, before the first one that contains the first byte past the limit of a script
unfoldable pub short_lines : ℕ → List (List ℕ) → List (List ℕ)
short_lines place [] = []
short_lines place (line ∷ lines) = if holds_limit place line then [] else line ∷ short_lines (place + length line) lines

-- the number of the first place at which two lists of texts differ: their texts there differ, or only one of them has a text there; the first place has this number
unfoldable pub first_difference : ℕ → List (List ℕ) → List (List ℕ) → Option ℕ
first_difference number [] [] = None
first_difference number [] (text ∷ texts) = Some number
first_difference number (text ∷ texts) [] = Some number
first_difference number (text ∷ texts) (other ∷ others) = if bytes_eq text other then first_difference (number + 1) texts others else Some number

-- the first texts of two lists differ, or only one of the lists has a first text
abbrev pub Differ : List (List ℕ) → List (List ℕ) → Type 0
Differ [] [] = ⊥
Differ [] (text ∷ texts) = Unit {0}
Differ (text ∷ texts) [] = Unit {0}
Differ (text ∷ texts) (other ∷ others) = text ≢ other

-- two lists of texts are equal before this place and differ there; the first place has this number
pub record PartAt (number : ℕ) (texts others : List (List ℕ)) (place : ℕ) : Type 0 where
  pub common : List (List ℕ)
  pub left : List (List ℕ)
  pub right : List (List ℕ)
  pub texts_are : texts ≡ common ++ left
  pub others_are : others ≡ common ++ right
  pub place_is : place ≡ number + length common
  pub differ : Differ left right
