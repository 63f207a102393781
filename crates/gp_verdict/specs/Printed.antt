-- What a run prints.
use Rattle.std.specs.Prelude.{◌≡◌, ◌≤◌, ℕ, ◌+◌, Option, List, [], ◌∷◌, ◌++◌, length, codes}
use Rattle.gp_round.specs.Counts.{Counts}
use Rattle.gp_msg.specs.declared.event.Event.{Event}
use Rattle.gp_msg.specs.Messages.{Entry}
use Rattle.gp_run.specs.Runs.{run_of, oldest_first}
use Rattle.gp_words.specs.Lines.{lines_of, text_of}
use Rattle.gp_world.specs.State.{entries_of}
use Rattle.gp_report.specs.Texts.{report}
use Rattle.gp_text.specs.declared.limits.TheConstants.{MOST_BYTES}
use Rattle.gp_text.specs.Reading.{Whole, Script}
use Rattle.gp_text.specs.Traces.{trace}
use Rattle.gp_verdict.specs.declared.answer.Audited.{Audited}
use Rattle.gp_verdict.specs.Parts.{texts_of, PartAt}
use Rattle.gp_verdict.specs.Verdicts.{said, script_of}
use Rattle.gp_verdict.specs.Certified.{IsCertified}

-- the trace of a run, a line `--`, and its report
abbrev pub printed : Counts → List Entry → List ℕ
printed config run = trace config (oldest_first run) ++ codes "--\n" ++ report config run

-- a script of the key store that says these events and shows nothing, a line `--`, and the lines of the report of their run; the last line may lack its line feed
pub record IsPrinted (bytes : List ℕ) (config : Counts) (events : List Event) : Type 0 where
  pub short : length bytes ≤ MOST_BYTES
  pub script : List (List ℕ)
  pub divider : List ℕ
  pub reported : List (List ℕ)
  pub lines : lines_of bytes ≡ script ++ divider ∷ reported
  pub says : script_of script ≡ Whole config (record { events = events; shown = [] })
  pub divides : text_of divider ≡ codes "--"
  pub reports : texts_of reported ≡ texts_of (lines_of (report config (run_of config events)))

-- these lines are a script of the key store that says a run and shows nothing, and a line `--` does not follow
pub record LacksReport (lines : List (List ℕ)) (line : ℕ) (before : Option Script) : Type 0 where
  pub config : Counts
  pub events : List Event
  pub says : script_of lines ≡ Whole config (record { events = events; shown = [] })
  pub line_is : line ≡ length lines + 1
  pub before_is : before ≡ said config events

-- these lines are such a script, a line `--`, and lines that differ from those of the report, at first at this line
pub record HasWrongReport (lines : List (List ℕ)) (line : ℕ) (before : Option Script) : Type 0 where
  pub config : Counts
  pub events : List Event
  pub script : List (List ℕ)
  pub divider : List ℕ
  pub reported : List (List ℕ)
  pub parts : lines ≡ script ++ divider ∷ reported
  pub says : script_of script ≡ Whole config (record { events = events; shown = [] })
  pub divides : text_of divider ≡ codes "--"
  pub wrong : PartAt (length script + 2) (texts_of reported) (texts_of (lines_of (report config (run_of config events)))) line
  pub before_is : before ≡ said config events

-- the run was audited, and its certificates were printed
pub record IsAuditedRun (config : Counts) (run : List Entry) (audited : Audited) : Type 0 where
  pub config_is : audited.world.config ≡ config
  pub run_is : entries_of audited.world ≡ run
  pub certified : IsCertified config run audited.text.items
