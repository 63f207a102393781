-- What `run` and `adapt` print, and what `views` prints.
use Rattle.std.specs.Prelude.{◌≡◌, ℕ, List, ◌++◌, codes}
use Rattle.gp_round.specs.Counts.{Counts}
use Rattle.gp_msg.specs.declared.record.Record.{Record}
use Rattle.gp_run.specs.Learned.{learned_at}
use Rattle.gp_run.specs.Runs.{newest_first}
use Rattle.gp_onlookers.specs.declared.looks.Look.{Look}
use Rattle.gp_onlookers.specs.declared.looks.Looks.{Looks}
use Rattle.gp_onlookers.specs.Looks.{AreSeen}
use Rattle.gp_onlookers.specs.Texts.{looks_text}
use Rattle.gp_report.specs.Texts.{report}
use Rattle.gp_text.specs.Traces.{trace, events_in}

-- the trace of the records, a line `--`, and the report of their run
abbrev pub run_text : Counts → List Record → List ℕ
run_text config list = trace config (events_in list) ++ codes "--\n" ++ report config (newest_first list)

-- the same, followed by the order in which a replica ran what learner 0 learned, and by what two readers, with these looks before, saw of the key along that order
abbrev pub IsViewsText : List ℕ → Counts → List Record → List Look → List Look → List ℕ → Type 0
IsViewsText key config list first second text =
    (looks : Looks) × AreSeen key (learned_at config 0 (newest_first list)) first second looks × (text ≡ run_text config list ++ looks_text looks)
