-- What the statuses say of audits of what a run printed.
use Rattle.std.specs.Prelude.{◌≡◌, ℕ, List, Option, Some}
use Rattle.gp_round.specs.Counts.{Counts}
use Rattle.gp_msg.specs.declared.event.Event.{Event}
use Rattle.gp_msg.specs.declared.record.Record.{Record}
use Rattle.gp_run.specs.Runs.{run_of, newest_first}
use Rattle.gp_edge.specs.Writes.{AppendsWhole}
use Rattle.gp_service.specs.Stores.{store_language}
use Rattle.gp_text.specs.Reading.{Script, run_before}
use Rattle.gp_text.specs.Limits.{IsLegalScript, IsLegalBefore, IsSayable}
use Rattle.gp_retelling.specs.Texts.{run_text}
use Rattle.gp_script.specs.declared.reason.Reason.{Reason}
use Rattle.gp_verdict.specs.Verdicts.{Rejected, verdict}
use Rattle.gp_verdict.specs.Certified.{IsCertified}
use Rattle.gp_verdict.specs.Printed.{IsPrinted}
use Rattle.gp_cli.specs.declared.subcommand.Subcommand.TheVariants.{Audit}
use Rattle.gp_cli.specs.Subcommands.{named}
use Rattle.gp_cli.specs.Texts.{refusal_text}
use Rattle.gp_cli.specs.Outside.{DeviceState, Outside, Told}
use Rattle.gp_cli.specs.Audits.{HasReadInput}

-- the source reveals its bytes, and they are what some run prints that a script can say
abbrev pub HoldsPrinted : DeviceState → Type 0
HoldsPrinted source = (rest : List ℕ) × (config : Counts) × (events : List Event) × (source.bytes ≡ Some rest) × IsPrinted rest config events

-- the source reveals its bytes, and no such run prints them
abbrev pub HoldsOther : DeviceState → Type 0
HoldsOther source = (rest : List ℕ) × (source.bytes ≡ Some rest) × ((config : Counts) (events : List Event) → ¬ IsPrinted rest config events)

-- the source reveals its bytes, and they are what `run` or `adapt` prints for these records, which are a legal run that a script can say
pub record HoldsRun (config : Counts) (list : List Record) (source : DeviceState) : Type 0 where
  pub run : IsSayable store_language config (newest_first list)
  pub bytes : source.bytes ≡ Some (run_text config list)

-- all that was read is what a run prints, which is legal and in agreement; the trail is this run, and all its certificates were written without a fault
pub record AuditsRun (before now : Outside) (trail : List Record) : Type 0 where
  pub config : Counts
  pub events : List Event
  pub text : List ℕ
  pub read : HasReadInput before.source now.source (λ bytes. IsPrinted bytes config events)
  pub legal : IsLegalScript config events
  pub run : newest_first trail ≡ run_of config events
  pub certified : IsCertified config (run_of config events) text
  pub steady : now.sink.faults ≡ before.sink.faults
  pub written : AppendsWhole before.sink.bytes now.sink.bytes text

-- the words name an audit, which refuses a line of what was read; what its trace said before that line is legal and in agreement, the trail is its run, and the line and the reason were printed
pub record RejectsInput (words : List (List ℕ)) (before now : Outside) (status : ℕ) (trail : List Record) : Type 0 where
  pub is_audit : named words ≡ Some Audit
  pub line : ℕ
  pub reason : Reason
  pub said : Option Script
  pub read : HasReadInput before.source now.source (λ bytes. verdict bytes ≡ Rejected line reason said)
  pub legal : IsLegalBefore said
  pub run : newest_first trail ≡ run_before said
  pub told : Told before.sink now.sink (refusal_text line reason) 3 3 status
