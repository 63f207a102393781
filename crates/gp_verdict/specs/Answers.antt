-- The result of an audit.
use Rattle.std.specs.Prelude.{◌≡◌, ℕ, List, Option, Result, Ok, Err}
use Rattle.gp_msg.specs.declared.event.Event.{Event}
use Rattle.gp_msg.specs.declared.record.Record.{Record}
use Rattle.gp_run.specs.Runs.{run_of, newest_first}
use Rattle.gp_world.specs.State.{WorldState, entries_of}
use Rattle.gp_text.specs.declared.played.Unplayed.{Unplayed}
use Rattle.gp_text.specs.declared.played.Unplayed.TheVariants as unplayed
use Rattle.gp_text.specs.Reading.{Script, run_before}
use Rattle.gp_script.specs.declared.reason.Reason.{Reason}
use Rattle.gp_verdict.specs.declared.answer.Audited.{Audited}
use Rattle.gp_verdict.specs.declared.answer.Unaudited.{Unaudited}
use Rattle.gp_verdict.specs.declared.answer.Unaudited.TheVariants as unaudited
use Rattle.gp_verdict.specs.Verdicts.{Verdict, Upheld, Rejected}
use Rattle.gp_verdict.specs.Certified.{IsCertified}

-- why an input is not audited, if its trace is not played for this reason
abbrev pub unaudited_of : Unplayed → Unaudited
unaudited_of unplayed.NoMemory = unaudited.NoMemory
unaudited_of (unplayed.Bad line why records) = unaudited.Bad line why records

-- the input is refused, and the records are those of the events before the refused line
pub record IsRejected (ruling : Verdict) (line : ℕ) (why : Reason) (records : List Record) : Type 0 where
  pub before : Option Script
  pub ruled : ruling ≡ Rejected line why before
  pub run : newest_first records ≡ run_before before

-- the input is what a legal run prints, and the world has that run
pub record IsUpheld (ruling : Verdict) (world : WorldState) : Type 0 where
  pub events : List Event
  pub ruled : ruling ≡ Upheld world.config events
  pub run : entries_of world ≡ run_of world.config events

-- why an input is not audited, unless memory ran out
abbrev pub Refuses : Verdict → Unaudited → Type 0
Refuses ruling unaudited.NoMemory = Unit {0}
Refuses ruling (unaudited.Bad line why records) = IsRejected ruling line why records

-- the world of an input, or why there is none
abbrev pub Judges : Verdict → Result WorldState Unaudited → Type 0
Judges ruling (Ok world) = IsUpheld ruling world
Judges ruling (Err e) = Refuses ruling e

-- the input is what a legal run prints; the world has that run, and the text has a certificate for each command that its learners learned
pub record IsAudited (ruling : Verdict) (audited : Audited) : Type 0 where
  pub upheld : IsUpheld ruling audited.world
  pub certified : IsCertified audited.world.config (entries_of audited.world) audited.text.items

abbrev pub Audits : Verdict → Result Audited Unaudited → Type 0
Audits ruling (Ok audited) = IsAudited ruling audited
Audits ruling (Err e) = Refuses ruling e
