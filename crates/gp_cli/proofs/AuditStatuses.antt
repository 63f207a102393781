-- What the statuses of an audit say.
use Rattle.std.proofs.Common.{◌≡◌, ℕ, ◌≤◌, ◌⊎◌, inl, inr, List, [], ◌∷◌, ◌++◌, length, map, reverse, take, drop, Option, Some, None, refl, sym, ap, subst, ◌∙◌, arith}
use Rattle.std.specs.Prelude.{IfSome, codes}
use Rattle.std.proofs.lemmas.List.{reverse-append, map-append, length-take, take_all}
use Rattle.gp_round.specs.Counts.{Counts}
use Rattle.gp_msg.specs.declared.event.Event.{Event}
use Rattle.gp_msg.specs.declared.record.Record.{Record}
use Rattle.gp_msg.specs.Messages.{Entry, entry_of}
use Rattle.gp_run.specs.Runs.{newest_first, oldest_first}
use Rattle.gp_edge.specs.Faults.{Rose}
use Rattle.gp_edge.specs.Reads.{ReadsUpTo}
use Rattle.gp_report.specs.Texts.{report}
use Rattle.gp_text.specs.Reading.{Script}
use Rattle.gp_text.specs.Traces.{trace, events_in}
use Rattle.gp_script.specs.declared.reason.Reason.{Reason}
use Rattle.gp_verdict.specs.Verdicts.{Upheld, Rejected, verdict, RulesLegally}
use Rattle.gp_verdict.specs.Printed.{printed, IsPrinted}
use Rattle.gp_verdict.proofs.Legally.{rules_legally}
use Rattle.gp_verdict.proofs.UpheldInputs.{upheld_printed, printed_upheld}
use Rattle.gp_verdict.proofs.PrintedRuns.{run_upheld}
use Rattle.gp_retelling.specs.Texts.{run_text}
use Rattle.gp_cli.specs.declared.runs.TheConstants.{MOST_READ}
use Rattle.gp_cli.specs.declared.subcommand.Subcommand.{Subcommand}
use Rattle.gp_cli.specs.declared.subcommand.Subcommand.TheVariants.{Play, Run, Sim, Drive, Log, Upgrade, Audit}
use Rattle.gp_cli.specs.Outside.{DeviceState, Outside}
use Rattle.gp_cli.specs.Endings.{Ending, Misused, Unread, Refuses, Plays, Drives, Simulates, Shows, DiskFails, Overflows, Breaks, Runs, Rejects, Upholds, Starved, status_of, ending_text, run_to}
use Rattle.gp_cli.specs.Causes.{IsCauseFor}
use Rattle.gp_cli.specs.Audits.{HasReadInput, IsAuditCause}
use Rattle.gp_cli.specs.Logs.{TellsEnding}
use Rattle.gp_cli.specs.AuditRuns.{HoldsPrinted, HoldsOther, HoldsRun, AuditsRun}
use Rattle.gp_cli.proofs.Told.{nothing_left, same_status, one_status, starved_status, done}

-- ---- what was read

-- what holds of the bytes read holds of the first bytes of the source
input_is : (before now : DeviceState) (rest : List ℕ) (Holds : List ℕ → Type 0) → before.bytes ≡ Some rest → HasReadInput before now Holds → Holds (take MOST_READ rest)
input_is before now rest Holds tells read =
    let P : Option (List ℕ) → Type 0 = λ told. ReadsUpTo MOST_READ told now.bytes read.bytes in
    let taken : (read.bytes ≡ take MOST_READ rest) × (now.bytes ≡ Some (drop MOST_READ rest)) = subst P tells read.taken in
    subst Holds taken.0 read.holds

-- an input that is short is taken whole
whole_input : (rest : List ℕ) → length rest ≤ 1048576 → take MOST_READ rest ≡ rest
whole_input rest short = take_all MOST_READ rest (omega (arith, short))

taken_whole : (rest : List ℕ) → length (take MOST_READ rest) ≤ 1048576 → take MOST_READ rest ≡ rest
taken_whole rest short = let count = length-take MOST_READ rest in take_all MOST_READ rest (omega (arith, count, short))

-- ---- what `run` prints

-- the events of the run of some records are those of the records
events_are : (list : List Record) → oldest_first (newest_first list) ≡ events_in list
events_are [] = refl
events_are (r ∷ rs) =
    let event : Entry → Event = λ e. e.event in
    ap (λ l. reverse (map event (map entry_of l))) (reverse-append (r ∷ []) rs)
    ∙ ap (λ l. reverse (map event l)) (map-append entry_of (reverse rs) (r ∷ []))
    ∙ ap reverse (map-append event (newest_first rs) (entry_of r ∷ []))
    ∙ reverse-append (map event (newest_first rs)) (r.event ∷ [])
    ∙ ap (λ l. r.event ∷ l) (events_are rs)

pub run_printed : (config : Counts) (list : List Record) (source : DeviceState) → HoldsRun config list source → HoldsPrinted source
run_printed config list source holds =
    let run = newest_first list in
    let same = events_are list in
    let upheld = let sayable = holds.run in run_upheld config run sayable.range sayable.legal sayable.within in
    let is : IsPrinted (printed config run) config (oldest_first run) = upheld_printed (printed config run) config (oldest_first run) upheld in
    let P : List Event → Type 0 = λ es. IsPrinted (trace config es ++ codes "--\n" ++ report config run) config es in
    (run_text config list, config, events_in list, holds.bytes, subst P same is)

module _ (before now : Outside) (status : ℕ) (trail : List Record) where
  -- the text of an ending went out with its status
  abbrev Tells : Ending → Type 0
  Tells ending = TellsEnding ending before.sink now.sink status

  -- only an audit refuses a line of its input
  pub rejects_at : (sub : Option Subcommand) (line : ℕ) (reason : Reason) (said : Option Script) → IsCauseFor sub before now (Rejects line reason said)
      → (sub ≡ Some Audit) × HasReadInput before.source now.source (λ bytes. verdict bytes ≡ Rejected line reason said)
  rejects_at None line reason said cause = cc
  rejects_at (Some (Play operations)) line reason said cause = absurd cause
  rejects_at (Some (Run policy limit viewed)) line reason said cause = absurd cause
  rejects_at (Some (Sim seed n)) line reason said cause = elim cause [ inl is ↦ cc | inr is ↦ cc ]
  rejects_at (Some (Drive a l n)) line reason said cause = elim cause [ inl is ↦ cc | inr is ↦ cc ]
  rejects_at (Some (Log k)) line reason said cause = absurd cause
  rejects_at (Some (Upgrade k)) line reason said cause = absurd cause
  rejects_at (Some Audit) line reason said cause = (refl, cause)

  -- ---- status 0

  clash : (ending : Ending) → (status_of ending ≡ 0 → ⊥) → Tells ending → status ≡ 0 → ⊥
  clash ending never_well told none_failed = never_well (done ending before.sink now.sink status told none_failed).well

  upholds : (config : Counts) (events : List Event) (text : List ℕ) → IsAuditCause before.source now.source (Upholds config events text) → newest_first trail ≡ run_to (Upholds config events text) → Tells (Upholds config events text) → status ≡ 0 → AuditsRun before now trail
  upholds config events text cause run told none_failed =
      let whole = done (Upholds config events text) before.sink now.sink status told none_failed in
      let ruled = cause.holds in record {
        config = config;
        events = events;
        text = text;
        read = record { bytes = cause.bytes; taken = cause.taken; steady = cause.steady; holds = upheld_printed cause.bytes config events ruled.0 };
        legal = subst RulesLegally ruled.0 (rules_legally cause.bytes);
        run = run;
        certified = ruled.1;
        steady = whole.steady;
        written = whole.written;
      }

  pub audits_run : (ending : Ending) → IsCauseFor (Some Audit) before now ending → newest_first trail ≡ run_to ending → Tells ending → status ≡ 0 → AuditsRun before now trail
  audits_run Misused cause run told none_failed = absurd cause
  audits_run Unread cause run told none_failed = absurd (clash Unread (λ e. cc) told none_failed)
  audits_run (Refuses line reason said) cause run told none_failed = absurd cause
  audits_run (Plays operations config said) cause run told none_failed = absurd cause
  audits_run (Drives config n) cause run told none_failed = absurd cause
  audits_run (Simulates seed n) cause run told none_failed = absurd cause
  audits_run (Shows k log) cause run told none_failed = absurd cause
  audits_run DiskFails cause run told none_failed = absurd cause
  audits_run (Overflows size need) cause run told none_failed = absurd cause
  audits_run (Breaks place) cause run told none_failed = absurd cause
  audits_run (Runs why config list text) cause run told none_failed = absurd cause
  audits_run (Rejects line reason said) cause run told none_failed = absurd (clash (Rejects line reason said) (λ e. cc) told none_failed)
  audits_run (Upholds config events text) cause run told none_failed = upholds config events text cause run told none_failed
  audits_run Starved cause run told none_failed = absurd (clash Starved (λ e. cc) told none_failed)

  -- an audit that ends well, or would have, read its input to the end
  pub audit_left : (ending : Ending) → IsCauseFor (Some Audit) before now ending → status_of ending ≡ 0 → IfSome now.source.bytes (λ rest. rest ≡ [])
  audit_left Misused cause e = absurd cause
  audit_left Unread cause e = cc
  audit_left (Refuses line reason said) cause e = absurd cause
  audit_left (Plays operations config said) cause e = absurd cause
  audit_left (Drives config n) cause e = absurd cause
  audit_left (Simulates seed n) cause e = absurd cause
  audit_left (Shows k log) cause e = absurd cause
  audit_left DiskFails cause e = absurd cause
  audit_left (Overflows size need) cause e = absurd cause
  audit_left (Breaks place) cause e = absurd cause
  audit_left (Runs why config list text) cause e = absurd cause
  audit_left (Rejects line reason said) cause e = cc
  audit_left (Upholds config events text) cause e =
      let ruled = cause.holds in
      let is = upheld_printed cause.bytes config events ruled.0 in
      nothing_left before.source.bytes now.source.bytes cause.bytes cause.taken is.short
  audit_left Starved cause e = cc

  -- ---- completeness

  -- what a run prints is not refused
  not_rejected : (line : ℕ) (reason : Reason) (said : Option Script) → HasReadInput before.source now.source (λ bytes. verdict bytes ≡ Rejected line reason said) → HoldsPrinted before.source → ⊥
  not_rejected line reason said read (rest, config, events, is, holds) =
      let ruled = input_is before.source now.source rest (λ bytes. verdict bytes ≡ Rejected line reason said) is read in
      let differ : Rejected line reason said ≡ Upheld config events = sym ruled ∙ ap verdict (whole_input rest holds.short) ∙ printed_upheld rest config events holds in cc

  pub audit_completes : (ending : Ending) → IsCauseFor (Some Audit) before now ending → Tells ending → HoldsPrinted before.source → ¬ Rose before.source.faults now.source.faults → ¬ Rose before.sink.faults now.sink.faults → (status ≡ 0) ⊎ (status ≡ 1)
  audit_completes Misused cause told holds read_well written_well = absurd cause
  audit_completes Unread cause told holds read_well written_well = absurd (read_well cause.0)
  audit_completes (Refuses line reason said) cause told holds read_well written_well = absurd cause
  audit_completes (Plays operations config said) cause told holds read_well written_well = absurd cause
  audit_completes (Drives config n) cause told holds read_well written_well = absurd cause
  audit_completes (Simulates seed n) cause told holds read_well written_well = absurd cause
  audit_completes (Shows k log) cause told holds read_well written_well = absurd cause
  audit_completes DiskFails cause told holds read_well written_well = absurd cause
  audit_completes (Overflows size need) cause told holds read_well written_well = absurd cause
  audit_completes (Breaks place) cause told holds read_well written_well = absurd cause
  audit_completes (Runs why config list text) cause told holds read_well written_well = absurd cause
  audit_completes (Rejects line reason said) cause told holds read_well written_well = absurd (not_rejected line reason said cause holds)
  audit_completes (Upholds config events text) cause told holds read_well written_well = one_status before.sink now.sink text 0 5 status written_well told
  audit_completes Starved cause told holds read_well written_well = inr (starved_status before.sink now.sink [] status told)

  -- what no run prints is not upheld
  not_upheld : (config : Counts) (events : List Event) → HasReadInput before.source now.source (λ bytes. IsPrinted bytes config events) → HoldsOther before.source → ⊥
  not_upheld config events read (rest, is, other) =
      let holds = input_is before.source now.source rest (λ bytes. IsPrinted bytes config events) is read in
      other config events (subst (λ bytes. IsPrinted bytes config events) (taken_whole rest holds.short) holds)

  pub audit_refuses : (ending : Ending) → IsCauseFor (Some Audit) before now ending → Tells ending → HoldsOther before.source → ¬ Rose before.source.faults now.source.faults → (status ≡ 3) ⊎ (status ≡ 1)
  audit_refuses Misused cause told holds read_well = absurd cause
  audit_refuses Unread cause told holds read_well = absurd (read_well cause.0)
  audit_refuses (Refuses line reason said) cause told holds read_well = absurd cause
  audit_refuses (Plays operations config said) cause told holds read_well = absurd cause
  audit_refuses (Drives config n) cause told holds read_well = absurd cause
  audit_refuses (Simulates seed n) cause told holds read_well = absurd cause
  audit_refuses (Shows k log) cause told holds read_well = absurd cause
  audit_refuses DiskFails cause told holds read_well = absurd cause
  audit_refuses (Overflows size need) cause told holds read_well = absurd cause
  audit_refuses (Breaks place) cause told holds read_well = absurd cause
  audit_refuses (Runs why config list text) cause told holds read_well = absurd cause
  audit_refuses (Rejects line reason said) cause told holds read_well = same_status before.sink now.sink (ending_text (Rejects line reason said)) 3 status told
  audit_refuses (Upholds config events text) cause told holds read_well =
      let ruled = cause.holds in
      let read : HasReadInput before.source now.source (λ bytes. IsPrinted bytes config events) = record { bytes = cause.bytes; taken = cause.taken; steady = cause.steady; holds = upheld_printed cause.bytes config events ruled.0 } in
      absurd (not_upheld config events read holds)
  audit_refuses Starved cause told holds read_well = inr (starved_status before.sink now.sink [] status told)
