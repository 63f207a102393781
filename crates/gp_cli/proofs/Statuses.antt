-- What the statuses of a run say.
use Rattle.std.proofs.Common.{◌≡◌, ℕ, suc, arith, List, [], take, drop, Option, Some, None, Ok, Err, refl, sym, ap, subst, ◌∙◌, ◌⊎◌, inl, inr}
use Rattle.std.specs.Prelude.{◌≢◌, IfSome}
use Rattle.gp_round.specs.Counts.{Counts}
use Rattle.gp_msg.specs.declared.record.Record.{Record}
use Rattle.gp_run.specs.Runs.{newest_first}
use Rattle.gp_edge.specs.Disks.{IfRevealed}
use Rattle.gp_edge.specs.Faults.{Rose}
use Rattle.gp_edge.specs.Reads.{ReadsUpTo}
use Rattle.gp_edge.specs.Writes.{AppendsWhole}
use Rattle.gp_script.specs.declared.reason.Reason.{Reason}
use Rattle.gp_sim.specs.Simulated.{sim_config}
use Rattle.gp_text.specs.Reading.{Reading, Whole, Refused, Script, Sofar, run_before}
use Rattle.gp_text.proofs.ShortScripts.{whole_short}
use Rattle.gp_text.specs.declared.offers.Offers.{Offers}
use Rattle.gp_text.specs.Offering as offers
use Rattle.gp_ending.specs.declared.ends.RunEnd.TheVariants as end
use Rattle.gp_vlog.specs.Files.{Contents, is_limit, read_log}
use Rattle.gp_vlog.proofs.Moments.{told as at_bytes}
use Rattle.gp_cli.specs.declared.runs.TheConstants.{MOST_READ}
use Rattle.gp_cli.specs.declared.subcommand.Operations.{Operations}
use Rattle.gp_cluster.specs.declared.policy.RoundPolicy.{RoundPolicy}
use Rattle.gp_cli.specs.declared.subcommand.Subcommand.{Subcommand}
use Rattle.gp_cli.specs.declared.subcommand.Subcommand.TheVariants.{Play, Run, Sim, Drive, Log, Upgrade, Audit}
use Rattle.gp_cli.specs.Subcommands.{named}
use Rattle.gp_cli.specs.Machines.{profile_of, reading_of, IsInAgreementOfAll}
use Rattle.gp_cli.specs.Outside.{DeviceState, Outside}
use Rattle.gp_cli.specs.Endings.{Ending, Misused, Unread, Refuses, Plays, Drives, Simulates, Shows, DiskFails, Overflows, Breaks, Runs, Rejects, Upholds, Starved, status_of, status_at_fault, ending_text, run_to, config_of}
use Rattle.gp_cli.specs.Causes.{HasRead, IfLog, HasRoomForLast, HasNoRoom, IsCauseFor, IsCause, IsRunCause, driven_config, device_at, disk_used}
use Rattle.gp_cli.specs.Logs.{TellsEnding}
use Rattle.gp_cli.specs.Serving.{IsConfig, IsListOf, Ends, HoldsScript, HoldsBadLine, PlaysWhole, StopsAtLine, Prints, PrintsDriven, PrintsSimulated}
use Rattle.gp_cli.specs.LogRuns.{HoldsLog, HoldsRoomyLog, HoldsFullLog, HoldsNoLog, ShowsLog, ShowsTakenOn, HasNoSpace, IsBrokenAt}
use Rattle.gp_cli.specs.Run.{SomeFailed, HasReadOffers}
use Rattle.gp_cli.specs.AuditRuns.{HoldsPrinted, HoldsOther, HoldsRun, AuditsRun, RejectsInput}
use Rattle.gp_cli.specs.NodesRuns.{RefusesOffers, FillsLog, LosesLog, PrintsNodes, HoldsOffers, HoldsBadOffers, HasRoomForNext, OffersAll, AllCommute, RunsInScriptOrder, RunsNodes, AllReveal, DiskFailed}
use Rattle.gp_cli.proofs.Causes.{read_legal}
use Rattle.gp_cli.proofs.NodesStatuses.{nodes_offered, nodes_left, ran_to_fault, fills_log, breaks_log, changes_log, prints_nodes, nodes_complete, nodes_refuse}
use Rattle.gp_cli.proofs.Audits.{read_before_legal}
use Rattle.gp_cli.proofs.AuditStatuses.{rejects_at, audits_run, audit_completes, run_printed, audit_refuses, audit_left}
use Rattle.gp_cli.proofs.ScriptOrder.{in_script_order}
use Rattle.gp_cli.proofs.Told.{no_records, nothing_left, same_status, one_status, starved_status, done, own_status, sink_failed, no_run_status, never_five}

-- after a whole script nothing is left
whole_left : (operations : Operations) (rest left : DeviceState) (config : Counts) (said : Sofar) → HasRead operations rest left (Whole config said) → IfSome left.bytes (λ bytes. bytes ≡ [])
whole_left operations rest left config said read = nothing_left rest.bytes left.bytes read.bytes read.taken (whole_short (profile_of operations).language read.bytes config said read.says)

-- what was read is what the source told
pub read_is : (operations : Operations) (before now : DeviceState) (rest : List ℕ) (read : Reading) → before.bytes ≡ Some rest → HasRead operations before now read → reading_of operations (take MOST_READ rest) ≡ read
read_is operations before now rest read tells has =
    let P : Option (List ℕ) → Type 0 = λ told. ReadsUpTo MOST_READ told now.bytes has.bytes in
    let taken : (has.bytes ≡ take MOST_READ rest) × (now.bytes ≡ Some (drop MOST_READ rest)) = subst P tells has.taken in
    ap (reading_of operations) (sym taken.0) ∙ has.says

-- ---- by the subcommand

module _ (before now : Outside) (status : ℕ) (trail : List Record) where
  -- the text of an ending went out with its status
  abbrev Tells : Ending → Type 0
  Tells ending = TellsEnding ending before.sink now.sink status

  abbrev Causes : Option Subcommand → Ending → Type 0
  Causes sub ending = IsCauseFor sub before now ending

  -- ---- a script

  played_whole : (operations : Operations) (config : Counts) (said : Sofar) → HasRead operations before.source now.source (Whole config said) → newest_first trail ≡ run_to (Plays operations config said) → Tells (Plays operations config said) → status ≡ 0 → PlaysWhole operations before now trail
  played_whole operations config said read run told none_failed = let whole = done (Plays operations config said) before.sink now.sink status told none_failed in record {
    config = config;
    said = said;
    read = read;
    legal = read_legal operations before.source now.source (Whole config said) read;
    run = run;
    steady = whole.steady;
    written = whole.written;
  }

  clash : (ending : Ending) → (status_of ending ≡ 0 → ⊥) → Tells ending → status ≡ 0 → ⊥
  clash ending never_well told none_failed = never_well (done ending before.sink now.sink status told none_failed).well

  played : (operations : Operations) (ending : Ending) → Causes (Some (Play operations)) ending → newest_first trail ≡ run_to ending → Tells ending → status ≡ 0 → PlaysWhole operations before now trail
  played operations Misused cause run told none_failed = absurd cause
  played operations Unread cause run told none_failed = absurd (clash Unread (λ e. cc) told none_failed)
  played operations (Refuses line reason said) cause run told none_failed = absurd (clash (Refuses line reason said) (λ e. cc) told none_failed)
  played operations (Plays own config said) cause run told none_failed =
      let P : Operations → Type 0 = λ o. newest_first trail ≡ run_to (Plays o config said) in
      let T : Operations → Type 0 = λ o. Tells (Plays o config said) in
      played_whole operations config said cause.1 (subst P cause.0 run) (subst T cause.0 told) none_failed
  played operations (Drives config n) cause run told none_failed = absurd cause
  played operations (Simulates seed n) cause run told none_failed = absurd cause
  played operations (Shows k log) cause run told none_failed = absurd cause
  played operations DiskFails cause run told none_failed = absurd cause
  played operations (Overflows size need) cause run told none_failed = absurd cause
  played operations (Breaks place) cause run told none_failed = absurd cause
  played operations (Runs why config list text) cause run told none_failed = absurd cause
  played operations (Rejects line reason said) cause run told none_failed = absurd cause
  played operations (Upholds config events text) cause run told none_failed = absurd cause
  played operations Starved cause run told none_failed = absurd (clash Starved (λ e. cc) told none_failed)

  -- only a script that is to be played has a refused line
  abbrev RefusedAt : Option Subcommand → ℕ → Reason → Option Script → Type 0
  RefusedAt sub line reason said = (operations : Operations) × (sub ≡ Some (Play operations)) × HasRead operations before.source now.source (Refused line reason said)

  -- and one of nodes that are to run
  abbrev RefusedOffer : Option Subcommand → ℕ → Reason → Option Script → Type 0
  RefusedOffer sub line reason said = (policy : RoundPolicy) × (limit : ℕ) × (viewed : Option (List ℕ)) × (sub ≡ Some (Run policy limit viewed)) × (said ≡ None) × HasReadOffers before.source now.source (λ read. read ≡ offers.RefusedAt line reason)

  refused_at : (sub : Option Subcommand) (line : ℕ) (reason : Reason) (said : Option Script) → Causes sub (Refuses line reason said) → RefusedAt sub line reason said ⊎ RefusedOffer sub line reason said
  refused_at None line reason said cause = cc
  refused_at (Some (Play operations)) line reason said cause = inl (operations, refl, cause)
  refused_at (Some (Run policy limit viewed)) line reason said cause = let said_so = cause.says in inr (policy, limit, viewed, refl, said_so.0, record { bytes = cause.bytes; taken = cause.taken; steady = cause.steady; says = said_so.1 })
  refused_at (Some (Sim seed n)) line reason said cause = elim cause [ inl is ↦ cc | inr is ↦ cc ]
  refused_at (Some (Drive a l n)) line reason said cause = elim cause [ inl is ↦ cc | inr is ↦ cc ]
  refused_at (Some (Log k)) line reason said cause = absurd cause
  refused_at (Some (Upgrade k)) line reason said cause = absurd cause
  refused_at (Some Audit) line reason said cause = absurd cause

  stops : (words : List (List ℕ)) (ending : Ending) → Causes (named words) ending → newest_first trail ≡ run_to ending → IsListOf ending trail → Tells ending → status_of ending ≡ 3
      → StopsAtLine words before now status trail ⊎ RefusesOffers words before now status trail ⊎ RejectsInput words before now status trail
  stops words Misused cause run list told e = cc
  stops words Unread cause run list told e = cc
  stops words (Refuses line reason said) cause run list told e = elim (refused_at (named words) line reason said cause) [
    | inl play ↦ inl (record {
      operations = play.0;
      is_play = play.1;
      line = line;
      reason = reason;
      said = said;
      read = play.2;
      legal = read_legal play.0 before.source now.source (Refused line reason said) play.2;
      run = run;
      told = told;
    })
    | inr offer ↦ inr (inl (record {
      policy = offer.0;
      limit = offer.1;
      viewed = offer.2;
      is_run = offer.3;
      line = line;
      reason = reason;
      read = offer.5;
      no_trail = no_records trail (run ∙ ap run_before offer.4);
      told = told;
    }))
  ]
  stops words (Plays operations config said) cause run list told e = cc
  stops words (Drives config n) cause run list told e = cc
  stops words (Simulates seed n) cause run list told e = cc
  stops words (Shows k log) cause run list told e = cc
  stops words DiskFails cause run list told e = cc
  stops words (Overflows size need) cause run list told e = cc
  stops words (Breaks place) cause run list told e = cc
  stops words (Runs why config records text) cause run list told e = absurd (no_run_status why 3 e (omega arith) (omega arith))
  stops words (Rejects line reason said) cause run list told e = let rejected = rejects_at before now status trail (named words) line reason said cause in inr (inr (record {
    is_audit = rejected.0;
    line = line;
    reason = reason;
    said = said;
    read = rejected.1;
    legal = read_before_legal before.source now.source line reason said rejected.1;
    run = run;
    told = told;
  }))
  stops words (Upholds config events text) cause run list told e = cc
  stops words Starved cause run list told e = cc

  -- a run that ends well, or would have, read its script to the end
  to_its_end : (operations : Operations) (ending : Ending) → Causes (Some (Play operations)) ending → status_of ending ≡ 0 → IfSome now.source.bytes (λ rest. rest ≡ [])
  to_its_end operations Misused cause e = absurd cause
  to_its_end operations Unread cause e = cc
  to_its_end operations (Refuses line reason said) cause e = cc
  to_its_end operations (Plays own config said) cause e = whole_left operations before.source now.source config said cause.1
  to_its_end operations (Drives config n) cause e = absurd cause
  to_its_end operations (Simulates seed n) cause e = absurd cause
  to_its_end operations (Shows k log) cause e = absurd cause
  to_its_end operations DiskFails cause e = absurd cause
  to_its_end operations (Overflows size need) cause e = absurd cause
  to_its_end operations (Breaks place) cause e = absurd cause
  to_its_end operations (Runs why config list text) cause e = absurd cause
  to_its_end operations (Rejects line reason said) cause e = absurd cause
  to_its_end operations (Upholds config events text) cause e = absurd cause
  to_its_end operations Starved cause e = cc

  completes : (operations : Operations) (ending : Ending) → Causes (Some (Play operations)) ending → Tells ending → HoldsScript operations before.source → ¬ Rose before.source.faults now.source.faults → ¬ Rose before.sink.faults now.sink.faults → (status ≡ 0) ⊎ (status ≡ 1)
  completes operations Misused cause told holds read_well written_well = absurd cause
  completes operations Unread cause told holds read_well written_well = absurd (read_well cause.0)
  completes operations (Refuses line reason before_it) cause told (rest, config, said, is, whole) read_well written_well =
      let differ = sym whole ∙ read_is operations before.source now.source rest (Refused line reason before_it) is cause in absurd cc
  completes operations (Plays own config said) cause told holds read_well written_well = one_status before.sink now.sink (ending_text (Plays own config said)) 0 5 status written_well told
  completes operations (Drives config n) cause told holds read_well written_well = absurd cause
  completes operations (Simulates seed n) cause told holds read_well written_well = absurd cause
  completes operations (Shows k log) cause told holds read_well written_well = absurd cause
  completes operations DiskFails cause told holds read_well written_well = absurd cause
  completes operations (Overflows size need) cause told holds read_well written_well = absurd cause
  completes operations (Breaks place) cause told holds read_well written_well = absurd cause
  completes operations (Runs why config list text) cause told holds read_well written_well = absurd cause
  completes operations (Rejects line reason said) cause told holds read_well written_well = absurd cause
  completes operations (Upholds config events text) cause told holds read_well written_well = absurd cause
  completes operations Starved cause told holds read_well written_well = inr (starved_status before.sink now.sink [] status told)

  refuses : (operations : Operations) (ending : Ending) → Causes (Some (Play operations)) ending → Tells ending → HoldsBadLine operations before.source → ¬ Rose before.source.faults now.source.faults → (status ≡ 3) ⊎ (status ≡ 1)
  refuses operations Misused cause told holds read_well = absurd cause
  refuses operations Unread cause told holds read_well = absurd (read_well cause.0)
  refuses operations (Refuses line reason before_it) cause told holds read_well = same_status before.sink now.sink (ending_text (Refuses line reason before_it)) 3 status told
  refuses operations (Plays own config said) cause told (rest, line, reason, before_it, is, bad) read_well =
      let differ = sym bad ∙ read_is operations before.source now.source rest (Whole config said) is cause.1 in absurd cc
  refuses operations (Drives config n) cause told holds read_well = absurd cause
  refuses operations (Simulates seed n) cause told holds read_well = absurd cause
  refuses operations (Shows k log) cause told holds read_well = absurd cause
  refuses operations DiskFails cause told holds read_well = absurd cause
  refuses operations (Overflows size need) cause told holds read_well = absurd cause
  refuses operations (Breaks place) cause told holds read_well = absurd cause
  refuses operations (Runs why config list text) cause told holds read_well = absurd cause
  refuses operations (Rejects line reason said) cause told holds read_well = absurd cause
  refuses operations (Upholds config events text) cause told holds read_well = absurd cause
  refuses operations Starved cause told holds read_well = inr (starved_status before.sink now.sink [] status told)

  -- ---- a run without input

  -- with status 0 the ending is the one that was meant
  meant_is : (meant ending : Ending) → IsRunCause meant ending → Tells ending → status ≡ 0 → ending ≡ meant
  meant_is meant ending (inl is) told none_failed = is
  meant_is meant ending (inr is) told none_failed = absurd (clash Starved (λ e. cc) (subst Tells is told) none_failed)

  prints : (meant ending : Ending) (config own : Counts) → IsRunCause meant ending → newest_first trail ≡ run_to ending → config ≡ own → IsInAgreementOfAll config (newest_first trail) → Tells ending → status ≡ 0 → Prints own (run_to meant) (ending_text meant) before now trail
  prints meant ending config own cause run same agreement told none_failed =
      let is = meant_is meant ending cause told none_failed in
      let whole = done ending before.sink now.sink status told none_failed in
      let runs = run ∙ ap run_to is in
      record {
        agreement = subst (λ (c : Counts). IsInAgreementOfAll c (run_to meant)) same (subst (IsInAgreementOfAll config) runs agreement);
        run = runs;
        steady = whole.steady;
        written = subst (λ (text : List ℕ). AppendsWhole before.sink.bytes now.sink.bytes text) (ap ending_text is) whole.written;
      }

  run_completes : (meant ending : Ending) → status_of meant ≡ 0 → IsRunCause meant ending → Tells ending → ¬ Rose before.sink.faults now.sink.faults → (status ≡ 0) ⊎ (status ≡ 1)
  run_completes meant ending well (inl is) told written_well =
      let P : ℕ → Type 0 = λ n. (status ≡ n) ⊎ (status ≡ 1) in
      subst P (ap status_of is ∙ well) (one_status before.sink now.sink (ending_text ending) (status_of ending) (status_at_fault (status_of ending)) status written_well told)
  run_completes meant ending well (inr is) told written_well = inr (starved_status before.sink now.sink [] status (subst Tells is told))

  -- ---- the log of a disk

  shows_log : (k : ℕ) (ending : Ending) → Causes (Some (Log k)) ending → Tells ending → status ≡ 0 → ShowsLog k before now
  shows_log k Misused cause told none_failed = absurd cause
  shows_log k Unread cause told none_failed = absurd cause
  shows_log k (Refuses line reason said) cause told none_failed = absurd cause
  shows_log k (Plays operations config said) cause told none_failed = absurd cause
  shows_log k (Drives config n) cause told none_failed = absurd cause
  shows_log k (Simulates seed n) cause told none_failed = absurd cause
  shows_log k (Shows j log) cause told none_failed = let whole = done (Shows j log) before.sink now.sink status told none_failed in record {
    log = log;
    same = cause.1;
    shows = cause.2;
    steady = whole.steady;
    written = subst (λ (i : ℕ). AppendsWhole before.sink.bytes now.sink.bytes (ending_text (Shows i log))) cause.0 whole.written;
  }
  shows_log k DiskFails cause told none_failed = absurd (clash DiskFails (λ e. cc) told none_failed)
  shows_log k (Overflows size need) cause told none_failed = absurd cause
  shows_log k (Breaks place) cause told none_failed = absurd (clash (Breaks place) (λ e. cc) told none_failed)
  shows_log k (Runs why config list text) cause told none_failed = absurd cause
  shows_log k (Rejects line reason said) cause told none_failed = absurd cause
  shows_log k (Upholds config events text) cause told none_failed = absurd cause
  shows_log k Starved cause told none_failed = absurd (clash Starved (λ e. cc) told none_failed)

  shows_taken_on : (k : ℕ) (ending : Ending) → Causes (Some (Upgrade k)) ending → Tells ending → status ≡ 0 → ShowsTakenOn k before now
  shows_taken_on k Misused cause told none_failed = absurd cause
  shows_taken_on k Unread cause told none_failed = absurd cause
  shows_taken_on k (Refuses line reason said) cause told none_failed = absurd cause
  shows_taken_on k (Plays operations config said) cause told none_failed = absurd cause
  shows_taken_on k (Drives config n) cause told none_failed = absurd cause
  shows_taken_on k (Simulates seed n) cause told none_failed = absurd cause
  shows_taken_on k (Shows j log) cause told none_failed = let whole = done (Shows j log) before.sink now.sink status told none_failed in record {
    log = log;
    steady_disk = cause.1;
    shows = cause.2;
    steady = whole.steady;
    written = subst (λ (i : ℕ). AppendsWhole before.sink.bytes now.sink.bytes (ending_text (Shows i log))) cause.0 whole.written;
  }
  shows_taken_on k DiskFails cause told none_failed = absurd (clash DiskFails (λ e. cc) told none_failed)
  shows_taken_on k (Overflows size need) cause told none_failed = absurd (clash (Overflows size need) (λ e. cc) told none_failed)
  shows_taken_on k (Breaks place) cause told none_failed = absurd (clash (Breaks place) (λ e. cc) told none_failed)
  shows_taken_on k (Runs why config list text) cause told none_failed = absurd cause
  shows_taken_on k (Rejects line reason said) cause told none_failed = absurd cause
  shows_taken_on k (Upholds config events text) cause told none_failed = absurd cause
  shows_taken_on k Starved cause told none_failed = absurd (clash Starved (λ e. cc) told none_failed)

  no_clash : (bytes : Option (List ℕ)) (s : List ℕ) (log : Contents) (place : ℕ) → bytes ≡ Some s → read_log is_limit s ≡ Ok log → IfRevealed bytes (λ t. read_log is_limit t ≡ Err place) → ⊥
  no_clash bytes s log place is reads broken = let differ = sym reads ∙ at_bytes bytes _ s is broken in cc

  log_completes : (k : ℕ) (ending : Ending) → Causes (Some (Log k)) ending → Tells ending → HoldsLog k before → ¬ Rose (device_at k before.disks).faults (device_at k now.disks).faults → ¬ Rose before.sink.faults now.sink.faults → (status ≡ 0) ⊎ (status ≡ 1)
  log_completes k Misused cause told holds disk_well written_well = absurd cause
  log_completes k Unread cause told holds disk_well written_well = absurd cause
  log_completes k (Refuses line reason said) cause told holds disk_well written_well = absurd cause
  log_completes k (Plays operations config said) cause told holds disk_well written_well = absurd cause
  log_completes k (Drives config n) cause told holds disk_well written_well = absurd cause
  log_completes k (Simulates seed n) cause told holds disk_well written_well = absurd cause
  log_completes k (Shows j log) cause told holds disk_well written_well = one_status before.sink now.sink (ending_text (Shows j log)) 0 5 status written_well told
  log_completes k DiskFails cause told holds disk_well written_well = absurd (disk_well cause.0)
  log_completes k (Overflows size need) cause told holds disk_well written_well = absurd cause
  log_completes k (Breaks place) cause told (s, log, is, reads) disk_well written_well = absurd (no_clash (device_at k before.disks).bytes s log place is reads cause.1)
  log_completes k (Runs why config list text) cause told holds disk_well written_well = absurd cause
  log_completes k (Rejects line reason said) cause told holds disk_well written_well = absurd cause
  log_completes k (Upholds config events text) cause told holds disk_well written_well = absurd cause
  log_completes k Starved cause told holds disk_well written_well = inr (starved_status before.sink now.sink [] status told)

  -- a log has room for its last entry, or has none
  room_clash : (log : Contents) (size more : ℕ) → HasRoomForLast log → HasNoRoom size more log.limit log.entries → ⊥
  room_clash log size more room none =
      let fits = room none.old none.last none.is_last in
      let a = none.smallest in
      let b = none.its_need in
      let c = none.great in
      omega (arith, fits, a, b, c)

  -- the bytes of a disk are one log
  one_log : (bytes : Option (List ℕ)) (s : List ℕ) (log : Contents) (P : Contents → Type 0) → bytes ≡ Some s → read_log is_limit s ≡ Ok log → IfLog bytes P → P log
  one_log bytes s log P is reads h =
      let found = at_bytes bytes (λ t. (was : Contents) × (read_log is_limit t ≡ Ok was) × P was) s is h in
      let same : found.0 ≡ log = let both = sym found.1 ∙ reads in cc in
      subst P same found.2

  upgrade_completes : (k : ℕ) (ending : Ending) → Causes (Some (Upgrade k)) ending → Tells ending → HoldsRoomyLog k before → ¬ Rose (device_at k before.disks).faults (device_at k now.disks).faults → ¬ Rose before.sink.faults now.sink.faults → (status ≡ 0) ⊎ (status ≡ 1)
  upgrade_completes k Misused cause told holds disk_well written_well = absurd cause
  upgrade_completes k Unread cause told holds disk_well written_well = absurd cause
  upgrade_completes k (Refuses line reason said) cause told holds disk_well written_well = absurd cause
  upgrade_completes k (Plays operations config said) cause told holds disk_well written_well = absurd cause
  upgrade_completes k (Drives config n) cause told holds disk_well written_well = absurd cause
  upgrade_completes k (Simulates seed n) cause told holds disk_well written_well = absurd cause
  upgrade_completes k (Shows j log) cause told holds disk_well written_well = one_status before.sink now.sink (ending_text (Shows j log)) 0 5 status written_well told
  upgrade_completes k DiskFails cause told holds disk_well written_well = absurd (disk_well cause)
  upgrade_completes k (Overflows size need) cause told (s, log, is, reads, room) disk_well written_well =
      absurd (room_clash log size need room (one_log (device_at k before.disks).bytes s log (λ l. HasNoRoom size need l.limit l.entries) is reads cause.1))
  upgrade_completes k (Breaks place) cause told (s, log, is, reads, room) disk_well written_well = absurd (no_clash (device_at k before.disks).bytes s log place is reads cause.1)
  upgrade_completes k (Runs why config list text) cause told holds disk_well written_well = absurd cause
  upgrade_completes k (Rejects line reason said) cause told holds disk_well written_well = absurd cause
  upgrade_completes k (Upholds config events text) cause told holds disk_well written_well = absurd cause
  upgrade_completes k Starved cause told holds disk_well written_well = inr (starved_status before.sink now.sink [] status told)

  overflows_if_full : (k : ℕ) (ending : Ending) → Causes (Some (Upgrade k)) ending → Tells ending → HoldsFullLog k before → ¬ Rose (device_at k before.disks).faults (device_at k now.disks).faults → (status ≡ 7) ⊎ (status ≡ 1)
  overflows_if_full k Misused cause told holds well = absurd cause
  overflows_if_full k Unread cause told holds well = absurd cause
  overflows_if_full k (Refuses line reason said) cause told holds well = absurd cause
  overflows_if_full k (Plays operations config said) cause told holds well = absurd cause
  overflows_if_full k (Drives config n) cause told holds well = absurd cause
  overflows_if_full k (Simulates seed n) cause told holds well = absurd cause
  overflows_if_full k (Shows j shows) cause told (s, log, size, need, is, reads, none) well =
      let found = one_log (device_at k before.disks).bytes s log _ is reads cause.2 in absurd (room_clash log size need found.0 none)
  overflows_if_full k DiskFails cause told holds well = absurd (well cause)
  overflows_if_full k (Overflows size need) cause told holds well = same_status before.sink now.sink (ending_text (Overflows size need)) 7 status told
  overflows_if_full k (Breaks place) cause told (s, log, size, need, is, reads, none) well = absurd (no_clash (device_at k before.disks).bytes s log place is reads cause.1)
  overflows_if_full k (Runs why config list text) cause told holds well = absurd cause
  overflows_if_full k (Rejects line reason said) cause told holds well = absurd cause
  overflows_if_full k (Upholds config events text) cause told holds well = absurd cause
  overflows_if_full k Starved cause told holds well = inr (starved_status before.sink now.sink [] status told)

  -- only a log that is shown or taken on overflows, breaks, or has a disk that fails
  overflowed : (sub : Option Subcommand) (size need : ℕ) → Causes sub (Overflows size need) → Tells (Overflows size need) → (k : ℕ) × (sub ≡ Some (Upgrade k)) × Causes (Some (Upgrade k)) (Overflows size need)
  overflowed None size need cause told = cc
  overflowed (Some (Play operations)) size need cause told = absurd cause
  overflowed (Some (Run policy limit viewed)) size need cause told = absurd cause
  overflowed (Some (Sim seed n)) size need cause told = elim cause [ inl is ↦ cc | inr is ↦ cc ]
  overflowed (Some (Drive a l n)) size need cause told = elim cause [ inl is ↦ cc | inr is ↦ cc ]
  overflowed (Some (Log k)) size need cause told = absurd cause
  overflowed (Some (Upgrade k)) size need cause told = (k, refl, cause)
  overflowed (Some Audit) size need cause told = absurd cause

  broke : (sub : Option Subcommand) (place : ℕ) → Causes sub (Breaks place) → (k : ℕ) × (disk_used sub ≡ Some k) × Causes (Some (Log k)) (Breaks place)
  broke None place cause = cc
  broke (Some (Play operations)) place cause = absurd cause
  broke (Some (Run policy limit viewed)) place cause = absurd cause
  broke (Some (Sim seed n)) place cause = elim cause [ inl is ↦ cc | inr is ↦ cc ]
  broke (Some (Drive a l n)) place cause = elim cause [ inl is ↦ cc | inr is ↦ cc ]
  broke (Some (Log k)) place cause = (k, refl, cause)
  broke (Some (Upgrade k)) place cause = (k, refl, cause)
  broke (Some Audit) place cause = absurd cause

  disk_failed : (sub : Option Subcommand) → Causes sub DiskFails → DiskFailed sub before now
  disk_failed None cause = cc
  disk_failed (Some (Play operations)) cause = absurd cause
  disk_failed (Some (Run policy limit viewed)) cause = absurd cause
  disk_failed (Some (Sim seed n)) cause = elim cause [ inl is ↦ cc | inr is ↦ cc ]
  disk_failed (Some (Drive a l n)) cause = elim cause [ inl is ↦ cc | inr is ↦ cc ]
  disk_failed (Some (Log k)) cause = cause.0
  disk_failed (Some (Upgrade k)) cause = cause
  disk_failed (Some Audit) cause = absurd cause

  -- with status 2 the words name nothing
  named_nothing : (sub : Option Subcommand) (ending : Ending) → Causes sub ending → status_of ending ≡ 2 → sub ≡ None
  named_nothing None ending cause two = refl
  named_nothing (Some sub) Misused cause two = absurd (by sub cause) where
    by : (sub : Subcommand) → Causes (Some sub) Misused → ⊥
    by (Play operations) cause = cause
    by (Run policy limit viewed) cause = cause
    by (Sim seed n) cause = elim cause [ inl is ↦ cc | inr is ↦ cc ]
    by (Drive a l n) cause = elim cause [ inl is ↦ cc | inr is ↦ cc ]
    by (Log k) cause = cause
    by (Upgrade k) cause = cause
    by Audit cause = cause
  named_nothing (Some sub) Unread cause two = cc
  named_nothing (Some sub) (Refuses line reason said) cause two = cc
  named_nothing (Some sub) (Plays operations config said) cause two = cc
  named_nothing (Some sub) (Drives config n) cause two = cc
  named_nothing (Some sub) (Simulates seed n) cause two = cc
  named_nothing (Some sub) (Shows k log) cause two = cc
  named_nothing (Some sub) DiskFails cause two = cc
  named_nothing (Some sub) (Overflows size need) cause two = cc
  named_nothing (Some sub) (Breaks place) cause two = cc
  named_nothing (Some sub) (Runs why config list text) cause two = absurd (no_run_status why 2 two (omega arith) (omega arith))
  named_nothing (Some sub) (Rejects line reason said) cause two = cc
  named_nothing (Some sub) (Upholds config events text) cause two = cc
  named_nothing (Some sub) Starved cause two = cc

  source_failed : (sub : Option Subcommand) → Causes sub Unread → Rose before.source.faults now.source.faults
  source_failed None cause = cc
  source_failed (Some (Play operations)) cause = cause.0
  source_failed (Some (Run policy limit viewed)) cause = cause.0
  source_failed (Some (Sim seed n)) cause = elim cause [ inl is ↦ cc | inr is ↦ cc ]
  source_failed (Some (Drive a l n)) cause = elim cause [ inl is ↦ cc | inr is ↦ cc ]
  source_failed (Some (Log k)) cause = absurd cause
  source_failed (Some (Upgrade k)) cause = absurd cause
  source_failed (Some Audit) cause = cause.0

  usage_told : (ending : Ending) → Causes None ending → Tells ending → (status ≡ 2) ⊎ (status ≡ 1)
  usage_told ending cause told = same_status before.sink now.sink (ending_text Misused) 2 status (subst Tells cause told)

  -- the endings of statuses 4, 6, 7 and 8
  unread_is : (ending : Ending) → status_of ending ≡ 4 → ending ≡ Unread
  unread_is Misused e = cc
  unread_is Unread e = refl
  unread_is (Refuses line reason said) e = cc
  unread_is (Plays operations config said) e = cc
  unread_is (Drives config n) e = cc
  unread_is (Simulates seed n) e = cc
  unread_is (Shows k log) e = cc
  unread_is DiskFails e = cc
  unread_is (Overflows size need) e = cc
  unread_is (Breaks place) e = cc
  unread_is (Runs why config list text) e = absurd (no_run_status why 4 e (omega arith) (omega arith))
  unread_is (Rejects line reason said) e = cc
  unread_is (Upholds config events text) e = cc
  unread_is Starved e = cc

  disk_fails_is : (ending : Ending) → status_of ending ≡ 6 → (ending ≡ DiskFails) ⊎ ((config : Counts) × (list : List Record) × (text : List ℕ) × (ending ≡ Runs end.Disk config list text))
  disk_fails_is Misused e = cc
  disk_fails_is Unread e = cc
  disk_fails_is (Refuses line reason said) e = cc
  disk_fails_is (Plays operations config said) e = cc
  disk_fails_is (Drives config n) e = cc
  disk_fails_is (Simulates seed n) e = cc
  disk_fails_is (Shows k log) e = cc
  disk_fails_is DiskFails e = inl refl
  disk_fails_is (Overflows size need) e = cc
  disk_fails_is (Breaks place) e = cc
  disk_fails_is (Runs end.Learned config list text) e = cc
  disk_fails_is (Runs end.NoMemory config list text) e = cc
  disk_fails_is (Runs end.Disk config list text) e = inr (config, list, text, refl)
  disk_fails_is (Runs (end.Full size need) config list text) e = cc
  disk_fails_is (Runs (end.NotLog at) config list text) e = cc
  disk_fails_is (Runs end.Changed config list text) e = cc
  disk_fails_is (Rejects line reason said) e = cc
  disk_fails_is (Upholds config events text) e = cc
  disk_fails_is Starved e = cc

  overflows_is : (ending : Ending) → status_of ending ≡ 7 → (size : ℕ) × (need : ℕ) × ((ending ≡ Overflows size need) ⊎ ((config : Counts) × (list : List Record) × (text : List ℕ) × (ending ≡ Runs (end.Full size need) config list text)))
  overflows_is Misused e = cc
  overflows_is Unread e = cc
  overflows_is (Refuses line reason said) e = cc
  overflows_is (Plays operations config said) e = cc
  overflows_is (Drives config n) e = cc
  overflows_is (Simulates seed n) e = cc
  overflows_is (Shows k log) e = cc
  overflows_is DiskFails e = cc
  overflows_is (Overflows size need) e = (size, need, inl refl)
  overflows_is (Breaks place) e = cc
  overflows_is (Runs end.Learned config list text) e = cc
  overflows_is (Runs end.NoMemory config list text) e = cc
  overflows_is (Runs end.Disk config list text) e = cc
  overflows_is (Runs (end.Full size need) config list text) e = (size, need, inr (config, list, text, refl))
  overflows_is (Runs (end.NotLog at) config list text) e = cc
  overflows_is (Runs end.Changed config list text) e = cc
  overflows_is (Rejects line reason said) e = cc
  overflows_is (Upholds config events text) e = cc
  overflows_is Starved e = cc

  -- an ending with status 8
  abbrev IsBroken : Ending → Type 0
  IsBroken ending = ((place : ℕ) × (ending ≡ Breaks place)) ⊎ (((at : ℕ) × (config : Counts) × (list : List Record) × (text : List ℕ) × (ending ≡ Runs (end.NotLog at) config list text)) ⊎ ((config : Counts) × (list : List Record) × (text : List ℕ) × (ending ≡ Runs end.Changed config list text)))

  breaks_is : (ending : Ending) → status_of ending ≡ 8 → IsBroken ending
  breaks_is Misused e = cc
  breaks_is Unread e = cc
  breaks_is (Refuses line reason said) e = cc
  breaks_is (Plays operations config said) e = cc
  breaks_is (Drives config n) e = cc
  breaks_is (Simulates seed n) e = cc
  breaks_is (Shows k log) e = cc
  breaks_is DiskFails e = cc
  breaks_is (Overflows size need) e = cc
  breaks_is (Breaks place) e = inl (place, refl)
  breaks_is (Runs end.Learned config list text) e = cc
  breaks_is (Runs end.NoMemory config list text) e = cc
  breaks_is (Runs end.Disk config list text) e = cc
  breaks_is (Runs (end.Full size need) config list text) e = cc
  breaks_is (Runs (end.NotLog at) config list text) e = inr (inl (at, config, list, text, refl))
  breaks_is (Runs end.Changed config list text) e = inr (inr (config, list, text, refl))
  breaks_is (Rejects line reason said) e = cc
  breaks_is (Upholds config events text) e = cc
  breaks_is Starved e = cc

  -- a disk that holds no log
  no_log_shown : (bytes : Option (List ℕ)) (s : List ℕ) (place : ℕ) (P : Contents → Type 0) → bytes ≡ Some s → read_log is_limit s ≡ Err place → IfLog bytes P → ⊥
  no_log_shown bytes s place P is broken shows =
      let found = at_bytes bytes (λ t. (log : Contents) × (read_log is_limit t ≡ Ok log) × P log) s is shows in
      let differ = sym broken ∙ found.1 in cc

  unlogged : (k : ℕ) (ending : Ending) → Causes (Some (Log k)) ending → Tells ending → HoldsNoLog k before → ¬ Rose (device_at k before.disks).faults (device_at k now.disks).faults → (status ≡ 8) ⊎ (status ≡ 1)
  unlogged k Misused cause told holds well = absurd cause
  unlogged k Unread cause told holds well = absurd cause
  unlogged k (Refuses line reason said) cause told holds well = absurd cause
  unlogged k (Plays operations config said) cause told holds well = absurd cause
  unlogged k (Drives config n) cause told holds well = absurd cause
  unlogged k (Simulates seed n) cause told holds well = absurd cause
  unlogged k (Shows j log) cause told (s, place, is, broken) well = absurd (no_log_shown (device_at k before.disks).bytes s place _ is broken cause.2)
  unlogged k DiskFails cause told holds well = absurd (well cause.0)
  unlogged k (Overflows size need) cause told holds well = absurd cause
  unlogged k (Breaks place) cause told holds well = same_status before.sink now.sink (ending_text (Breaks place)) 8 status told
  unlogged k (Runs why config list text) cause told holds well = absurd cause
  unlogged k (Rejects line reason said) cause told holds well = absurd cause
  unlogged k (Upholds config events text) cause told holds well = absurd cause
  unlogged k Starved cause told holds well = inr (starved_status before.sink now.sink [] status told)

  unlogged_upgrade : (k : ℕ) (ending : Ending) → Causes (Some (Upgrade k)) ending → Tells ending → HoldsNoLog k before → ¬ Rose (device_at k before.disks).faults (device_at k now.disks).faults → (status ≡ 8) ⊎ (status ≡ 1)
  unlogged_upgrade k Misused cause told holds well = absurd cause
  unlogged_upgrade k Unread cause told holds well = absurd cause
  unlogged_upgrade k (Refuses line reason said) cause told holds well = absurd cause
  unlogged_upgrade k (Plays operations config said) cause told holds well = absurd cause
  unlogged_upgrade k (Drives config n) cause told holds well = absurd cause
  unlogged_upgrade k (Simulates seed n) cause told holds well = absurd cause
  unlogged_upgrade k (Shows j log) cause told (s, place, is, broken) well = absurd (no_log_shown (device_at k before.disks).bytes s place _ is broken cause.2)
  unlogged_upgrade k DiskFails cause told holds well = absurd (well cause)
  unlogged_upgrade k (Overflows size need) cause told (s, place, is, broken) well = absurd (no_log_shown (device_at k before.disks).bytes s place _ is broken cause.1)
  unlogged_upgrade k (Breaks place) cause told holds well = same_status before.sink now.sink (ending_text (Breaks place)) 8 status told
  unlogged_upgrade k (Runs why config list text) cause told holds well = absurd cause
  unlogged_upgrade k (Rejects line reason said) cause told holds well = absurd cause
  unlogged_upgrade k (Upholds config events text) cause told holds well = absurd cause
  unlogged_upgrade k Starved cause told holds well = inr (starved_status before.sink now.sink [] status told)

-- ---- by the words

module _ (words : List (List ℕ)) (before now : Outside) (status : ℕ) (trail : List Record) (ends : Ends (IsCause words) before now status trail) where
  by_name : (sub : Option Subcommand) → named words ≡ sub → IsCauseFor sub before now ends.ending
  by_name sub is = subst (λ (s : Option Subcommand). IsCauseFor s before now ends.ending) is ends.cause

  own : (n : ℕ) → status ≡ suc (suc n) → ¬ (suc (suc n) ≡ 5) → status_of ends.ending ≡ suc (suc n)
  own n e not = own_status ends.ending before.sink now.sink status n ends.told e not

  cause_at : (ending : Ending) → ends.ending ≡ ending → IsCauseFor (named words) before now ending
  cause_at ending is = subst (λ (x : Ending). IsCauseFor (named words) before now x) is ends.cause

  told_at : (ending : Ending) → ends.ending ≡ ending → TellsEnding ending before.sink now.sink status
  told_at ending is = subst (λ (x : Ending). TellsEnding x before.sink now.sink status) is ends.told

  pub plays_whole : (operations : Operations) → named words ≡ Some (Play operations) → status ≡ 0 → PlaysWhole operations before now trail
  plays_whole operations is none_failed = played before now status trail operations ends.ending (by_name (Some (Play operations)) is) ends.run ends.told none_failed

  list_at : (ending : Ending) → ends.ending ≡ ending → IsListOf ending trail
  list_at ending is = subst (λ (x : Ending). IsListOf x trail) is ends.list

  pub stops_at_line : status ≡ 3 → StopsAtLine words before now status trail ⊎ RefusesOffers words before now status trail ⊎ RejectsInput words before now status trail
  stops_at_line three = stops before now status trail words ends.ending ends.cause ends.run ends.list ends.told (own 1 three (λ e. cc))

  pub read_to_end : (operations : Operations) → named words ≡ Some (Play operations) → (status ≡ 0) ⊎ (status ≡ 5) → IfSome now.source.bytes (λ rest. rest ≡ [])
  read_to_end operations is (inl none_failed) = to_its_end before now status trail operations ends.ending (by_name (Some (Play operations)) is) (done ends.ending before.sink now.sink status ends.told none_failed).well
  read_to_end operations is (inr five) = to_its_end before now status trail operations ends.ending (by_name (Some (Play operations)) is) (sink_failed ends.ending before.sink now.sink status (never_five ends.ending) ends.told five).0

  pub complete : (operations : Operations) → named words ≡ Some (Play operations) → HoldsScript operations before.source → ¬ Rose before.source.faults now.source.faults → ¬ Rose before.sink.faults now.sink.faults → (status ≡ 0) ⊎ (status ≡ 1)
  complete operations is holds read_well written_well = completes before now status trail operations ends.ending (by_name (Some (Play operations)) is) ends.told holds read_well written_well

  pub refuse : (operations : Operations) → named words ≡ Some (Play operations) → HoldsBadLine operations before.source → ¬ Rose before.source.faults now.source.faults → (status ≡ 3) ⊎ (status ≡ 1)
  refuse operations is holds read_well = refuses before now status trail operations ends.ending (by_name (Some (Play operations)) is) ends.told holds read_well

  pub drives : (a l n : ℕ) → named words ≡ Some (Drive a l n) → status ≡ 0 → PrintsDriven (driven_config a l) n before now trail
  drives a l n is none_failed =
      let config = driven_config a l in
      let cause = by_name (Some (Drive a l n)) is in
      let meant = meant_is before now status trail (Drives config n) ends.ending cause ends.told none_failed in
      let own_config = subst (λ (x : Ending). IsConfig (config_of x) ends.config) meant ends.own_config in
      prints before now status trail (Drives config n) ends.ending ends.config config cause ends.run own_config ends.agreement ends.told none_failed

  pub simulates : (seed n : ℕ) → named words ≡ Some (Sim seed n) → status ≡ 0 → PrintsSimulated seed n before now trail
  simulates seed n is none_failed =
      let cause = by_name (Some (Sim seed n)) is in
      let meant = meant_is before now status trail (Simulates seed n) ends.ending cause ends.told none_failed in
      let own_config = subst (λ (x : Ending). IsConfig (config_of x) ends.config) meant ends.own_config in
      prints before now status trail (Simulates seed n) ends.ending ends.config sim_config cause ends.run own_config ends.agreement ends.told none_failed

  pub drive_completes : (a l n : ℕ) → named words ≡ Some (Drive a l n) → ¬ Rose before.sink.faults now.sink.faults → (status ≡ 0) ⊎ (status ≡ 1)
  drive_completes a l n is well = run_completes before now status trail (Drives (driven_config a l) n) ends.ending refl (by_name (Some (Drive a l n)) is) ends.told well

  pub sim_completes : (seed n : ℕ) → named words ≡ Some (Sim seed n) → ¬ Rose before.sink.faults now.sink.faults → (status ≡ 0) ⊎ (status ≡ 1)
  sim_completes seed n is well = run_completes before now status trail (Simulates seed n) ends.ending refl (by_name (Some (Sim seed n)) is) ends.told well

  pub log_shown : (k : ℕ) → named words ≡ Some (Log k) → status ≡ 0 → ShowsLog k before now
  log_shown k is none_failed = shows_log before now status trail k ends.ending (by_name (Some (Log k)) is) ends.told none_failed

  pub log_taken_on : (k : ℕ) → named words ≡ Some (Upgrade k) → status ≡ 0 → ShowsTakenOn k before now
  log_taken_on k is none_failed = shows_taken_on before now status trail k ends.ending (by_name (Some (Upgrade k)) is) ends.told none_failed

  pub log_complete : (k : ℕ) → named words ≡ Some (Log k) → HoldsLog k before → ¬ Rose (device_at k before.disks).faults (device_at k now.disks).faults → ¬ Rose before.sink.faults now.sink.faults → (status ≡ 0) ⊎ (status ≡ 1)
  log_complete k is holds disk_well written_well = log_completes before now status trail k ends.ending (by_name (Some (Log k)) is) ends.told holds disk_well written_well

  pub upgrade_complete : (k : ℕ) → named words ≡ Some (Upgrade k) → HoldsRoomyLog k before → ¬ Rose (device_at k before.disks).faults (device_at k now.disks).faults → ¬ Rose before.sink.faults now.sink.faults → (status ≡ 0) ⊎ (status ≡ 1)
  upgrade_complete k is holds disk_well written_well = upgrade_completes before now status trail k ends.ending (by_name (Some (Upgrade k)) is) ends.told holds disk_well written_well

  pub full_log : (k : ℕ) → named words ≡ Some (Upgrade k) → HoldsFullLog k before → ¬ Rose (device_at k before.disks).faults (device_at k now.disks).faults → (status ≡ 7) ⊎ (status ≡ 1)
  full_log k is holds well = overflows_if_full before now status trail k ends.ending (by_name (Some (Upgrade k)) is) ends.told holds well

  pub full : status ≡ 7 → HasNoSpace words before now status ⊎ FillsLog words before now status trail
  full seven =
      let is = overflows_is before now status trail ends.ending (own 5 seven (λ e. cc)) in
      elim is.2 [
        | inl at ↦ inl (
            let over = overflowed before now status trail (named words) is.0 is.1 (cause_at (Overflows is.0 is.1) at) (told_at (Overflows is.0 is.1) at) in
            record { disk = over.0; size = is.0; need = is.1; is_upgrade = over.1; same = over.2.0; no_room = over.2.1; told = told_at (Overflows is.0 is.1) at })
        | inr at ↦ inr (
            let ending = Runs (end.Full is.0 is.1) at.0 at.1 at.2 in
            fills_log before now status trail words is.0 is.1 at.0 at.1 at.2 (cause_at ending at.3) (list_at ending at.3) (told_at ending at.3))
      ]

  pub broken : status ≡ 8 → IsBrokenAt words before now status ⊎ LosesLog words before now status trail
  broken eight = elim (breaks_is before now status trail ends.ending (own 6 eight (λ e. cc))) [
    | inl is ↦ inl (
        let at = broke before now status trail (named words) is.0 (cause_at (Breaks is.0) is.1) in
        record { disk = at.0; place = is.0; used = at.1; same = at.2.0; broken = at.2.1; told = told_at (Breaks is.0) is.1 })
    | inr (inl is) ↦ inr (
        let ending = Runs (end.NotLog is.0) is.1 is.2 is.3 in
        breaks_log before now status trail words is.0 is.1 is.2 is.3 (cause_at ending is.4) (list_at ending is.4) (told_at ending is.4))
    | inr (inr is) ↦ inr (
        let ending = Runs end.Changed is.0 is.1 is.2 in
        changes_log before now status trail words is.0 is.1 is.2 (cause_at ending is.3) (list_at ending is.3) (told_at ending is.3))
  ]

  -- a run of nodes loses no log of a disk that reveals what it holds
  pub kept : RunsNodes words → AllReveal now.disks → status ≢ 8
  kept n reveal eight = elim (broken eight) [
    | inl at ↦ (let none : None ≡ Some at.disk = subst (λ (s : Option Subcommand). disk_used s ≡ Some at.disk) n.3 at.used in cc)
    | inr loses ↦ reveal loses.lost.place loses.lost.is loses.lost.after loses.lost.hidden
  ]

  no_log_for : (k : ℕ) (sub : Option Subcommand) → named words ≡ sub → disk_used sub ≡ Some k → HoldsNoLog k before → ¬ Rose (device_at k before.disks).faults (device_at k now.disks).faults → (status ≡ 8) ⊎ (status ≡ 1)
  no_log_for k None is used holds well = cc
  no_log_for k (Some (Play operations)) is used holds well = cc
  no_log_for k (Some (Run policy limit viewed)) is used holds well = cc
  no_log_for k (Some (Sim seed n)) is used holds well = cc
  no_log_for k (Some (Drive a l n)) is used holds well = cc
  no_log_for k (Some (Log j)) is used holds well =
      let same : named words ≡ Some (Log k) = is ∙ ap (λ (i : ℕ). Some (Log i)) (let e : j ≡ k = cc in e) in
      unlogged before now status trail k ends.ending (by_name (Some (Log k)) same) ends.told holds well
  no_log_for k (Some (Upgrade j)) is used holds well =
      let same : named words ≡ Some (Upgrade k) = is ∙ ap (λ (i : ℕ). Some (Upgrade i)) (let e : j ≡ k = cc in e) in
      unlogged_upgrade before now status trail k ends.ending (by_name (Some (Upgrade k)) same) ends.told holds well
  no_log_for k (Some Audit) is used holds well = cc

  pub no_log : (k : ℕ) → disk_used (named words) ≡ Some k → HoldsNoLog k before → ¬ Rose (device_at k before.disks).faults (device_at k now.disks).faults → (status ≡ 8) ⊎ (status ≡ 1)
  no_log k used holds well = no_log_for k (named words) refl used holds well

  pub misused : status ≡ 2 → named words ≡ None
  misused two = named_nothing before now status trail (named words) ends.ending ends.cause (own 0 two (λ e. cc))

  pub usage : named words ≡ None → (status ≡ 2) ⊎ (status ≡ 1)
  usage is = usage_told before now status trail ends.ending (by_name None is) ends.told

  pub unread : status ≡ 4 → Rose before.source.faults now.source.faults
  unread four = source_failed before now status trail (named words) (cause_at Unread (unread_is before now status trail ends.ending (own 2 four (λ e. cc))))

  pub unwritten : status ≡ 5 → Rose before.sink.faults now.sink.faults
  unwritten five = (sink_failed ends.ending before.sink now.sink status (never_five ends.ending) ends.told five).1

  pub disk_fault : status ≡ 6 → DiskFailed (named words) before now
  disk_fault six = elim (disk_fails_is before now status trail ends.ending (own 4 six (λ e. cc))) [
    | inl is ↦ disk_failed before now status trail (named words) (cause_at DiskFails is)
    | inr is ↦ ran_to_fault before now status trail (named words) is.0 is.1 is.2 (cause_at (Runs end.Disk is.0 is.1 is.2) is.3)
  ]

  -- ---- nodes in threads

  pub nodes_printed : (policy : RoundPolicy) (limit : ℕ) (viewed : Option (List ℕ)) → named words ≡ Some (Run policy limit viewed) → status ≡ 0 → PrintsNodes policy limit viewed before now trail
  nodes_printed policy limit viewed is none_failed = prints_nodes before now status trail policy limit viewed ends.ending (by_name (Some (Run policy limit viewed)) is) ends.list ends.told none_failed

  pub nodes_completed : (policy : RoundPolicy) (limit : ℕ) (viewed : Option (List ℕ)) (offers : Offers) → named words ≡ Some (Run policy limit viewed) → HoldsOffers offers before.source → ¬ Rose before.source.faults now.source.faults → ¬ Rose before.sink.faults now.sink.faults → ¬ SomeFailed before.disks now.disks
      → HasRoomForNext offers.config limit trail → (status ≡ 0) ⊎ (status ≡ 1)
  nodes_completed policy limit viewed offers is holds read_well written_well disks_well room =
      nodes_complete before now status trail policy limit viewed offers ends.ending (by_name (Some (Run policy limit viewed)) is) ends.list ends.told holds read_well written_well disks_well room

  pub nodes_refused : (policy : RoundPolicy) (limit : ℕ) (viewed : Option (List ℕ)) → named words ≡ Some (Run policy limit viewed) → HoldsBadOffers before.source → ¬ Rose before.source.faults now.source.faults → (status ≡ 3) ⊎ (status ≡ 1)
  nodes_refused policy limit viewed is holds read_well = nodes_refuse before now status trail policy limit viewed ends.ending (by_name (Some (Run policy limit viewed)) is) ends.told holds read_well

  pub offered : (policy : RoundPolicy) (limit : ℕ) (viewed : Option (List ℕ)) → named words ≡ Some (Run policy limit viewed) → (trail ≡ []) ⊎ ((offers : Offers) × OffersAll policy before now trail offers)
  offered policy limit viewed is = nodes_offered before now status trail policy limit viewed ends.ending (by_name (Some (Run policy limit viewed)) is) ends.run ends.list

  pub offers_read : (policy : RoundPolicy) (limit : ℕ) (viewed : Option (List ℕ)) → named words ≡ Some (Run policy limit viewed) → status ≢ 1 → status ≢ 3 → status ≢ 4 → IfSome now.source.bytes (λ rest. rest ≡ [])
  offers_read policy limit viewed is no_one no_three no_four = nodes_left before now status trail policy limit viewed ends.ending (by_name (Some (Run policy limit viewed)) is) ends.told no_one no_three no_four

  pub script_order : (policy : RoundPolicy) (limit : ℕ) (viewed : Option (List ℕ)) → named words ≡ Some (Run policy limit viewed) → status ≡ 0 → (offers : Offers) × OffersAll policy before now trail offers × (AllCommute offers.list → RunsInScriptOrder offers trail)
  script_order policy limit viewed is none_failed =
      let printed = nodes_printed policy limit viewed is none_failed in
      let learned = printed.learned in
      (printed.offers, printed.whole, λ commute. in_script_order before now trail printed.offers policy printed.whole learned.all commute)

  -- ---- an audit

  pub run_upheld : named words ≡ Some Audit → status ≡ 0 → AuditsRun before now trail
  run_upheld is none_failed = audits_run before now status trail ends.ending (by_name (Some Audit) is) ends.run ends.told none_failed

  pub audit_complete : named words ≡ Some Audit → HoldsPrinted before.source → ¬ Rose before.source.faults now.source.faults → ¬ Rose before.sink.faults now.sink.faults → (status ≡ 0) ⊎ (status ≡ 1)
  audit_complete is holds read_well written_well = audit_completes before now status trail ends.ending (by_name (Some Audit) is) ends.told holds read_well written_well

  pub audit_of_run : (config : Counts) (list : List Record) → named words ≡ Some Audit → HoldsRun config list before.source → ¬ Rose before.source.faults now.source.faults → ¬ Rose before.sink.faults now.sink.faults → (status ≡ 0) ⊎ (status ≡ 1)
  audit_of_run config list is holds read_well written_well = audit_complete is (run_printed config list before.source holds) read_well written_well

  pub audit_refused : named words ≡ Some Audit → HoldsOther before.source → ¬ Rose before.source.faults now.source.faults → (status ≡ 3) ⊎ (status ≡ 1)
  audit_refused is holds read_well = audit_refuses before now status trail ends.ending (by_name (Some Audit) is) ends.told holds read_well

  pub input_read : named words ≡ Some Audit → (status ≡ 0) ⊎ (status ≡ 5) → IfSome now.source.bytes (λ rest. rest ≡ [])
  input_read is (inl none_failed) = audit_left before now status trail ends.ending (by_name (Some Audit) is) (done ends.ending before.sink now.sink status ends.told none_failed).well
  input_read is (inr five) = audit_left before now status trail ends.ending (by_name (Some Audit) is) (sink_failed ends.ending before.sink now.sink status (never_five ends.ending) ends.told five).0
