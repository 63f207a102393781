-- From a cause to the end of a run, and back.
use Rattle.std.proofs.Common.{◌≡◌, ℕ, List, [], Option, Some, None, Result, Ok, Err, inl, inr, refl, sym, ap, subst, ◌∙◌, ◌<◌, length, arith}
use Rattle.std.specs.Prelude.{IfOk, IfErr}
use Rattle.std.specs.Global.{Vec}
use Rattle.std.proofs.lemmas.List.{append-nil}
use Rattle.gp_memory.specs.declared.memory.NoMemory.{NoMemory}
use Rattle.gp_msg.specs.Messages.{Entry}
use Rattle.gp_msg.specs.declared.record.Record.{Record}
use Rattle.gp_run.specs.Runs.{newest_first}
use Rattle.gp_round.specs.Counts.{Counts}
use Rattle.gp_round.specs.Configs.{counts}
use Rattle.gp_edge.specs.Reads.{ReadsUpTo, LosesUpTo}
use Rattle.gp_edge.specs.Writes.{AppendsWhole, AppendsPart}
use Rattle.gp_script.specs.declared.reason.Reason.{Reason}
use Rattle.gp_world.specs.State.{entries_of}
use Rattle.gp_text.specs.declared.played.Played.{Played}
use Rattle.gp_text.specs.declared.played.Unplayed.{Unplayed}
use Rattle.gp_text.specs.declared.played.Unplayed.TheVariants.{Bad}
use Rattle.gp_text.specs.Reading.{Reading, Script, run_before}
use Rattle.gp_text.specs.Playing.{IsRefused, Stops, PlaysFor as GivesFor}
use Rattle.gp_text.specs.Limits.{IsLegalScriptFor, IsLegalBeforeFor, SaysLegallyFor}
use Rattle.gp_cli.specs.declared.subcommand.Operations.{Operations}
use Rattle.gp_cli.specs.declared.runs.TheConstants.{MOST_READ}
use Rattle.gp_cli.specs.Machines.{profile_of, reading_of, IsInAgreementOfAll}
use Rattle.gp_cli.specs.Texts.{refusal_text}
use Rattle.gp_cli.specs.Outside.{DeviceState, Told, Wholly, ForMemory}
use Rattle.gp_cli.specs.Endings.{Ending, Misused, Unread, Refuses, Plays, Drives, Simulates, Shows, DiskFails, Overflows, Breaks, Runs, Rejects, Upholds, Starved, status_of, status_at_fault, ending_text, run_to, config_in, config_of}
use Rattle.gp_cli.specs.Causes.{HasRead, IsReadCause, IsScriptCause, IsRunCause}
use Rattle.gp_cli.specs.Logs.{TellsEnding, LogEnds}
use Rattle.gp_cli.specs.Serving.{IsConfig, IsListOf, EndsBy, AgreesInItsConfig}
use Rattle.gp_cli.proofs.Machines.{all_agree, script_agrees, script_legal}

-- what a run ends by is in agreement for its own configuration
pub in_its_config : (Cause : Ending → Type 0) (before now : DeviceState) (status : ℕ) (trail : List Record) → EndsBy Cause before now status trail → AgreesInItsConfig Cause trail
in_its_config Cause before now status trail ends = record { ending = ends.ending; cause = ends.cause; config = ends.config; own_config = ends.own_config; agreement = ends.agreement }

-- an empty text is written by doing nothing
pub nothing_told : (written : Option (List ℕ)) → AppendsWhole written written []
nothing_told None = refl
nothing_told (Some bytes) = ap (λ b. Some b) (sym (append-nil bytes))

-- what was read up to a limit was lost up to it
pub loses : (limit : ℕ) (before now : Option (List ℕ)) (bytes : List ℕ) → ReadsUpTo limit before now bytes → LosesUpTo limit before now
loses limit None now bytes reads = reads
loses limit (Some rest) now bytes reads = (limit, omega arith, reads.1)

-- before anything happened there is nothing to agree on
none_agrees : (records : List Record) → records ≡ [] → IsInAgreementOfAll (counts 3 1 1) (newest_first records)
none_agrees records none =
    let P : List Record → Type 0 = λ rs. IsInAgreementOfAll (counts 3 1 1) (newest_first rs) in
    subst P (sym none) (all_agree (counts 3 1 1) (omega arith) [] tt)

-- without a configuration no node ran
pub unlisted : (ending : Ending) (trail : List Record) → config_of ending ≡ None → IsListOf ending trail
unlisted Misused trail none = tt
unlisted Unread trail none = tt
unlisted (Refuses line reason before) trail none = tt
unlisted (Plays operations config said) trail none = tt
unlisted (Drives config n) trail none = tt
unlisted (Simulates seed n) trail none = tt
unlisted (Shows disk log) trail none = tt
unlisted DiskFails trail none = tt
unlisted (Overflows size need) trail none = tt
unlisted (Breaks place) trail none = tt
unlisted (Runs end config list text) trail none = cc
unlisted (Rejects line reason said) trail none = tt
unlisted (Upholds config events text) trail none = tt
unlisted Starved trail none = tt

-- one cause for another
pub because : (P Q : Ending → Type 0) (before now : DeviceState) (status : ℕ) (trail : List Record) → ((ending : Ending) → P ending → Q ending) → EndsBy P before now status trail → EndsBy Q before now status trail
because P Q before now status trail for ends = record {
  ending = ends.ending;
  cause = for ends.ending ends.cause;
  run = ends.run;
  list = ends.list;
  config = ends.config;
  own_config = ends.own_config;
  agreement = ends.agreement;
  told = ends.told;
}

-- the cause of a script that was read
script_cause : (operations : Operations) (before now : DeviceState) (bytes : List ℕ) → ReadsUpTo MOST_READ before.bytes now.bytes bytes → now.faults ≡ before.faults → (ending : Ending) → IsScriptCause operations (reading_of operations bytes) ending → IsReadCause operations before now ending
script_cause operations before now bytes taken steady Misused cause = cause
script_cause operations before now bytes taken steady Unread cause = absurd cause
script_cause operations before now bytes taken steady (Refuses line reason before_it) cause = record { bytes = bytes; taken = taken; steady = steady; says = cause }
script_cause operations before now bytes taken steady (Plays own config said) cause = (cause.0, record { bytes = bytes; taken = taken; steady = steady; says = cause.1 })
script_cause operations before now bytes taken steady (Drives config commands) cause = cause
script_cause operations before now bytes taken steady (Simulates seed commands) cause = cause
script_cause operations before now bytes taken steady (Shows disk log) cause = cause
script_cause operations before now bytes taken steady DiskFails cause = cause
script_cause operations before now bytes taken steady (Overflows size need) cause = cause
script_cause operations before now bytes taken steady (Breaks place) cause = cause
script_cause operations before now bytes taken steady (Runs end config list text) cause = cause
script_cause operations before now bytes taken steady (Rejects line reason said) cause = cause
script_cause operations before now bytes taken steady (Upholds config events text) cause = cause
script_cause operations before now bytes taken steady Starved cause = (steady, loses MOST_READ before.bytes now.bytes bytes taken)

-- a script that was read up to the limit ends as a script
pub read_ends : (operations : Operations) (rest left before now : DeviceState) (status : ℕ) (trail : List Record) (bytes script : List ℕ) → script ≡ bytes → ReadsUpTo MOST_READ rest.bytes left.bytes bytes → left.faults ≡ rest.faults
    → EndsBy (IsScriptCause operations (reading_of operations script)) before now status trail → EndsBy (IsReadCause operations rest left) before now status trail
read_ends operations rest left before now status trail bytes script same taken steady ends =
    let Q : List ℕ → Type 0 = λ b. EndsBy (IsScriptCause operations (reading_of operations b)) before now status trail in
    because (IsScriptCause operations (reading_of operations bytes)) (IsReadCause operations rest left) before now status trail (script_cause operations rest left bytes taken steady) (subst Q same ends)

-- a run that was not begun ends with a text alone
pub without_run : (Cause : Ending → Type 0) (ending : Ending) (before now : DeviceState) (status : ℕ) (trail : List Record) → Cause ending → run_to ending ≡ [] → config_of ending ≡ None → trail ≡ []
    → TellsEnding ending before now status → EndsBy Cause before now status trail
without_run Cause ending before now status trail cause no_run no_config none told = record {
  ending = ending;
  cause = cause;
  run = ap newest_first none ∙ sym no_run;
  list = unlisted ending trail no_config;
  config = counts 3 1 1;
  own_config = let P : Option Counts → Type 0 = λ own. IsConfig own (counts 3 1 1) in subst P (sym no_config) tt;
  agreement = none_agrees trail none;
  told = told;
}

-- memory ran out before the end was known, and nothing was written
pub starved : (Cause : Ending → Type 0) (before : DeviceState) (status : ℕ) (trail : List Record) → Cause Starved → status ≡ 1 → trail ≡ [] → EndsBy Cause before before status trail
starved Cause before status trail cause one none = without_run Cause Starved before before status trail cause refl refl none (Wholly one refl (nothing_told before.bytes))

-- a run of which the log of a disk was all
pub log_ends : (P Q : Ending → Type 0) (before now : DeviceState) (status : ℕ) (trail : List Record) → ((ending : Ending) → P ending → Q ending) → LogEnds P before now status → trail ≡ [] → EndsBy Q before now status trail
log_ends P Q before now status trail for ends none = without_run Q ends.ending before now status trail (for ends.ending ends.cause) ends.no_run ends.no_config none ends.told

-- a run that was made as it should be, and what it prints
pub made_ends : (meant : Ending) (config : Counts) (before now : DeviceState) (status : ℕ) (trail : List Record) (text : List ℕ) → IsListOf meant trail → config_of meant ≡ Some config → IsInAgreementOfAll config (newest_first trail) → newest_first trail ≡ run_to meant
    → status_of meant ≡ 0 → text ≡ ending_text meant → Told before now text 0 5 status → EndsBy (IsRunCause meant) before now status trail
made_ends meant config before now status trail text list own agreement run well is told = record {
  ending = meant;
  cause = inl refl;
  run = run;
  list = list;
  config = config;
  own_config = let P : Option Counts → Type 0 = λ named. IsConfig named config in subst P (sym own) refl;
  agreement = agreement;
  told =
      let T : List ℕ → Type 0 = λ t. Told before now t 0 5 status in
      let S : ℕ → Type 0 = λ n. Told before now (ending_text meant) n (status_at_fault n) status in
      subst S (sym well) (subst T is told);
}

pub unmade_ends : (meant : Ending) (before now : DeviceState) (status : ℕ) (trail : List Record) → trail ≡ [] → Told before now [] 1 1 status → EndsBy (IsRunCause meant) before now status trail
unmade_ends meant before now status trail none told = without_run (IsRunCause meant) Starved before now status trail (inr refl) refl refl none told

-- a run that was made as it should be, or was not made for want of memory
pub printed_ends : (meant : Ending) (config : Counts) (before now : DeviceState) (status : ℕ) (trail : List Record) (made : Result Played NoMemory) → IsListOf meant trail → config_of meant ≡ Some config → status_of meant ≡ 0
    → IfOk made (λ p. entries_of p.world ≡ run_to meant) → IfOk made (λ p. p.text.items ≡ ending_text meant) → IfOk made (λ p. IsInAgreementOfAll config (entries_of p.world))
    → IfOk made (λ p. (trail ≡ p.world.records) × Told before now p.text.items 0 5 status) → IfErr made (λ e. (trail ≡ []) × Told before now [] 1 1 status)
    → EndsBy (IsRunCause meant) before now status trail
printed_ends meant config before now status trail (Ok played) list own well run text agreement printed starved =
    let at : newest_first trail ≡ entries_of played.world = ap newest_first printed.0 in
    made_ends meant config before now status trail played.text.items list own (subst (IsInAgreementOfAll config) (sym at) agreement) (at ∙ run) well text printed.1
printed_ends meant config before now status trail (Err e) list own well run text agreement printed starved = unmade_ends meant before now status trail starved.0 starved.1

-- nothing was written of a text that could not be made
pub untold : (before : DeviceState) (whole at_fault status : ℕ) (meant : List ℕ) → status ≡ 1 → 0 < length meant → Told before before meant whole at_fault status
untold before whole at_fault status meant one some = ForMemory one refl (part before.bytes) where
  part : (bytes : Option (List ℕ)) → AppendsPart bytes bytes meant
  part None = refl
  part (Some bytes) = (0, some, ap (λ (b : List ℕ). Some b) (sym (append-nil bytes)))

-- what holds of want of memory, where that was answered
pub on_err : {X : Type 0} (made : Result X NoMemory) (e : NoMemory) (P : Type 0) → made ≡ Err e → P → IfErr made (λ x. P)
on_err made e P is p = subst (λ m. IfErr m (λ x. P)) (sym is) p

-- a text that may not have been made
pub told_of : (before now : DeviceState) (whole at_fault status : ℕ) (meant : List ℕ) (text : Result (Vec ℕ) NoMemory) → 0 < length meant → IfOk text (λ t. t.items ≡ meant)
    → IfOk text (λ t. Told before now t.items whole at_fault status) → IfErr text (λ e. (m : List ℕ) → 0 < length m → Told before now m whole at_fault status) → Told before now meant whole at_fault status
told_of before now whole at_fault status meant (Ok text) some is told untold_it = subst (λ (t : List ℕ). Told before now t whole at_fault status) is told
told_of before now whole at_fault status meant (Err e) some is told untold_it = untold_it meant some

-- ---- scripts

-- a script that is refused at a line
stopped : (operations : Operations) (read : Reading) (result : Result Played Unplayed) (why : Unplayed) (line : ℕ) (reason : Reason) (records : List Record) → result ≡ Err why → why ≡ Bad line reason records
    → GivesFor (profile_of operations) read result → IsRefused read line reason records
stopped operations read result why line reason records is bad gives =
    let P : Result Played Unplayed → Type 0 = λ r. GivesFor (profile_of operations) read r in
    let Q : Unplayed → Type 0 = λ u. Stops read u in
    subst Q bad (subst P is gives)

-- a script that was played
pub played_ends : (operations : Operations) (read : Reading) (played : Played) (before now : DeviceState) (status : ℕ) (trail : List Record) → GivesFor (profile_of operations) read (Ok played) → SaysLegallyFor (profile_of operations) read → trail ≡ played.world.records
    → Told before now played.text.items 0 5 status → EndsBy (IsScriptCause operations read) before now status trail
played_ends operations read played before now status trail gives legal same told =
    let config = played.world.config in
    let run = ap newest_first same ∙ gives.run in
    let said : IsLegalScriptFor (profile_of operations) config gives.said.events = subst (SaysLegallyFor (profile_of operations)) gives.whole legal in record {
      ending = Plays operations config gives.said;
      cause = (refl, gives.whole);
      run = run;
      list = tt;
      config = config;
      own_config = refl;
      agreement = subst (IsInAgreementOfAll config) (sym run) (script_agrees operations config gives.said.events said);
      told = let T : List ℕ → Type 0 = λ t. Told before now t 0 5 status in subst T gives.text told;
    }

-- a configuration of what was said, and the agreement of its run
pub record Agreeing (said : Option Script) (run : List Entry) : Type 0 where
  pub config : Counts
  pub own : IsConfig (config_in said) config
  pub agreement : IsInAgreementOfAll config run

pub agreeing : (operations : Operations) (said : Option Script) (run : List Entry) → IsLegalBeforeFor (profile_of operations) said → run ≡ run_before said → Agreeing said run
agreeing operations None run legal is = record { config = counts 3 1 1; own = tt; agreement = subst (IsInAgreementOfAll (counts 3 1 1)) (sym is) (all_agree (counts 3 1 1) (omega arith) [] tt) }
agreeing operations (Some script) run legal is = record { config = script.config; own = refl; agreement = subst (IsInAgreementOfAll script.config) (sym is) (script_agrees operations script.config script.events legal) }

-- a script that is refused at a line, which was told
pub refused_ends : (operations : Operations) (read : Reading) (result : Result Played Unplayed) (why : Unplayed) (line : ℕ) (reason : Reason) (records : List Record) (before now : DeviceState) (status : ℕ) (trail : List Record) → result ≡ Err why → why ≡ Bad line reason records
    → GivesFor (profile_of operations) read result → SaysLegallyFor (profile_of operations) read → trail ≡ records → Told before now (refusal_text line reason) 3 3 status → EndsBy (IsScriptCause operations read) before now status trail
refused_ends operations read result why line reason records before now status trail is bad gives legal same told =
    let at = stopped operations read result why line reason records is bad gives in
    let run : newest_first trail ≡ run_before at.before = ap newest_first same ∙ at.run in
    let own = agreeing operations at.before (newest_first trail) (subst (SaysLegallyFor (profile_of operations)) at.says legal) run in record {
      ending = Refuses line reason at.before;
      cause = at.says;
      run = run;
      list = tt;
      config = own.config;
      own_config = own.own;
      agreement = own.agreement;
      told = told;
    }

-- what a script that was read says is legal
pub read_legal : (operations : Operations) (before now : DeviceState) (read : Reading) → HasRead operations before now read → SaysLegallyFor (profile_of operations) read
read_legal operations before now read has = subst (SaysLegallyFor (profile_of operations)) has.says (script_legal operations has.bytes)
