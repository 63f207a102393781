-- From the verdict on an input to the end of an audit.
use Rattle.std.proofs.Common.{◌≡◌, ℕ, List, Option, Result, Err, refl, sym, ap, subst, ◌∙◌}
use Rattle.gp_msg.specs.declared.record.Record.{Record}
use Rattle.gp_run.specs.Runs.{newest_first}
use Rattle.gp_edge.specs.Reads.{ReadsUpTo}
use Rattle.gp_text.specs.Reading.{Script, run_before}
use Rattle.gp_text.specs.Limits.{IsLegalScript, IsLegalBefore}
use Rattle.gp_script.specs.declared.reason.Reason.{Reason}
use Rattle.gp_verdict.specs.declared.answer.Audited.{Audited}
use Rattle.gp_verdict.specs.declared.answer.Unaudited.{Unaudited}
use Rattle.gp_verdict.specs.declared.answer.Unaudited.TheVariants as unaudited
use Rattle.gp_verdict.specs.Verdicts.{Rejected, verdict, RulesLegally}
use Rattle.gp_verdict.specs.Certified.{IsCertified}
use Rattle.gp_verdict.specs.Answers as answers
use Rattle.gp_verdict.proofs.Legally.{rules_legally}
use Rattle.gp_cli.specs.declared.subcommand.Operations.TheVariants.{Store}
use Rattle.gp_cli.specs.declared.runs.TheConstants.{MOST_READ}
use Rattle.gp_cli.specs.Machines.{IsInAgreementOfAll}
use Rattle.gp_cli.specs.Texts.{refusal_text}
use Rattle.gp_cli.specs.Outside.{DeviceState, Told}
use Rattle.gp_cli.specs.Endings.{Ending, Misused, Unread, Refuses, Plays, Drives, Simulates, Shows, DiskFails, Overflows, Breaks, Runs, Rejects, Upholds, Starved}
use Rattle.gp_cli.specs.Audits.{IsVerdictCause, HasReadInput, IsAuditCause}
use Rattle.gp_cli.specs.Serving.{EndsBy}
use Rattle.gp_cli.proofs.Machines.{script_agrees}
use Rattle.gp_cli.proofs.Causes.{loses, because, agreeing}

-- an input that is upheld, whose certificates were told
pub upheld_ends : (bytes : List ℕ) (audited : Audited) (before now : DeviceState) (status : ℕ) (trail : List Record) → answers.IsAudited (verdict bytes) audited → trail ≡ audited.world.records → Told before now audited.text.items 0 5 status
    → EndsBy (IsVerdictCause (verdict bytes)) before now status trail
upheld_ends bytes audited before now status trail is same told =
    let upheld = is.upheld in
    let config = audited.world.config in
    let run = ap newest_first same ∙ upheld.run in
    let legal : IsLegalScript config upheld.events = subst RulesLegally upheld.ruled (rules_legally bytes) in record {
      ending = Upholds config upheld.events audited.text.items;
      cause = (upheld.ruled, subst (λ es. IsCertified config es audited.text.items) upheld.run is.certified);
      run = run;
      list = tt;
      config = config;
      own_config = refl;
      agreement = subst (IsInAgreementOfAll config) (sym run) (script_agrees Store config upheld.events legal);
      told = told;
    }

-- an input that is refused at a line
rejected : (bytes : List ℕ) (result : Result Audited Unaudited) (why : Unaudited) (line : ℕ) (reason : Reason) (records : List Record) → result ≡ Err why → why ≡ unaudited.Bad line reason records
    → answers.Audits (verdict bytes) result → answers.IsRejected (verdict bytes) line reason records
rejected bytes result why line reason records is bad audits =
    let P : Result Audited Unaudited → Type 0 = λ r. answers.Audits (verdict bytes) r in
    let Q : Unaudited → Type 0 = λ u. answers.Refuses (verdict bytes) u in
    subst Q bad (subst P is audits)

-- such an input, whose line was told
pub rejected_ends : (bytes : List ℕ) (result : Result Audited Unaudited) (why : Unaudited) (line : ℕ) (reason : Reason) (records : List Record) (before now : DeviceState) (status : ℕ) (trail : List Record) → result ≡ Err why → why ≡ unaudited.Bad line reason records
    → answers.Audits (verdict bytes) result → trail ≡ records → Told before now (refusal_text line reason) 3 3 status → EndsBy (IsVerdictCause (verdict bytes)) before now status trail
rejected_ends bytes result why line reason records before now status trail is bad audits same told =
    let at = rejected bytes result why line reason records is bad audits in
    let run : newest_first trail ≡ run_before at.before = ap newest_first same ∙ at.run in
    let legal : IsLegalBefore at.before = subst RulesLegally at.ruled (rules_legally bytes) in
    let own = agreeing Store at.before (newest_first trail) legal run in record {
      ending = Rejects line reason at.before;
      cause = at.ruled;
      run = run;
      list = tt;
      config = own.config;
      own_config = own.own;
      agreement = own.agreement;
      told = told;
    }

-- the cause by the verdict on what was read is one by the source
input_cause : (before now : DeviceState) (bytes : List ℕ) → ReadsUpTo MOST_READ before.bytes now.bytes bytes → now.faults ≡ before.faults → (ending : Ending) → IsVerdictCause (verdict bytes) ending → IsAuditCause before now ending
input_cause before now bytes taken steady Misused cause = cause
input_cause before now bytes taken steady Unread cause = absurd cause
input_cause before now bytes taken steady (Refuses line reason said) cause = cause
input_cause before now bytes taken steady (Plays operations config said) cause = cause
input_cause before now bytes taken steady (Drives config commands) cause = cause
input_cause before now bytes taken steady (Simulates seed commands) cause = cause
input_cause before now bytes taken steady (Shows disk log) cause = cause
input_cause before now bytes taken steady DiskFails cause = cause
input_cause before now bytes taken steady (Overflows size need) cause = cause
input_cause before now bytes taken steady (Breaks place) cause = cause
input_cause before now bytes taken steady (Runs end config list text) cause = cause
input_cause before now bytes taken steady (Rejects line reason said) cause = record { bytes = bytes; taken = taken; steady = steady; holds = cause }
input_cause before now bytes taken steady (Upholds config events text) cause = record { bytes = bytes; taken = taken; steady = steady; holds = cause }
input_cause before now bytes taken steady Starved cause = (steady, loses MOST_READ before.bytes now.bytes bytes taken)

-- an input that was read up to the limit ends as an input
pub input_ends : (rest left before now : DeviceState) (status : ℕ) (trail : List Record) (bytes input : List ℕ) → input ≡ bytes → ReadsUpTo MOST_READ rest.bytes left.bytes bytes → left.faults ≡ rest.faults
    → EndsBy (IsVerdictCause (verdict input)) before now status trail → EndsBy (IsAuditCause rest left) before now status trail
input_ends rest left before now status trail bytes input same taken steady ends =
    let Q : List ℕ → Type 0 = λ b. EndsBy (IsVerdictCause (verdict b)) before now status trail in
    because (IsVerdictCause (verdict bytes)) (IsAuditCause rest left) before now status trail (input_cause rest left bytes taken steady) (subst Q same ends)

-- what the trace of a refused input says before the refused line is legal
pub read_before_legal : (before now : DeviceState) (line : ℕ) (reason : Reason) (said : Option Script) → HasReadInput before now (λ bytes. verdict bytes ≡ Rejected line reason said) → IsLegalBefore said
read_before_legal before now line reason said read = subst RulesLegally read.holds (rules_legally read.bytes)
