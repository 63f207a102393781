-- Why an audit of what a run printed ends as it does.
use Rattle.std.specs.Prelude.{◌≡◌, ℕ, List}
use Rattle.gp_run.specs.Runs.{run_of}
use Rattle.gp_edge.specs.Faults.{Rose}
use Rattle.gp_edge.specs.Reads.{ReadsUpTo, LosesUpTo}
use Rattle.gp_verdict.specs.Verdicts.{Verdict, Upheld, Rejected, verdict}
use Rattle.gp_verdict.specs.Certified.{IsCertified}
use Rattle.gp_cli.specs.declared.runs.TheConstants.{MOST_READ}
use Rattle.gp_cli.specs.Outside.{DeviceState}
use Rattle.gp_cli.specs.Endings.{Ending, Unread, Rejects, Upholds, Starved}

-- why an audit with its input at hand ends in this way, by the verdict on the input
abbrev pub IsVerdictCause : Verdict → Ending → Type 0
IsVerdictCause ruling (Rejects line reason said) = ruling ≡ Rejected line reason said
IsVerdictCause ruling (Upholds config events text) = (ruling ≡ Upheld config events) × IsCertified config (run_of config events) text
IsVerdictCause ruling Starved = Unit {0}
IsVerdictCause ruling ending = ⊥

-- this holds of the bytes read, up to one more than a script may have, and no fault was counted
pub record HasReadInput (before now : DeviceState) (Holds : List ℕ → Type 0) : Type 0 where
  pub bytes : List ℕ
  pub taken : ReadsUpTo MOST_READ before.bytes now.bytes bytes
  pub steady : now.faults ≡ before.faults
  pub holds : Holds bytes

-- why an audit that first reads its input ends in this way, by the source before and now
abbrev pub IsAuditCause : DeviceState → DeviceState → Ending → Type 0
IsAuditCause before now Unread = Rose before.faults now.faults × LosesUpTo MOST_READ before.bytes now.bytes
IsAuditCause before now (Rejects line reason said) = HasReadInput before now (λ bytes. IsVerdictCause (verdict bytes) (Rejects line reason said))
IsAuditCause before now (Upholds config events text) = HasReadInput before now (λ bytes. IsVerdictCause (verdict bytes) (Upholds config events text))
IsAuditCause before now Starved = (now.faults ≡ before.faults) × LosesUpTo MOST_READ before.bytes now.bytes
IsAuditCause before now ending = ⊥
