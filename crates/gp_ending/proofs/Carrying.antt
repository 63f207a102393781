-- Jobs that were carried through phases.
use Rattle.std.proofs.Common.{◌≡◌, ◌≤◌, ◌∙◌, inl, inr, true, false, ℕ, List, map, refl, sym, ap, subst, Option, Some, None, Result, Ok, Err, OnOk, is_err}
use Rattle.std.specs.Prelude.{IfSome, unwrap_or}
use Rattle.std.specs.List.{All}
use Rattle.gp_work.specs.declared.faults.JobFault.{JobFault}
use Rattle.gp_work.specs.declared.faults.JobFault.TheVariants.{NoMemory, Disk, Full, NotLog, Changed}
use Rattle.gp_work.specs.declared.job.Job.{Job}
use Rattle.gp_work.specs.Causes.{FaultCauses}
use Rattle.gp_work.specs.Doing.{ProcessState}
use Rattle.gp_work.proofs.Stretches.{goes_same, goes_on, rose_on}
use Rattle.gp_round.specs.declared.round.Round.{Round}
use Rattle.gp_phase.specs.Phases.{Going, FaultCause, Carried}
use Rattle.gp_ending.specs.declared.ends.RunEnd.{RunEnd}
use Rattle.gp_ending.specs.Ends.{deciding, fault_in}
use Rattle.gp_ending.specs.Working.{IsDecided}
use Rattle.gp_ending.proofs.Deciding.{nothing_decides}

module _ {N P : Type 0} (state : P → ProcessState) (is_of : P → N → Type 0) (causes : P → FaultCauses) (net : N) where
  no_fault : (P : JobFault → Type 0) (o : Option JobFault) → o ≡ None → IfSome o P
  no_fault P o e = subst (λ x. IfSome x P) (sym e) tt

  -- a job that goes on from where it stands
  pub carried_still : (rs : List Round) (j : Job P) → Going state is_of net rs j j → Carried state is_of causes net j j
  carried_still rs j g = record {
    own = g.own;
    goes = goes_same (state j.cell);
    cause = no_fault (FaultCause (state j.cell).faults (state j.cell).faults (causes j.cell)) j.fault g.fault;
  }

  cause_on : (a b c : ℕ) (means : FaultCauses) → a ≤ b → (f : JobFault) → FaultCause b c means f → FaultCause a c means f
  cause_on a b c means l NoMemory h = tt
  cause_on a b c means l Disk h = rose_on a b c l h
  cause_on a b c means l (Full size need) h = h
  cause_on a b c means l (NotLog at) h = (rose_on a b c l h.0, h.1)
  cause_on a b c means l (Changed found) h = (rose_on a b c l h.0, h.1)

  caused_on : (a b c : ℕ) (means : FaultCauses) → a ≤ b → (o : Option JobFault) → IfSome o (FaultCause b c means) → IfSome o (FaultCause a c means)
  caused_on a b c means l None h = tt
  caused_on a b c means l (Some f) h = cause_on a b c means l f h

  pub carried_on : (j x k : Job P) → Carried state is_of causes net j x → Carried state is_of causes net x k → Carried state is_of causes net j k
  carried_on j x k a b = record {
    own = b.own;
    goes = goes_on (state j.cell) (state x.cell) (state k.cell) a.goes b.goes;
    cause = caused_on (state j.cell).faults (state x.cell).faults (state k.cell).faults (causes k.cell) a.goes.faults k.fault b.cause;
  }

-- ---- results

-- a fact for a result that is no error
pub on_ok : {T E : Type 0} (P : Type 0) (r : Result T E) → false ≡ is_err r → OnOk r P → P
on_ok P (Ok x) e h = h
on_ok P (Err x) e h = absurd (let wrong : false ≡ true = e in cc)

-- memory ran out, and no job has a fault
pub decided_none : {P : Type 0} (jobs : List (Job P)) (end : Option RunEnd) → end ≡ Some RunEnd.NoMemory → All (λ (j : Job P). j.fault ≡ None) jobs → IfSome end (IsDecided jobs)
decided_none jobs end is none = subst (λ o. IfSome o (IsDecided jobs)) (sym is) (inl (refl, nothing_decides jobs none))

-- what decides, and want of memory if nothing does
pub decided_or : {P : Type 0} (jobs : List (Job P)) (o : Option RunEnd) (e : RunEnd) → o ≡ deciding (map fault_in jobs) → e ≡ unwrap_or o RunEnd.NoMemory → IsDecided jobs e
decided_or jobs None e is r = inl (r, sym is)
decided_or jobs (Some x) e is r = inr (sym is ∙ ap (λ y. Some y) (sym r))
