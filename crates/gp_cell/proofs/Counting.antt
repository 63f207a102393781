-- What a call on the log of a node leaves: the count of faults, the parts of a cell, and what a crash finds.
use Rattle.std.proofs.Common.{◌≡◌, ℕ, false, true, List, arith, refl, sym, subst, ◌∙◌, inl, inr, Result, Ok, Err, Option, Some, None}
use Rattle.std.specs.Prelude.{IsSome, IfErr}
use Rattle.gp_edge.specs.Disks.{IfRevealed, LeavesOnly}
use Rattle.gp_vlog.specs.declared.fault.AppendFault.{AppendFault}
use Rattle.gp_vlog.specs.Bodies.{LogEntry}
use Rattle.gp_vlog.specs.Causes.{IsDisk, HasCause}
use Rattle.gp_vlog.specs.Logs.{LogState, OldOrAdded, OldOrRenewed, log_entries}
use Rattle.gp_wire.specs.Known.{records}
use Rattle.gp_wire.specs.Own.{own}
use Rattle.gp_work.specs.declared.faults.StepFault.{StepFault}
use Rattle.gp_work.specs.declared.faults.RiseFault.{RiseFault}
use Rattle.gp_work.specs.declared.faults.RiseFault.TheVariants as rise
use Rattle.gp_work.specs.declared.moves.Move.{Move}
use Rattle.gp_cell.specs.Refusals.{CountsFaults, CountsRiseFaults, FailsByDisk, RiseFailsByDisk}
use Rattle.gp_cell.specs.declared.found.Found.{Found}
use Rattle.gp_cell.specs.Cores.{opening, part_in}
use Rattle.gp_cell.specs.Cells.{CellState, IsSameBut}
use Rattle.gp_cell.specs.Founds.{FallCause, IsFound, RiseCause}
use Rattle.gp_cell.specs.Crashes.{HoldsSame, OldOrWritten}
use Rattle.gp_cell.proofs.Crashing.{if_revealed, leaves}

-- the disk failed in the one exactly if in the other
pub counted : {T U : Type 0} {before now : ℕ} {r : Result T AppendFault} {s : Result U StepFault} → HasCause before now r → (FailsByDisk s → IsDisk r) → (IsDisk r → FailsByDisk s) → CountsFaults before now s
counted h f g = record { never_falls = h.never_falls; failed = λ d. h.failed (f d); steady = λ n. h.steady (λ d. n (g d)) }

pub counted_as : {T U : Type 0} {before now : ℕ} {x y : AppendFault} {s : Result U StepFault} → HasCause {T = T} before now (Err x) → x ≡ y → (FailsByDisk s → IsDisk {T = T} (Err y)) → (IsDisk {T = T} (Err y) → FailsByDisk s) → CountsFaults before now s
counted_as {T} {U} {before} {now} h e f g = counted (subst (λ k. HasCause {T = T} before now (Err k)) e h) f g

-- the same count, where no disk failed
pub steady_rise : {T : Type 0} {before now : ℕ} {r : Result T RiseFault} → now ≡ before → ¬ RiseFailsByDisk r → CountsRiseFaults before now r
steady_rise same not = record { never_falls = omega arith; failed = λ d. absurd (not d); steady = λ n. same }

pub steady_write : {T : Type 0} {before now : ℕ} {r : Result T StepFault} → now ≡ before → ¬ FailsByDisk r → CountsFaults before now r
steady_write same not = record { never_falls = omega arith; failed = λ d. absurd (not d); steady = λ n. same }

-- the same refusal of another call
pub risen_as : (T U : Type 0) {before now : ℕ} (f : RiseFault) → CountsRiseFaults {T = T} before now (Err f) → CountsRiseFaults {T = U} before now (Err f)
risen_as T U f h = record { never_falls = h.never_falls; failed = h.failed; steady = h.steady }

pub holds_same : {D : Type 0} (content : D → Option (List ℕ)) (log : Option (LogState D)) → HoldsSame content log log
holds_same content None = tt
holds_same content (Some log) = refl

pub went_down : (down : Option Move) → IsSome down → (mv : Move) × (down ≡ Some mv)
went_down None h = absurd (let wrong : false ≡ true = h in cc)
went_down (Some mv) h = (mv, refl)

-- a fall that was refused makes no write
pub fall_cause : {D T : Type 0} (content : D → Option (List ℕ)) (old new : CellState D) (mv : Move) (r : Result T RiseFault) → IfErr r (FallCause new mv) → IfErr r (RiseCause content old new mv)
fall_cause content old new mv (Ok x) h = tt
fall_cause content old new mv (Err rise.NoMemory) h = tt
fall_cause content old new mv (Err rise.Disk) h = tt
fall_cause content old new mv (Err (rise.NotLog at)) h = absurd h
fall_cause content old new mv (Err (rise.Changed found)) h = h

pub no_disk : {D T : Type 0} (new : CellState D) (mv : Move) (r : Result T RiseFault) → IfErr r (FallCause new mv) → ¬ RiseFailsByDisk r
no_disk new mv (Ok x) h d = d
no_disk new mv (Err rise.NoMemory) h d = d
no_disk new mv (Err rise.Disk) h d = h
no_disk new mv (Err (rise.NotLog at)) h d = d
no_disk new mv (Err (rise.Changed found)) h d = d

-- what is left as it was when a log is opened, and then when a move is planned
pub kept_rest : {D : Type 0} (o m q : CellState D) → (m.config ≡ o.config) × (m.node ≡ o.node) × (m.core ≡ o.core) × (m.pass ≡ o.pass) × (m.down ≡ o.down) → IsSameBut m q → (q.config ≡ o.config) × (q.node ≡ o.node) × (q.core ≡ o.core) × (q.down ≡ o.down)
kept_rest o m q f a = (a.0 ∙ f.0, a.1 ∙ f.1, a.2 ∙ f.2, a.4 ∙ f.4)

pub kept_own : {D : Type 0} (o m q : CellState D) → m.node ≡ o.node → m.pass ≡ o.pass → own q.node (records q.pass) ≡ own m.node (records m.pass) → own q.node (records q.pass) ≡ own o.node (records o.pass)
kept_own o m q node pass e = e ∙ (λ i. own (node i) (records (pass i)))

-- the same records of the same node, after a post that was refused
pub same_own : {D : Type 0} (o q r : CellState D) → r.node ≡ o.node → own r.node (records r.pass) ≡ own q.node (records q.pass) → own q.node (records q.pass) ≡ own o.node (records o.pass) → own o.node (records r.pass) ≡ own o.node (records o.pass)
same_own o q r node a b = (λ i. own (sym node i) (records r.pass)) ∙ a ∙ b

pub kept_found : {D : Type 0} (m q : CellState D) (found : Found) → q.config ≡ m.config → q.node ≡ m.node → q.log ≡ m.log → IsFound (part_in (opening m.config m.node)) m.log found → IsFound (part_in (opening q.config q.node)) q.log found
kept_found m q found config node log h = subst (λ l. IsFound (part_in (opening q.config q.node)) l found) (sym log) (subst (λ o. IsFound o m.log found) (λ i. part_in (opening (sym config i) (sym node i))) h)

module _ {D : Type 0} (content : D → Option (List ℕ)) (image : D → List ℕ → Type 0) (moment : D → ℕ) (since : D → ℕ → List ℕ → Type 0) (only_now : (d : D) (c : List ℕ) → since d (moment d) c → image d c) where
  pub added_leaves : (old new : LogState D) (e : LogEntry) → IfRevealed (content old.disk) (λ s. LeavesOnly moment since old.disk new.disk (OldOrAdded old.limit (log_entries false old.entries) e))
      → IfRevealed (content old.disk) (λ s. LeavesOnly moment since old.disk new.disk (OldOrWritten old.limit (log_entries false old.entries) e))
  added_leaves old new e h =
      if_revealed (content old.disk) _ (λ s. LeavesOnly moment since old.disk new.disk (OldOrWritten old.limit (log_entries false old.entries) e))
      (λ s l. leaves content image moment since only_now old.disk new.disk _ (OldOrWritten old.limit (log_entries false old.entries) e) wider l) h
    where
      wider : (s : List ℕ) → OldOrAdded old.limit (log_entries false old.entries) e s → OldOrWritten old.limit (log_entries false old.entries) e s
      wider s (inl x) = inl x
      wider s (inr x) = inr (inl x)

  pub renewed_leaves : (old new : LogState D) (e : LogEntry) → old.is_old ≡ false → IfRevealed (content old.disk) (λ s. LeavesOnly moment since old.disk new.disk (OldOrRenewed old.limit (log_entries old.is_old old.entries) e))
      → IfRevealed (content old.disk) (λ s. LeavesOnly moment since old.disk new.disk (OldOrWritten old.limit (log_entries false old.entries) e))
  renewed_leaves old new e version h =
      if_revealed (content old.disk) _ (λ s. LeavesOnly moment since old.disk new.disk (OldOrWritten old.limit (log_entries false old.entries) e))
      (λ s l. leaves content image moment since only_now old.disk new.disk _ (OldOrWritten old.limit (log_entries false old.entries) e) wider
      (subst (λ b. LeavesOnly moment since old.disk new.disk (OldOrRenewed old.limit (log_entries b old.entries) e)) version l)) h
    where
      wider : (s : List ℕ) → OldOrRenewed old.limit (log_entries false old.entries) e s → OldOrWritten old.limit (log_entries false old.entries) e s
      wider s (inl x) = inl x
      wider s (inr x) = inr (inr x)
