-- What the status of a run says of its ending.
use Rattle.std.proofs.Common.{◌≡◌, ℕ, zero, suc, ◌<◌, ◌≤◌, ◌⊎◌, inl, inr, List, [], ◌∷◌, length, Option, Some, None, refl, sym, ap, ◌∙◌, arith}
use Rattle.std.specs.Prelude.{IfSome}
use Rattle.std.proofs.lemmas.List.{length-take, drop_all}
use Rattle.gp_msg.specs.declared.record.Record.{Record}
use Rattle.gp_run.specs.Runs.{newest_first}
use Rattle.gp_text.proofs.EventSteps.{length-newest_first}
use Rattle.gp_edge.specs.Faults.{Rose}
use Rattle.gp_edge.specs.Reads.{ReadsUpTo}
use Rattle.gp_edge.specs.Writes.{AppendsWhole}
use Rattle.gp_ending.specs.declared.ends.RunEnd.{RunEnd}
use Rattle.gp_ending.specs.declared.ends.RunEnd.TheVariants as end
use Rattle.gp_cli.specs.declared.runs.TheConstants.{MOST_READ}
use Rattle.gp_cli.specs.Outside.{DeviceState, Told, Wholly, AtFault, ForMemory}
use Rattle.gp_cli.specs.Endings.{Ending, Misused, Unread, Refuses, Plays, Drives, Simulates, Shows, DiskFails, Overflows, Breaks, Runs, Rejects, Upholds, Starved, run_status, status_of, status_at_fault, ending_text}
use Rattle.gp_cli.specs.Logs.{TellsEnding}

-- a run without entries has no records
pub no_records : (records : List Record) → newest_first records ≡ [] → records ≡ []
no_records [] none = refl
no_records (r ∷ rs) none = let as_many = sym (length-newest_first (r ∷ rs)) ∙ ap length none in absurd (omega (arith, as_many))

-- after a script that is short enough nothing is left
pub nothing_left : (before now : Option (List ℕ)) (bytes : List ℕ) → ReadsUpTo MOST_READ before now bytes → length bytes ≤ 1048576 → IfSome now (λ rest. rest ≡ [])
nothing_left None now bytes reads short = rw reads tt
nothing_left (Some rest) now bytes reads short =
    let taken = ap length reads.0 in
    let count = length-take MOST_READ rest in
    rw reads.1 (drop_all MOST_READ rest (omega (arith, taken, count, short)))

-- one status, or the one for memory that ran out, if both texts have one or the sink did not fail
pub same_status : (before now : DeviceState) (text : List ℕ) (n status : ℕ) → Told before now text n n status → (status ≡ n) ⊎ (status ≡ 1)
same_status before now text n status (Wholly is steady written) = inl is
same_status before now text n status (AtFault is rose written) = inl is
same_status before now text n status (ForMemory is steady written) = inr is

pub one_status : (before now : DeviceState) (text : List ℕ) (whole at_fault status : ℕ) → ¬ Rose before.faults now.faults → Told before now text whole at_fault status → (status ≡ whole) ⊎ (status ≡ 1)
one_status before now text whole at_fault status well (Wholly is steady written) = inl is
one_status before now text whole at_fault status well (AtFault is rose written) = absurd (well rose)
one_status before now text whole at_fault status well (ForMemory is steady written) = inr is

-- the status for memory that ran out
pub starved_status : (before now : DeviceState) (text : List ℕ) (status : ℕ) → Told before now text 1 1 status → status ≡ 1
starved_status before now text status (Wholly is steady written) = is
starved_status before now text status (AtFault is rose written) = is
starved_status before now text status (ForMemory is steady written) = is

-- ---- which ending has a status

-- a text that was told whole, with the status of its ending
pub record IsWhole (ending : Ending) (before now : DeviceState) : Type 0 where
  pub well : status_of ending ≡ 0
  pub steady : now.faults ≡ before.faults
  pub written : AppendsWhole before.bytes now.bytes (ending_text ending)

-- with status 0 all was written
pub done : (ending : Ending) (before now : DeviceState) (status : ℕ) → TellsEnding ending before now status → status ≡ 0 → IsWhole ending before now
done ending before now status (Wholly is steady written) none_failed = record { well = sym is ∙ none_failed; steady = steady; written = written }
done ending before now status (AtFault is rose written) none_failed = absurd (never (status_of ending) (sym is ∙ none_failed)) where
  never : (n : ℕ) → status_at_fault n ≡ 0 → ⊥
  never zero e = cc
  never (suc n) e = cc
done ending before now status (ForMemory is steady written) none_failed = let clash : 1 ≡ 0 = sym is ∙ none_failed in cc

-- a status from 2 on but 5 is that of the ending
pub own_status : (ending : Ending) (before now : DeviceState) (status n : ℕ) → TellsEnding ending before now status → status ≡ suc (suc n) → ¬ (suc (suc n) ≡ 5) → status_of ending ≡ suc (suc n)
own_status ending before now status n (Wholly is steady written) e no_five = sym is ∙ e
own_status ending before now status n (AtFault is rose written) e no_five = by (status_of ending) (sym is ∙ e) where
  by : (m : ℕ) → status_at_fault m ≡ suc (suc n) → m ≡ suc (suc n)
  by zero h = absurd (no_five (sym h))
  by (suc m) h = h
own_status ending before now status n (ForMemory is steady written) e no_five = let clash : 1 ≡ suc (suc n) = sym is ∙ e in cc

-- with status 5 the sink failed, and the ending would have had status 0
pub sink_failed : (ending : Ending) (before now : DeviceState) (status : ℕ) → ¬ (status_of ending ≡ 5) → TellsEnding ending before now status → status ≡ 5 → (status_of ending ≡ 0) × Rose before.faults now.faults
sink_failed ending before now status not (Wholly is steady written) five = absurd (not (sym is ∙ five))
sink_failed ending before now status not (AtFault is rose written) five = (by (status_of ending) not (sym is ∙ five), rose) where
  by : (m : ℕ) → ¬ (m ≡ 5) → status_at_fault m ≡ 5 → m ≡ 0
  by zero other h = refl
  by (suc m) other h = absurd (other h)
sink_failed ending before now status not (ForMemory is steady written) five = let clash : 1 ≡ 5 = sym is ∙ five in cc

-- no run of nodes has a status from 2 to 5
pub no_run_status : (why : RunEnd) (n : ℕ) → run_status why ≡ n → 1 < n → n < 6 → ⊥
no_run_status end.Learned n is more less = omega (arith, is, more, less)
no_run_status end.NoMemory n is more less = omega (arith, is, more, less)
no_run_status end.Disk n is more less = omega (arith, is, more, less)
no_run_status (end.Full size need) n is more less = omega (arith, is, more, less)
no_run_status (end.NotLog at) n is more less = omega (arith, is, more, less)
no_run_status end.Changed n is more less = omega (arith, is, more, less)

pub never_five : (ending : Ending) → status_of ending ≡ 5 → ⊥
never_five Misused e = cc
never_five Unread e = cc
never_five (Refuses line reason said) e = cc
never_five (Plays operations config said) e = cc
never_five (Drives config n) e = cc
never_five (Simulates seed n) e = cc
never_five (Shows k log) e = cc
never_five DiskFails e = cc
never_five (Overflows size need) e = cc
never_five (Breaks place) e = cc
never_five (Runs why config list text) e = no_run_status why 5 e (omega arith) (omega arith)
never_five (Rejects line reason said) e = cc
never_five (Upholds config events text) e = cc
never_five Starved e = cc
