-- What happens to the log of a disk that is shown or renewed.
use Rattle.std.specs.Prelude.{◌≡◌, ◌⊎◌, ℕ, true, false, List, [], Option, None, Result, Ok, Err}
use Rattle.gp_edge.specs.Disks.{IfRevealed, LeavesOnly}
use Rattle.gp_vlog.specs.declared.fault.AppendFault.{AppendFault}
use Rattle.gp_vlog.specs.declared.fault.AppendFault.TheVariants as append
use Rattle.gp_vlog.specs.declared.fault.OpenFault.{OpenFault}
use Rattle.gp_vlog.specs.declared.fault.OpenFault.TheVariants as opening
use Rattle.gp_vlog.specs.Bodies.{need}
use Rattle.gp_vlog.specs.Files.{Contents, is_limit, read_log}
use Rattle.gp_vlog.specs.Logs.{LogState, IsReady, has_old, log_entries}
use Rattle.gp_cli.specs.Outside.{DeviceState, Told}
use Rattle.gp_cli.specs.Endings.{Ending, DiskFails, Overflows, Breaks, Starved, status_of, status_at_fault, ending_text, run_to, config_of}
use Rattle.gp_cli.specs.Causes.{last_alone, HasNoRoom, FitsAlone}

-- the text of an ending was written to the sink, with its status
abbrev pub TellsEnding : Ending → DeviceState → DeviceState → ℕ → Type 0
TellsEnding ending before now status = Told before now (ending_text ending) (status_of ending) (status_at_fault (status_of ending)) status

-- a run without events ended in a way that has its cause, and its text was written to the sink, with its status
pub record LogEnds (Cause : Ending → Type 0) (before now : DeviceState) (status : ℕ) : Type 0 where
  pub ending : Ending
  pub cause : Cause ending
  pub no_run : run_to ending ≡ []
  pub no_config : config_of ending ≡ None
  pub told : TellsEnding ending before now status

-- how a run ends if a log was not opened
abbrev pub open_ending : OpenFault → Ending
open_ending (opening.NotLog at) = Breaks at
open_ending opening.Disk = DiskFails
open_ending opening.NoMemory = Starved

-- how it ends if a log was not renewed
abbrev pub append_ending : AppendFault → Ending
append_ending (append.Full size need) = Overflows size need
append_ending append.Disk = DiskFails
append_ending append.NoMemory = Starved

-- these bytes are a log of the same limit and entries as those, or with the last of them alone
pub record HoldsLast (was now : List ℕ) : Type 0 where
  pub before : Contents
  pub found : Contents
  pub read_before : read_log is_limit was ≡ Ok before
  pub read_now : read_log is_limit now ≡ Ok found
  pub limit : found.limit ≡ before.limit
  pub entries : (found.entries ≡ before.entries) ⊎ (found.entries ≡ last_alone before.entries)

-- if the disk reveals what it holds, a crash at any moment leaves what it might have left before, or a log with all its entries or with the last one
abbrev pub KeepsLast : {D : Type 0} → (D → Option (List ℕ)) → (D → List ℕ → Type 0) → (D → ℕ) → (D → ℕ → List ℕ → Type 0) → D → D → Type 0
KeepsLast content image moment since old new = IfRevealed (content old) (λ was. LeavesOnly moment since old new (λ c. image old c ⊎ HoldsLast was c))

-- what a log is after an upgrade, whether it succeeded or not
abbrev pub TakesOn : {D : Type 0} → (D → Option (List ℕ)) → (D → List ℕ → Type 0) → LogState D → LogState D → Result (Unit {0}) AppendFault → Type 0
TakesOn content image old new (Ok x) =
    IsReady content image new × (new.limit ≡ old.limit) × (has_old (log_entries old.is_old old.entries) ≡ false → new ≡ old)
    × (has_old (log_entries old.is_old old.entries) ≡ true → (log_entries new.is_old new.entries ≡ last_alone (log_entries old.is_old old.entries)) × FitsAlone old.limit (log_entries old.is_old old.entries))
TakesOn content image old new (Err (append.Full size need)) = (new ≡ old) × HasNoRoom size need old.limit (log_entries old.is_old old.entries)
TakesOn content image old new (Err append.Disk) = Unit {0}
TakesOn content image old new (Err append.NoMemory) = Unit {0}
