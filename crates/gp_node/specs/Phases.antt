-- Jobs of cells before and after a work phase.
use Rattle.std.specs.Prelude.{ℕ, List, Option}
use Rattle.gp_wire.specs.Known.{WireState}
use Rattle.gp_work.specs.declared.job.Job.{Job}
use Rattle.gp_work.specs.Jobs.{IsReady, HasWorked}
use Rattle.gp_cell.specs.declared.rules.PaxosRules.{PaxosRules}
use Rattle.gp_cell.specs.Cells.{CellState}
use Rattle.gp_cell.specs.Working.{process_of, causes_of, IsAt}

-- the job can be done at this wire; `faults` is the count of faults of a disk
abbrev pub IsReadyJob : {D : Type 0} → (D → ℕ) → WireState PaxosRules → Job (CellState D) → Type 0
IsReadyJob faults wire job = IsReady (process_of faults) (λ c w. IsAt c w) wire job

-- the job was done at this wire; `content` is what a disk holds, if it reveals it
abbrev pub IsWorkedJob : {D : Type 0} → (D → Option (List ℕ)) → (D → ℕ) → WireState PaxosRules → Job (CellState D) → Job (CellState D) → Type 0
IsWorkedJob content faults wire before after = HasWorked (process_of faults) (λ c w. IsAt c w) (causes_of content) wire before after
