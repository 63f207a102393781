-- Jobs of cells over disks in memory.
use Rattle.std.specs.Prelude.{◌≡◌, []}
use Rattle.gp_round.specs.Counts.{Counts}
use Rattle.gp_cell.specs.Working.{process_of, IsAt}
use Rattle.gp_phase.specs.Phases.{IsNew}
use Rattle.gp_edge.specs.Records.{MemDiskState}
use Rattle.gp_wire.specs.Lists.{Has}
use Rattle.gp_wire.specs.Known.{WireState, PassState}
use Rattle.gp_work.specs.declared.job.Job.{Job}
use Rattle.gp_cell.specs.declared.rules.PaxosRules.{PaxosRules}
use Rattle.gp_cell.specs.Cells.{CellState}

-- the pass is one of this wire, knows its nodes, holds its own node, and has seen nothing
abbrev pub IsFresh : WireState PaxosRules → PassState → Type 0
IsFresh wire p = (p.wire ≡ wire.id) × (p.all ≡ wire.nodes) × Has p.node p.holds × (p.seen ≡ [])

-- the job is one of a node of this configuration that is up at this wire and has posted nothing
abbrev pub IsNewJob : WireState PaxosRules → Counts → Job (CellState MemDiskState) → Type 0
IsNewJob wire config job = IsNew (process_of (λ d. d.calls.faults)) (λ c w. IsAt c w) wire job × (job.cell.config ≡ config)
