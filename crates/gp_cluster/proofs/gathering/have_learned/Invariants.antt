use Rattle.std.proofs.Common.{take}
use Rattle.std.specs.List.{All}
use Rattle.gp_cluster.specs.Cells.{HasLearned}
use Rattle.gp_cluster.proofs.gathering.have_learned.Given as goal

abbrev pub invariant-loop-cell : goal.invariant-loop-cell
invariant-loop-cell g l = All (HasLearned l.commands) (take l.cell-index l.cells)
