use Rattle.std.proofs.Common.{◌≡◌, ◌<◌, ◌+◌, ◌^◌, ◌%◌}
use Rattle.gp_report.specs.Summaries.{sum_of_values}
use Rattle.gp_report.proofs.Sums.{total}
use Rattle.gp_report.proofs.summaries.sum_of_values.Given as goal

abbrev pub invariant-loop-value : goal.invariant-loop-value
invariant-loop-value l = (l.sum < 2 ^ 64) × ((l.sum + total l.value-iterator) % 2 ^ 64 ≡ sum_of_values l.pairs.entries)
