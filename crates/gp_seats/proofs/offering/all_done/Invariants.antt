use Rattle.std.proofs.Common.{take}
use Rattle.std.specs.List.{All}
use Rattle.gp_seats.specs.Offering.{IsDone}
use Rattle.gp_seats.proofs.offering.all_done.Given as goal

abbrev pub invariant-loop-job : goal.invariant-loop-job
invariant-loop-job g l = All IsDone (take l.job-index l.jobs)
