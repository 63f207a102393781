use Rattle.gp_stage.specs.Gathered.{AreGathered}
use Rattle.gp_stage.proofs.gathering.gather.Given as goal

abbrev pub invariant-loop-i : goal.invariant-loop-i
invariant-loop-i g l = AreGathered l.wire l.fn.cells l.cells l.i
