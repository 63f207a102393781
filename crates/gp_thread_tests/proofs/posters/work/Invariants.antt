use Rattle.gp_thread_tests.specs.Posters.{IsStill}
use Rattle.gp_thread_tests.proofs.posters.work.Given as goal

abbrev pub invariant-loop-number : goal.invariant-loop-number
invariant-loop-number g l = IsStill l.initial.poster.pass l.poster.pass
