use Rattle.gp_thread_tests.specs.Posters.{IsStill}
use Rattle.gp_thread_tests.proofs.posters.read_on.Given as goal

abbrev pub invariant-loop : goal.invariant-loop
invariant-loop g l = IsStill l.initial.poster.pass l.poster.pass
