use Rattle.gp_thread_tests.specs.Posters.{IsStill}
use Rattle.gp_thread_tests.proofs.posters.finds_nothing.Given as goal

abbrev pub invariant-loop : goal.invariant-loop
invariant-loop g l = IsStill l.initial.pass l.pass
