use Rattle.std.proofs.Common.{◌≡◌}
use Rattle.gp_thread_tests.specs.Posters.{acceptors}
use Rattle.gp_thread_tests.proofs.one_list.acceptors.Given as goal

abbrev pub invariant-loop-number : goal.invariant-loop-number
invariant-loop-number l = l.nodes.items ≡ acceptors l.number
