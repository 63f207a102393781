use Rattle.std.proofs.Common.{◌≡◌}
use Rattle.gp_thread_tests.proofs.watchers.publish_all.Given as goal

abbrev pub invariant-loop-before : goal.invariant-loop-before
invariant-loop-before g l = l.feed.list ≡ l.replica
