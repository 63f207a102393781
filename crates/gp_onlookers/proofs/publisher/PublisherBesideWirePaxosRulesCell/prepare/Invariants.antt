use Rattle.std.proofs.Common.{◌≡◌}
use Rattle.gp_onlookers.proofs.publisher.PublisherBesideWirePaxosRulesCell.prepare.Given as goal

abbrev pub invariant-loop-job : goal.invariant-loop-job
invariant-loop-job g l = l.self.feed ≡ l.fn.self.feed
