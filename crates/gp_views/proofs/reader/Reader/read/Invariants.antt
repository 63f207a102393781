use Rattle.std.proofs.Common.{◌≡◌}
use Rattle.gp_views.proofs.reader.Reader.read.Given as goal

abbrev pub invariant-loop : goal.invariant-loop
invariant-loop g l =
    (goal.iterator-loop g).can_next l.iterator' × (goal.iterator-loop g).is_finite l.iterator' × (l.self.seen ≡ l.fn.self.seen) × (l.self.told ≡ l.fn.self.told) × (l.self.feed ≡ l.fn.self.feed)
