use Rattle.std.proofs.Common.{◌≡◌}
use Rattle.gp_random.specs.Plans.{next}
use Rattle.gp_random.specs.Sound.{IsSound}
use Rattle.gp_random.proofs.plan.Plan.next.Given as goal

abbrev pub invariant-loop-self : goal.invariant-loop-self
invariant-loop-self l = (next l.have l.self ≡ next l.have l.fn.self) × IsSound l.self

abbrev pub decreases-loop-self : goal.decreases-loop-self
decreases-loop-self l = l.self.turns
