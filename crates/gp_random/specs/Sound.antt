-- The invariant of a workload.
use Rattle.std.specs.Prelude.{◌+◌, ◌≤◌}
use Rattle.gp_random.specs.declared.plan.Plan.{Plan}

-- no more commands were offered than there are, and each turn that is left may begin a round
pub record IsSound (p : Plan) : Type 0 where
  pub offered : p.offered ≤ p.size
  pub counts : p.top_count + p.turns ≤ 2048
