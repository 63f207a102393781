use Rattle.std.proofs.Common.{◌≡◌, ℕ}
use Rattle.gp_world.specs.State.{entries_of}
use Rattle.gp_random.specs.Plans.{plan_of}
use Rattle.gp_random.specs.Fitting.{events_left}
use Rattle.gp_sim.specs.Simulated.{sim_config, after}
use Rattle.gp_sim.proofs.simulating.draw.Given as goal

abbrev pub invariant-loop-world : goal.invariant-loop-world
invariant-loop-world l = (l.world.config ≡ sim_config) × ((n : ℕ) × (after n (plan_of l.seed l.commands) ≡ (l.workload, entries_of l.world)))

abbrev pub decreases-loop-world : goal.decreases-loop-world
decreases-loop-world l = events_left l.workload
