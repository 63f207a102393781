-- What holds of a simulated run.
use Rattle.std.specs.Prelude.{◌≤◌, ◌*◌, ℕ, length}
use Rattle.gp_run.specs.Legal.{Legal}
use Rattle.gp_run.specs.TopCount.{top_count}
use Rattle.gp_random.specs.Fitting.{HasEnded}
use Rattle.gp_driver.specs.Settled.{Settles}
use Rattle.gp_sim.specs.Simulated.{sim_config, all_drawn, drawn}

-- the workload was executed to its end, in a legal run of at most nine events for each command, and settling it brings each command to both learners
pub record Simulates (seed commands : ℕ) : Type 0 where
  pub ended : HasEnded (all_drawn seed commands).0
  pub legal : Legal sim_config (drawn seed commands)
  pub short : length (drawn seed commands) ≤ 9 * commands
  pub rounds : top_count sim_config (drawn seed commands) ≤ 2048
  pub settles : Settles sim_config (drawn seed commands)
