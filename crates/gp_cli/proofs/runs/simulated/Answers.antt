use Rattle.std.proofs.Common.{subst, arith}
use Rattle.gp_round.specs.Counts.{Counts}
use Rattle.gp_sim.specs.Simulated.{sim_config}
use Rattle.gp_world.specs.State.{entries_of}
use Rattle.gp_cli.proofs.Machines.{all_agree}
use Rattle.gp_run.specs.Legal.{Legal}
use Rattle.gp_cli.proofs.runs.simulated.Goals as goal

pub returns-clause-agreement : goal.returns-clause-agreement
returns-clause-agreement g c =
    let world = c.in_ok-world.world in
    all_agree sim_config (omega arith) (entries_of world) (subst (λ (config : Counts). Legal config (entries_of world)) c.in_ok-world.ensures.config c.records-legal.ensures.legal)
