use Rattle.std.proofs.Common.{refl}
use Rattle.gp_sim.specs.Simulated.{sim_config}
use Rattle.gp_cli.specs.Endings.{Simulates}
use Rattle.gp_cli.proofs.Causes.{printed_ends}
use Rattle.gp_cli.proofs.runs.simulate_and_summarize.Goals as goal

pub returns-clause-ends : goal.returns-clause-ends
returns-clause-ends g c =
    printed_ends (Simulates c.args.seed c.args.commands) sim_config _ _ _ _ c.simulated-made.result tt refl refl c.simulated-made.ensures.run c.simulated-made.ensures.text c.simulated-made.ensures.agreement c.print.ensures.made c.print.ensures.starved
