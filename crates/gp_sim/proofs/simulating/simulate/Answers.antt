use Rattle.gp_world.specs.State.{entries_of}
use Rattle.gp_sim.proofs.Drawing.{simulates, rounds_left, settled_short, settled_is}
use Rattle.gp_sim.proofs.simulating.simulate.Goals as goal

pub returns-in_err-world-clause-learned : goal.returns-in_err-world-clause-learned
returns-in_err-world-clause-learned g c = simulates c.args.seed c.args.commands c.requires.few

pub settle-requires-clause-rounds : goal.settle-requires-clause-rounds
settle-requires-clause-rounds g c = rounds_left c.args.seed c.args.commands c.in_ok-world.world.config (entries_of c.in_ok-world.world) c.requires.few c.in_ok-world.ensures.config c.in_ok-world.ensures.run

pub settle-requires-clause-room : goal.settle-requires-clause-room
settle-requires-clause-room g c = settled_short c.args.seed c.args.commands c.in_ok-world.world.config (entries_of c.in_ok-world.world) c.requires.few c.in_ok-world.ensures.config c.in_ok-world.ensures.run

pub returns-in-Ok-clause-run : goal.returns-in-Ok-clause-run
returns-in-Ok-clause-run g c = settled_is c.args.seed c.args.commands c.in_ok-world.world.config (entries_of c.in_ok-world.world) (entries_of c.settle.new.stage) c.in_ok-world.ensures.config c.in_ok-world.ensures.run c.in-Ok.ensures.driven.outcome.0

pub returns-in-Ok-clause-learned : goal.returns-in-Ok-clause-learned
returns-in-Ok-clause-learned g c = simulates c.args.seed c.args.commands c.requires.few

pub returns-in-Err-clause-learned : goal.returns-in-Err-clause-learned
returns-in-Err-clause-learned g c = simulates c.args.seed c.args.commands c.requires.few
