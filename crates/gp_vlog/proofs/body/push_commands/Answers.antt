use Rattle.std.proofs.Common.{arith, subst}
use Rattle.std.proofs.lemmas.Grind.{common_steps}
use Rattle.std.proofs.lemmas.List.Elements.{All-more}
use Rattle.gp_vlog.specs.Bodies.{IsReadAgain}
use Rattle.gp_vlog.proofs.body.push_commands.Goals as goal

pub loop-c-preserved : goal.loop-c-preserved
loop-c-preserved c = record {
  written = grind (arith, common_steps);
  again = All-more IsReadAgain c.args.commands.now c.loop-c.c-index c.c-item.result c.loop-c-test.true c.loop-c.invariant.again (subst IsReadAgain c.c-item.is c.in_ok-write_command.ensures.read_again);
}
