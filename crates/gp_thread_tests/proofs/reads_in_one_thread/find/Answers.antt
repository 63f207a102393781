use Rattle.std.proofs.Common.{List, ◌++◌, ap, sym}
use Rattle.gp_command.specs.declared.command.Command.{Command}
use Rattle.gp_thread_tests.proofs.reads_in_one_thread.find.Goals as goal

pub publish-requires : goal.publish-requires
publish-requires g c = (c.args.replica.now, ap (λ (cs : List Command). cs ++ c.args.replica.now) (sym c.requires.0))
