use Rattle.std.proofs.Common.{List, ◌++◌, ap, sym, ◌∙◌}
use Rattle.gp_command.specs.declared.command.Command.{Command}
use Rattle.gp_thread_tests.proofs.refused_publishes.publish_one.Goals as goal

pub publish-requires : goal.publish-requires
publish-requires g c = (c.args.first.now, ap (λ (cs : List Command). cs ++ c.args.first.now) (sym c.requires))

pub publish-requires-in-Err : goal.publish-requires-in-Err
publish-requires-in-Err g c = (c.args.second.now, ap (λ (cs : List Command). cs ++ c.args.second.now) (sym (c.in-Err.ensures.unchanged ∙ c.requires)))
