use Rattle.std.proofs.Common.{◌≡◌, take, map}
use Rattle.gp_msg.specs.Messages.{message_of}
use Rattle.gp_run.specs.TopCount.{top_of_messages}
use Rattle.gp_world.proofs.log.top_of_messages.Given as goal

abbrev pub invariant-loop-m : goal.invariant-loop-m
invariant-loop-m l = l.top ≡ top_of_messages (map message_of (take l.m-index l.out))
