use Rattle.std.proofs.Common.{arith}
use Rattle.gp_history.proofs.Searches.{stands_found, nowhere}
use Rattle.gp_history.proofs.sequence.place_of.Goals as goal

pub returns : goal.returns
returns c = nowhere c.args.commands.now c.args.c.now (λ i lt. c.loop-distance.invariant i (omega arith) (omega arith))

pub returns-in-Some : goal.returns-in-Some
returns-in-Some c = stands_found c.args.commands.now c.in-Some.place c.args.c.now c.requires c.in-Some.ensures.found
