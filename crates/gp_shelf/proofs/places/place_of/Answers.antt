use Rattle.std.proofs.Common.{rules}
use Rattle.gp_shelf.proofs.places.place_of.Goals as goal

pub returns-else-node-acceptors : goal.returns-else-node-acceptors
returns-else-node-acceptors c = search rules
