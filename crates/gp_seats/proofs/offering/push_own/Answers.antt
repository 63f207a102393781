use Rattle.std.proofs.Common.{rules}
use Rattle.gp_seats.proofs.offering.push_own.Goals as goal

pub returns-then-is_proposer : goal.returns-then-is_proposer
returns-then-is_proposer c = search rules
