use Rattle.std.proofs.Common.{rules}
use Rattle.gp_edge.proofs.medium.Medium.sync.Goals as goal

pub returns-clause-synced : goal.returns-clause-synced
returns-clause-synced c = search rules
