use Rattle.std.proofs.Common.{rules}
use Rattle.gp_edge.proofs.outside.WriteSinkSink.write.Goals as goal

pub returns-in-Ok-clause-bytes : goal.returns-in-Ok-clause-bytes
returns-in-Ok-clause-bytes g c = search rules
