use Rattle.std.proofs.Common.{rules}
use Rattle.gp_edge.proofs.file_disk.counted.Goals as goal

pub returns-in-Err-clause-count : goal.returns-in-Err-clause-count
returns-in-Err-clause-count g c = search rules
