use Rattle.std.proofs.Common.{rules}
use Rattle.gp_audit.proofs.source.new_proof.Goals as goal

pub returns : goal.returns
returns c = search rules
