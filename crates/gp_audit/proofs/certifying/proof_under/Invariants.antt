use Rattle.std.proofs.Common.{◌≡◌, drop}
use Rattle.gp_audit.specs.Sources.{proof_under}
use Rattle.gp_audit.proofs.certifying.proof_under.Given as goal

abbrev pub invariant-loop-proof : goal.invariant-loop-proof
invariant-loop-proof l = proof_under l.id l.proofs ≡ proof_under l.id (drop l.proof-index l.proofs)
