use Rattle.std.proofs.Common.{◌≡◌, take}
use Rattle.gp_verdict.specs.Certified.{proof_lines}
use Rattle.gp_verdict.proofs.certificates.learner_lines.Given as goal

abbrev pub invariant-loop-proof : goal.invariant-loop-proof
invariant-loop-proof l = l.lines.items ≡ proof_lines l.learner (take l.proof-index l.proof-items)
