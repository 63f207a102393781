use Rattle.std.proofs.Common.{◌≡◌, ◌++◌, List, ℕ}
use Rattle.std.specs.Prelude.{codes}
use Rattle.gp_world.specs.State.{entries_of}
use Rattle.gp_verdict.specs.Certified.{AreFirstLines}
use Rattle.gp_verdict.proofs.certificates.certificates.Given as goal

abbrev pub invariant-loop-learner : goal.invariant-loop-learner
invariant-loop-learner l = (lines : List ℕ) × AreFirstLines l.world.config (entries_of l.world) l.learner lines × (l.text.items ≡ codes "legal\n" ++ lines)
