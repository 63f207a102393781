use Rattle.std.proofs.Common.{◌<◌, ℕ}
use Rattle.gp_replica.specs.Identities.{HasIdAt}
use Rattle.gp_replica.proofs.identities.is_taken.Given as goal

abbrev pub invariant-loop-i : goal.invariant-loop-i
invariant-loop-i l = (i : ℕ) → i < l.i → ¬ HasIdAt l.learned i l.id
