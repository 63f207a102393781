use Rattle.std.proofs.Common.{arith}
use Rattle.std.proofs.lemmas.Bool.{false≢true}
use Rattle.gp_replica.proofs.identities.is_taken.Goals as goal

pub returns : goal.returns
returns c = (λ no. absurd (false≢true no), λ taken. let lt = taken.1 in absurd (c.loop-i.invariant taken.0 (omega (arith, lt)) taken.2))
