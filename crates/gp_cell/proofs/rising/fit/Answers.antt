use Rattle.std.proofs.Common.{refl, inl}
use Rattle.gp_cell.proofs.rising.fit.Goals as goal

pub returns-then-branch-clause-keeps : goal.returns-then-branch-clause-keeps
returns-then-branch-clause-keeps c = inl (refl, c.in_ok-has_part.ensures.0 c.if-branch.true)
