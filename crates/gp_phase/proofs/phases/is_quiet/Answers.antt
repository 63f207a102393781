use Rattle.std.proofs.Common.{rules}
use Rattle.gp_phase.proofs.phases.is_quiet.Goals as goal

pub returns-then-before-after : goal.returns-then-before-after
returns-then-before-after g c = search rules
