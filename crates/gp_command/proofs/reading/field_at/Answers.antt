use Rattle.std.proofs.Common.{arith}
use Rattle.std.proofs.lemmas.Grind.{common_steps}
use Rattle.gp_command.proofs.reading.field_at.Goals as goal

pub returns-then-rest-size-clause-value : goal.returns-then-rest-size-clause-value
returns-then-rest-size-clause-value c = grind (arith, common_steps)
