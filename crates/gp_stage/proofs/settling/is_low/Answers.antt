use Rattle.std.proofs.Common.{rules}
use Rattle.gp_stage.proofs.settling.is_low.Goals as goal

pub returns-then-messages-le-MOST_ROUNDS : goal.returns-then-messages-le-MOST_ROUNDS
returns-then-messages-le-MOST_ROUNDS c = search rules
