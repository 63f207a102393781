use Rattle.std.proofs.Common.{rules}
use Rattle.gp_bank.proofs.touches.Touches.of.Goals as goal

pub returns-in-Deposit : goal.returns-in-Deposit
returns-in-Deposit c = search rules
