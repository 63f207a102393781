use Rattle.std.proofs.Common.{rules}
use Rattle.gp_bank.proofs.summing.taken.Goals as goal

pub returns-in-Some-Withdraw-Yes : goal.returns-in-Some-Withdraw-Yes
returns-in-Some-Withdraw-Yes c = search rules
