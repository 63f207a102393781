use Rattle.std.proofs.Common.{◌^◌, ◌<◌, length}
use Rattle.gp_bank.proofs.TotalLemmas.{Sums}
use Rattle.gp_bank.proofs.summing.sum_of.Given as goal

abbrev pub invariant-loop-account : goal.invariant-loop-account
invariant-loop-account l = (length l.accounts.entries < 2 ^ 63) × Sums l.accounts.entries l.account-iterator l.sum
