use Rattle.std.proofs.Common.{◌≡◌, ◌*◌, ◌≤◌, take}
use Rattle.gp_replica.specs.Machines.{replies_to}
use Rattle.gp_bank.specs.Effects.{bank_rules}
use Rattle.gp_bank.specs.Sums.{deposits, withdrawals}
use Rattle.gp_bank.proofs.summing.totals.Given as goal

abbrev pub invariant-loop-place : goal.invariant-loop-place
invariant-loop-place l =
    (l.deposits ≡ deposits (take l.place l.replica))
    × (l.withdrawals ≡ withdrawals (take l.place (replies_to bank_rules l.replica)))
    × (l.deposits ≤ l.place * 4294967295)
    × (l.withdrawals ≤ l.place * 4294967295)
