use Rattle.std.proofs.Common.{rules}
use Rattle.gp_bank.proofs.TotalLemmas.{sums_first, sums_next, sums_few, sums_last}
use Rattle.gp_bank.proofs.summing.sum_of.Goals as goal

pub loop-account-init : goal.loop-account-init
loop-account-init c = (c.iter-account-items.ensures.fits, sums_first _ _ (search rules))

pub plus-sum-requires : goal.plus-sum-requires
plus-sum-requires c = sums_few c.args.accounts.now.entries c.loop-account.account-iterator c.loop-account.sum c.loop-account.invariant.0 c.loop-account.invariant.1

pub loop-account-preserved : goal.loop-account-preserved
loop-account-preserved c = (
  c.loop-account.invariant.0,
  sums_next c.args.accounts.now.entries c.loop-account.account-iterator c.next.new.self c.loop-account.sum c.plus-sum.result _ c.loop-account.invariant.1 c.in-Some.ensures.steps c.plus-sum.ensures.sum c.plus-sum.ensures.step,
)

pub returns : goal.returns
returns c = sums_last c.args.accounts.now.entries c.loop-account.account-iterator c.loop-account.sum c.loop-account.invariant.1 c.in-None.ensures.steps.0
