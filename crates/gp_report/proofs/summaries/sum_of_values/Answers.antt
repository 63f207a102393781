use Rattle.std.proofs.Common.{◌^◌, refl, rules, arith}
use Rattle.std.proofs.Math.Nat.{mod-lt}
use Rattle.gp_report.specs.Summaries.{sum_of_values}
use Rattle.gp_report.proofs.Sums.{wraps_next, wraps_ended}
use Rattle.gp_report.proofs.summaries.sum_of_values.Goals as goal

pub loop-value-init : goal.loop-value-init
loop-value-init c = (omega arith, search rules)

pub loop-value-preserved : goal.loop-value-preserved
loop-value-preserved c = (
  mod-lt _ (omega arith),
  wraps_next (2 ^ 64) c.loop-value.sum _ c.in-Some.value.now (sum_of_values c.args.pairs.now.entries) c.loop-value.value-iterator c.next.new.self c.in-Some.field-0-0.now c.in-Some.ensures.steps refl c.loop-value.invariant.1,
)

pub returns : goal.returns
returns c = wraps_ended (2 ^ 64) c.loop-value.sum (sum_of_values c.args.pairs.now.entries) c.loop-value.value-iterator c.in-None.ensures.steps.0 c.loop-value.invariant.0 c.loop-value.invariant.1
