use Rattle.std.proofs.Common.{sym, subst, arith}
use Rattle.std.specs.Option.{option_map, option_copied}
use Rattle.gp_history.specs.Sequence.{history_of}
use Rattle.gp_safe.specs.Covered.{HasAllValues}
use Rattle.gp_safe.proofs.Covering.{covered_step}
use Rattle.gp_safe.proofs.meets.has_all_values.Goals as goal

pub loop-i-preserved : goal.loop-i-preserved
loop-i-preserved g c = covered_step (history_of c.in-Some.joined.now) (g.V.Values.value c.args.values.now) c.loop-i.i c.loop-i.invariant (c.has_value_of.ensures c.if-not-has_value_of.false)

pub returns : goal.returns
returns g c = record {
  all = λ _. subst (λ o. HasAllValues (option_map history_of (option_copied o)) (g.V.Values.value c.args.values.now) (g.V.Values.within c.args.values.now) c.args.n) (sym c.in-Some.is) (λ i l. c.loop-i.invariant i (omega (arith, l, c.loop-i-test.false)));
}
