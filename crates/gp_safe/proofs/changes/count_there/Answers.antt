use Rattle.std.proofs.Common.{◌||◌, ℕ, Bool, true, false, not, sym, ◌∙◌, arith}
use Rattle.std.specs.Option.{is_some}
use Rattle.gp_safe.proofs.Changing.{histories_step, members_step}
use Rattle.gp_safe.proofs.changes.count_there.Goals as goal
use Rattle.gp_safe.proofs.changes.count_there.Goals.{then-is_there, else-is_there}

pub loop-i-preserved : goal.loop-i-preserved
loop-i-preserved g c =
    let f = g.V.Values.value c.args.values.now in
    let p : ℕ → Bool = λ i. is_some (f i) || not (g.V.Values.within c.args.values.now i) in
    record {
      count = elim c.if-is_there.branch [
        | then-is_there w ↦ members_step p c.loop-i.i c.loop-i.count c.if-is_there.count true c.loop-i.invariant.count (sym c.is_there.ensures.there ∙ w.if-is_there.true) w.count-is
        | else-is_there w ↦ members_step p c.loop-i.i c.loop-i.count c.if-is_there.count false c.loop-i.invariant.count (sym c.is_there.ensures.there ∙ w.if-is_there.false) w.count-is
      ];
      few = elim c.if-is_there.branch [
        | then-is_there w ↦ omega (arith, w.count-is, c.loop-i.invariant.few)
        | else-is_there w ↦ omega (arith, w.count-is, c.loop-i.invariant.few)
      ];
      histories = histories_step f c.loop-i.i c.loop-i.invariant.histories c.is_there.ensures.history;
    }
