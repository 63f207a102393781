use Rattle.std.proofs.Common.{rules, Some, refl, ap, sym, ◌∙◌, arith}
use Rattle.gp_views.proofs.Runs.{run_next}
use Rattle.gp_views.proofs.feed.run_from.Goals as goal

pub loop-place-preserved : goal.loop-place-preserved
loop-place-preserved c = (
  c.put.ensures.desk ∙ c.loop-place.invariant.0,
  search rules,
  run_next c.args.ran.now c.loop-place.place c.in_ok-copy.field-0 _ _ _ (c.at.ensures ∙ ap Some (sym c.in_ok-copy.ensures)) c.in_ok-put.ensures.appended c.loop-place.invariant.2,
)

pub loop-place-init : goal.loop-place-init
loop-place-init c = (refl, omega arith, refl)
