use Rattle.std.proofs.Common.{◌<◌, ◌≤◌, ◌+◌, List, length, get_or, ap, ◌∙◌, arith}
use Rattle.gp_onlookers.specs.declared.looks.Look.{Look}
use Rattle.gp_onlookers.proofs.Cutting.{cut_next, kept_next}
use Rattle.gp_onlookers.proofs.watcher.cut.Goals as goal
use Rattle.gp_onlookers.proofs.watcher.cut.Goals.{then-index-end, else-index-end}

pub loop-place-preserved : goal.loop-place-preserved
loop-place-preserved c =
    let end : Look = c.args.end in
    let old : List Look = c.args.looks.now.items in
    let now : List Look = c.loop-place.looks.items in
    let place = c.loop-place.place in
    let found : Look = c.index.result.now in
    let within : place < length old = omega arith in
    let within_end : place + 1 ≤ c.len-place-end.result = omega arith in
    let seen = ap (λ (look : Look). look.seen) c.index.ensures in
    elim c.if-index-end.branch [
      | then-index-end w ↦ let less : end.seen < (get_or now place found).seen = omega (arith, w.if-index-end.true, seen) in
          (ap (λ v. v.items) w.looks-is ∙ cut_next end old now place found c.loop-place.invariant.0 within less, within_end)
      | else-index-end w ↦ let less : (get_or now place found).seen ≤ end.seen = omega (arith, w.if-index-end.false, seen) in
          (ap (λ v. v.items) w.looks-is ∙ kept_next end old now place found c.loop-place.invariant.0 within less, within_end)
    ]
