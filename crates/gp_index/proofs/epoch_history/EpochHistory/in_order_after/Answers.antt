use Rattle.std.proofs.Common.{◌≡◌, refl, length, ap, subst, sym, ◌∙◌, arith}
use Rattle.std.specs.Prelude.{slice_get}
use Rattle.std.proofs.lemmas.Option.{slice_get_read}
use Rattle.gp_history.specs.History.{IsPrefix}
use Rattle.gp_history.specs.Sequence.{history_of, no_repeat}
use Rattle.gp_history.specs.Canonical.{next_least}
use Rattle.gp_history.proofs.Counts.{same_if_prefix}
use Rattle.gp_index.specs.Ordering.{marks_in}
use Rattle.gp_index.proofs.Continuing.{goes_on_from, taken_more, all_taken}
use Rattle.gp_index.proofs.epoch_history.EpochHistory.in_order_after.Goals as goal

pub returns-then-len-commands-clause-same : goal.returns-then-len-commands-clause-same
returns-then-len-commands-clause-same c =
    let xs = c.args.self.now in
    let ordered = c.in_ok-ordered.ordered in
    let is = c.in_ok-ordered.ensures in
    let as_long = sym c.len.ensures.items ∙ c.if-len-commands.true ∙ ap length c.as_slice-commands.ensures.value in
    (same_if_prefix ordered xs c.len.ensures.distinct c.as_slice-commands.ensures.distinct).0 (as_long, subst (λ zs. IsPrefix (history_of zs) (history_of xs)) (sym is) c.requires)

pub loop-place-init : goal.loop-place-init
loop-place-init c =
    let is = c.in_ok-ordered.ensures in
    goes_on_from c.args.self.now c.args.taken.now c.in_ok-ordered.ordered c.in_ok-marks.marks.items c.requires (ap no_repeat (sym is) ∙ c.len.ensures.distinct) is c.in_ok-marks.ensures

pub loop-place-smaller : goal.loop-place-smaller
loop-place-smaller c =
    let xs = c.args.self.now in
    let ys = c.as_slice-commands.result.now in
    let v = c.as_slice-commands.ensures.value in
    let ordered = c.loop-place.ordered in
    let place = c.in-Some.place in
    let d = c.index-commands-place.result in
    let next = subst (λ zs. next_least (history_of zs) (history_of ordered) ≡ slice_get zs place) v (c.in-Some.ensures.next ordered (c.deref.ensures.value ∙ c.loop-place.invariant.marks ∙ ap (λ zs. marks_in zs ordered) (sym v))) in
    let at = ap (λ zs. slice_get zs place) (sym v) ∙ slice_get_read ys _ place d refl c.in-Some.ensures.within c.index-commands-place.is in
    let more = taken_more xs c.args.taken.now ordered c.push.new.self c.loop-place.marks.items place d c.in_ok-copy.field-0 c.as_slice-commands.ensures.distinct c.loop-place.invariant next at c.in_ok-copy.ensures c.in_ok-push.ensures.pushed in
    let long = more.1 in
    let most = more.2 in
    omega (arith, long, most)

pub loop-place-preserved : goal.loop-place-preserved
loop-place-preserved c =
    let xs = c.args.self.now in
    let ys = c.as_slice-commands.result.now in
    let v = c.as_slice-commands.ensures.value in
    let ordered = c.loop-place.ordered in
    let place = c.in-Some.place in
    let d = c.index-commands-place.result in
    let next = subst (λ zs. next_least (history_of zs) (history_of ordered) ≡ slice_get zs place) v (c.in-Some.ensures.next ordered (c.deref.ensures.value ∙ c.loop-place.invariant.marks ∙ ap (λ zs. marks_in zs ordered) (sym v))) in
    let at = ap (λ zs. slice_get zs place) (sym v) ∙ slice_get_read ys _ place d refl c.in-Some.ensures.within c.index-commands-place.is in
    let more = taken_more xs c.args.taken.now ordered c.push.new.self c.loop-place.marks.items place d c.in_ok-copy.field-0 c.as_slice-commands.ensures.distinct c.loop-place.invariant next at c.in_ok-copy.ensures c.in_ok-push.ensures.pushed in
    more.0

pub returns-clause-same : goal.returns-clause-same
returns-clause-same c =
    let xs = c.args.self.now in
    let v = c.as_slice-commands.ensures.value in
    let ordered = c.loop-place.ordered in
    all_taken xs c.args.taken.now ordered c.loop-place.marks.items c.loop-place.invariant
    (ap (λ zs. next_least (history_of zs) (history_of ordered)) (sym v) ∙ c.in_default.ensures.none ordered (c.deref.ensures.value ∙ c.loop-place.invariant.marks ∙ ap (λ zs. marks_in zs ordered) (sym v)))
