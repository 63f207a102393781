use Rattle.std.proofs.Common.{◌≡◌, true, false, get_or, refl, sym, ap, ◌∙◌, arith}
use Rattle.std.proofs.lemmas.Option.{slice_get_read, slice_get-get_or}
use Rattle.gp_history.specs.History.{has}
use Rattle.gp_history.specs.Sequence.{history_of}
use Rattle.gp_history.specs.Canonical.{is_ready}
use Rattle.gp_history.specs.Walks.{behind}
use Rattle.gp_history.proofs.Places.{place_at_is, behind_apart, behind_lost, behind_rest, all_step, all_stop}
use Rattle.gp_index.proofs.Marks.{mark_at, walk_start, behind_kept, ready_if}
use Rattle.gp_index.proofs.ordering.is_ready.Goals as goal
use Rattle.gp_index.proofs.ordering.is_ready.Goals.{else-not-marks-p-via-then-not-marks-p+else-conflicts, else-not-marks-p-via-else-not-marks-p}

pub loop-p-init : goal.loop-p-init
loop-p-init c = λ taken e.
    let at = slice_get_read c.args.commands.now _ c.args.place c.index-commands-place.result refl c.requires.within c.index-commands-place.is in
    walk_start c.args.commands.now taken c.args.marks.now c.args.from c.args.place c.index-commands-place.result c.requires.distinct at c.requires.from e

pub loop-p-preserved : goal.loop-p-preserved
loop-p-preserved c = λ taken e.
    let xs = c.args.commands.now in
    let d = c.index-commands-place.result in
    let p = c.loop-p.p in
    let before = behind (history_of xs) (history_of xs) (history_of taken) d in
    elim c.else-not-marks-p.branch [
      | else-not-marks-p-via-then-not-marks-p+else-conflicts w ↦
          let x = w.index-commands-p.result in
          let at = slice_get_read xs _ p x refl (omega (arith, c.loop-p-test.true, c.requires.within)) w.index-commands-p.is in
          all_step before xs p x (c.loop-p.invariant taken e) (behind_apart xs xs (history_of taken) x d (sym w.conflicts.ensures ∙ w.if-conflicts.false)) at
      | else-not-marks-p-via-else-not-marks-p w ↦
          let x = get_or xs p d in
          let at = slice_get-get_or xs p d (omega (arith, c.loop-p-test.true, c.requires.within)) in
          all_step before xs p x (c.loop-p.invariant taken e) (behind_kept xs taken x d (sym (mark_at xs taken c.args.marks.now p x e at) ∙ w.if-not-marks-p.false)) at
    ]

pub returns-then-conflicts : goal.returns-then-conflicts
returns-then-conflicts c = λ taken next e there.
    let xs = c.args.commands.now in
    let d = c.index-commands-place.result in
    let x = c.index-commands-p.result in
    let p = c.loop-p.p in
    let at = slice_get_read xs _ c.args.place d refl c.requires.within c.index-commands-place.is in
    let early = slice_get_read xs _ p x refl (omega (arith, c.loop-p-test.true, c.requires.within)) c.index-commands-p.is in
    let is : d ≡ next = cc in
    let fresh : has (history_of taken) d ≡ false = sym (mark_at xs taken c.args.marks.now c.args.place d e at) ∙ c.if-marks-place.false in
    let missed : has (history_of taken) x ≡ false = sym (mark_at xs taken c.args.marks.now p x e early) ∙ c.if-not-marks-p.true in
    let lost = behind_lost xs xs (history_of taken) x d p c.args.place early (place_at_is xs c.args.place d c.requires.distinct at) c.loop-p-test.true (sym c.conflicts.ensures ∙ c.if-conflicts.true) missed in
    ready_if xs taken d fresh false (all_stop (behind (history_of xs) (history_of xs) (history_of taken) d) xs p x lost early) ∙ ap (is_ready (history_of xs) (history_of taken)) is

pub returns : goal.returns
returns c = λ taken next e there.
    let xs = c.args.commands.now in
    let d = c.index-commands-place.result in
    let at = slice_get_read xs _ c.args.place d refl c.requires.within c.index-commands-place.is in
    let is : d ≡ next = cc in
    let fresh : has (history_of taken) d ≡ false = sym (mark_at xs taken c.args.marks.now c.args.place d e at) ∙ c.if-marks-place.false in
    let all = behind_rest xs xs (history_of taken) d c.loop-p.p c.args.place (c.loop-p.invariant taken e) (place_at_is xs c.args.place d c.requires.distinct at) c.loop-p-test.false in
    ready_if xs taken d fresh true all ∙ ap (is_ready (history_of xs) (history_of taken)) is
