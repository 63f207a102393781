use Rattle.std.proofs.Common.{◌≡◌, true, false, take, length, sym, ap, ◌∙◌, arith}
use Rattle.std.specs.List.{find}
use Rattle.std.proofs.Math.Seq.{take-length}
use Rattle.gp_command.specs.Views.{DraftView}
use Rattle.gp_history.specs.Sequence.{history_of}
use Rattle.gp_epoch.proofs.Checkpoints.{is_checkpoint}
use Rattle.gp_epoch.proofs.Walking.{cut_of_sequence, uncut_sequence, none_next, kept_next}
use Rattle.gp_epoch.proofs.cutting.cut.Goals as goal

pub returns-then-is_checkpoint : goal.returns-then-is_checkpoint
returns-then-is_checkpoint g c =
    let xs = g.H.Hist.sequence c.args.h.now in
    let mark : c.at-c.result.now.draft.checkpoint ≡ true = sym (c.is_checkpoint.ensures.value ∙ ap (λ (d : DraftView). d.checkpoint) c.draft.ensures) ∙ c.if-is_checkpoint.true in
    kept_next (g.H.Hist.sequence c.loop-place.kept) (g.H.Hist.sequence c.push.new.self) xs c.loop-place.place c.in_ok-copy.field-0 c.at-c.result.now c.loop-place.invariant.1 c.in_ok-push.ensures.pushed c.in_ok-copy.ensures c.at-c.ensures
    ∙ cut_of_sequence xs c.loop-place.place c.at-c.result.now c.loop-place.invariant.0 c.at-c.ensures mark

pub loop-place-preserved : goal.loop-place-preserved
loop-place-preserved g c =
    let xs = g.H.Hist.sequence c.args.h.now in
    let mark : c.at-c.result.now.draft.checkpoint ≡ false = sym (c.is_checkpoint.ensures.value ∙ ap (λ (d : DraftView). d.checkpoint) c.draft.ensures) ∙ c.if-is_checkpoint.false in (
      none_next xs c.loop-place.place c.at-c.result.now c.loop-place.invariant.0 c.at-c.ensures mark,
      kept_next (g.H.Hist.sequence c.loop-place.kept) (g.H.Hist.sequence c.push.new.self) xs c.loop-place.place c.in_ok-copy.field-0 c.at-c.result.now c.loop-place.invariant.1 c.in_ok-push.ensures.pushed c.in_ok-copy.ensures c.at-c.ensures,
    )

pub returns : goal.returns
returns g c =
    let xs = g.H.Hist.sequence c.args.h.now in
    let end : c.loop-place.place ≡ length xs = omega (arith, c.len-place-end.ensures.items, c.loop-place.auto.place-end, c.loop-place-test.false) in
    let whole : take c.loop-place.place xs ≡ xs = ap (λ n. take n xs) end ∙ take-length xs in
    c.loop-place.invariant.1 ∙ ap history_of whole ∙ uncut_sequence xs (sym (ap (find is_checkpoint) whole) ∙ c.loop-place.invariant.0)
