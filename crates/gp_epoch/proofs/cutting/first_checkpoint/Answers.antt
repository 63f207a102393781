use Rattle.std.proofs.Common.{rules, ◌≡◌, ◌+◌, true, false, take, length, sym, ap, ◌∙◌, arith}
use Rattle.std.specs.List.{find}
use Rattle.std.proofs.Math.Seq.{take-length}
use Rattle.gp_command.specs.Views.{DraftView}
use Rattle.gp_epoch.proofs.Checkpoints.{is_checkpoint}
use Rattle.gp_epoch.proofs.Walking.{first_of_sequence, found_next, found_whole, none_next}
use Rattle.gp_epoch.proofs.cutting.first_checkpoint.Goals as goal

pub loop-i-init : goal.loop-i-init
loop-i-init g c = search rules

pub returns-then-is_checkpoint : goal.returns-then-is_checkpoint
returns-then-is_checkpoint g c =
    let xs = g.H.Hist.sequence c.args.h.now in
    let mark : c.at-c.result.now.draft.checkpoint ≡ true = sym (c.is_checkpoint.ensures.value ∙ ap (λ (d : DraftView). d.checkpoint) c.draft.ensures) ∙ c.if-is_checkpoint.true in
    sym (found_whole xs (c.loop-i.i + 1) c.at-c.result.now (found_next xs c.loop-i.i c.at-c.result.now c.loop-i.invariant c.at-c.ensures mark))

pub loop-i-preserved : goal.loop-i-preserved
loop-i-preserved g c =
    let xs = g.H.Hist.sequence c.args.h.now in
    let mark : c.at-c.result.now.draft.checkpoint ≡ false = sym (c.is_checkpoint.ensures.value ∙ ap (λ (d : DraftView). d.checkpoint) c.draft.ensures) ∙ c.if-is_checkpoint.false in
    none_next xs c.loop-i.i c.at-c.result.now c.loop-i.invariant c.at-c.ensures mark

pub returns : goal.returns
returns g c =
    let xs = g.H.Hist.sequence c.args.h.now in
    let end : c.loop-i.i ≡ length xs = omega (arith, c.len-i-end.ensures.items, c.loop-i.auto.i-end, c.loop-i-test.false) in
    sym (first_of_sequence xs ∙ sym (ap (find is_checkpoint) (ap (λ n. take n xs) end ∙ take-length xs)) ∙ c.loop-i.invariant)
