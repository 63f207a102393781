use Rattle.std.proofs.Common.{◌≡◌, ◌+◌, ◌*◌, ◌%◌, ◌++◌, ◌∷◌, [], take, get_or, sym, ap, ◌∙◌, add-one, arith}
use Rattle.std.proofs.Math.Seq.{take-suc}
use Rattle.gp_command.specs.Mark.{mark_from}
use Rattle.gp_command.proofs.Marks.{mark_more}
use Rattle.gp_command.proofs.key.Key.mark.Goals as goal

pub loop-b-preserved : goal.loop-b-preserved
loop-b-preserved c =
    let bs = c.as_bytes-b-items.result.now in
    let i = c.loop-b.b-index in
    let next : take (i + 1) bs ≡ take i bs ++ get_or bs i 0 ∷ [] = ap (λ n. take n bs) (add-one i) ∙ take-suc bs i 0 c.loop-b-test.true in
    let is : c.from.result ≡ get_or bs i 0 = c.from.ensures in (
      (λ k. (c.loop-b.invariant.0 k * 31 + is k) % 1000003) ∙ sym (mark_more 0 (take i bs) (get_or bs i 0)) ∙ ap (mark_from 0) (sym next),
      omega arith,
    )
