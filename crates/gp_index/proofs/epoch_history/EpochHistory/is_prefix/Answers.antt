use Rattle.std.proofs.Common.{◌≡◌, ℕ, ◌<◌, true, sym, subst, ◌∙◌, arith}
use Rattle.std.proofs.lemmas.Bool.{true≢false}
use Rattle.gp_history.specs.History.{IsPrefix}
use Rattle.gp_history.specs.Sequence.{history_of}
use Rattle.gp_index.specs.Epochs.{checkpoints, epoch, behind_epochs, IsCutPrefix}
use Rattle.gp_index.proofs.Cut.{cut_law}
use Rattle.gp_index.proofs.epoch_history.EpochHistory.is_prefix.Goals as goal
use Rattle.gp_index.proofs.epoch_history.EpochHistory.is_prefix.Goals.{then-ended-via-then-ended, then-ended-via-else-ended+then-not-has_epochs}

pub returns-then-ended : goal.returns-then-ended
returns-then-ended c =
    let xs = c.args.self.now in
    let ys = c.args.of.now in
    let count : c.ended-ended.result ≡ checkpoints xs = c.ended-ended.ensures.value in (
      λ t. absurd (true≢false (sym t)),
      λ q.
          let a : IsCutPrefix xs ys = (cut_law xs ys c.ended-ended.ensures.distinct c.ended.ensures.distinct).0 q in
          elim c.then-ended.branch [
            | then-ended-via-then-ended w ↦ absurd (omega (arith, a.enough, count, c.ended.ensures.value, w.if-ended.true))
            | then-ended-via-else-ended+then-not-has_epochs w ↦
                let all : (i : ℕ) → i < c.ended-ended.result → history_of (epoch xs i) ≡ history_of (epoch ys i) = λ i h. a.epochs i (omega (arith, h, count)) in
                let yes : w.has_epochs.result ≡ true = w.has_epochs.ensures.1 all in absurd (true≢false (sym yes ∙ w.if-not-has_epochs.true))
          ],
    )

pub returns : goal.returns
returns c =
    let xs = c.args.self.now in
    let ys = c.args.of.now in
    let law = cut_law xs ys c.ended-ended.ensures.distinct c.ended.ensures.distinct in
    let count : c.ended-ended.result ≡ checkpoints xs = c.ended-ended.ensures.value in (
      (λ t. law.1 record {
        enough = omega (arith, count, c.ended.ensures.value, c.if-ended.false);
        epochs = λ i h. c.has_epochs.ensures.0 c.if-not-has_epochs.false i (omega (arith, h, count));
        rest = subst (λ n. IsPrefix (history_of (behind_epochs xs n)) (history_of (behind_epochs ys n))) count (c.has_rest.ensures.0 t);
      }),
      (λ q. let a : IsCutPrefix xs ys = law.0 q in c.has_rest.ensures.1 (subst (λ n. IsPrefix (history_of (behind_epochs xs n)) (history_of (behind_epochs ys n))) (sym count) a.rest)),
    )
