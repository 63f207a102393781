use Rattle.std.proofs.Common.{◌≡◌, ◌++◌, ◌+◌, List, ℕ, suc, [], ap, subst, ◌∙◌, append_assoc, arith, rules}
use Rattle.std.specs.Prelude.{codes}
use Rattle.gp_world.specs.State.{entries_of}
use Rattle.gp_verdict.specs.Certified.{AreFirstLines, NoLearner, OneMore}
use Rattle.gp_verdict.proofs.certificates.certificates.Goals as goal

pub loop-learner-init : goal.loop-learner-init
loop-learner-init c = ([], NoLearner, c.in_ok-extend_from_slice.ensures.items ∙ ap (λ (t : List ℕ). t ++ codes "legal\n") c.new-text.ensures.items)

pub loop-learner-preserved : goal.loop-learner-preserved
loop-learner-preserved c =
    let before = c.loop-learner.invariant in
    let config = c.args.world.now.config in
    let run = entries_of c.args.world.now in
    let one : suc c.loop-learner.learner ≡ c.loop-learner.learner + 1 = omega arith in
    let text : List ℕ = before.0 ++ c.in_ok-lines.lines.items in (
      text,
      subst (λ n. AreFirstLines config run n text) one (OneMore c.loop-learner.learner before.0 c.in_ok-lines.lines.items before.1 c.in_ok-lines.ensures),
      c.in_ok-extend_from_slice-2.ensures.items ∙ ap (λ (t : List ℕ). c.loop-learner.text.items ++ t) c.deref.ensures.value
          ∙ ap (λ (t : List ℕ). t ++ c.in_ok-lines.lines.items) before.2 ∙ append_assoc (codes "legal\n") before.0 c.in_ok-lines.lines.items,
    )

pub learner_lines-requires : goal.learner_lines-requires
learner_lines-requires c = search rules
