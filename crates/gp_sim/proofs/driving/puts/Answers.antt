use Rattle.std.proofs.Common.{◌≡◌, ◌+◌, ◌++◌, ℕ, List, [], ◌∷◌, ap, ◌∙◌, arith}
use Rattle.gp_command.specs.declared.draft.Draft.{Draft}
use Rattle.std.specs.Prelude.{codes}
use Rattle.gp_store.specs.declared.op.Op.TheVariants.{Put}
use Rattle.gp_store.specs.Operations.{draft_for}
use Rattle.gp_sim.specs.Driven.{puts}
use Rattle.gp_sim.proofs.Puts.{puts_more}
use Rattle.gp_sim.proofs.driving.puts.Goals as goal

pub loop-before-preserved : goal.loop-before-preserved
loop-before-preserved c =
    c.in_ok-push.ensures.items
    ∙ ap (λ (drafts : List Draft). drafts ++ c.in_ok-draft_of.field-0 ∷ []) c.loop-before.invariant
    ∙ puts_more c.loop-before.before c.in_ok-draft_of.field-0
    (c.in_ok-draft_of.ensures ∙ ap (λ (k : List ℕ). draft_for (Put k (c.from.result + 1))) c.key.ensures ∙ ap (λ (v : ℕ). draft_for (Put (codes "k") (v + 1))) c.from.ensures)

pub returns : goal.returns
returns c = c.loop-before.invariant ∙ ap puts (let all : c.loop-before.before ≡ c.args.commands = omega arith in all)
