use Rattle.std.proofs.Common.{sym, ◌∙◌}
use Rattle.gp_command.proofs.Codes.{equal_codes}
use Rattle.gp_command.proofs.draft.DraftPartialEq.eq.Goals as goal

pub returns : goal.returns
returns c =
    equal_codes c.args.self.now c.args.other.now c.is_same.result (
      (λ yes. sym c.code.ensures ∙ c.is_same.ensures.0 yes ∙ c.code-2.ensures),
      (λ same. c.is_same.ensures.1 (c.code.ensures ∙ same ∙ sym c.code-2.ensures)),
    )
