use Rattle.std.proofs.Common.{List, refl, sym, ap, subst, ◌∙◌}
use Rattle.std.specs.List.{Contains}
use Rattle.gp_history.specs.History.{History, has}
use Rattle.gp_history.proofs.Joins.{empty_none}
use Rattle.gp_safe.proofs.Meetings.{none_in}
use Rattle.gp_audit.specs.declared.proof.Proof.{Proof}
use Rattle.gp_audit.proofs.replay.Replay.new.Goals as goal

pub returns : goal.returns
returns c = record {
  number = refl;
  learner = c.in_ok-new.ensures;
  step = record {
    config = sym (ap (λ s. s.state.config) c.in_ok-new.ensures);
    epoch = sym (ap (λ s. s.epoch) c.in_ok-new.ensures);
    votes = c.new-2.ensures.empty ∙ sym (ap (λ s. s.state.votes) c.in_ok-new.ensures);
  };
  sound = λ p m. none_in p (subst (λ (ps : List Proof). Contains ps p) c.new-3.ensures.items m);
  complete = λ d h. absurd (let e = sym (empty_none d) ∙ sym (ap (λ (u : History). has u d) (ap (λ s. s.learned) c.in_ok-new.ensures)) ∙ h in cc);
}
