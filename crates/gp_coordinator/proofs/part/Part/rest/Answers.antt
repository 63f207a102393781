use Rattle.std.proofs.Common.{rules, ◌≡◌, Bool, List, Some, true, false, not, slice_get, sym, ap, subst, ◌∙◌}
use Rattle.gp_command.specs.declared.command.Command.{Command}
use Rattle.gp_history.specs.History.{has}
use Rattle.gp_history.specs.Sequence.{history_of, no_repeat}
use Rattle.gp_coordinator.proofs.Rest.{kept_next, left_next}
use Rattle.gp_coordinator.proofs.part.Part.rest.Goals.{then-not-has+in_ok-copy+in_ok-push, else-not-has}
use Rattle.gp_coordinator.proofs.part.Part.rest.Goals as goal

pub loop-i-preserved : goal.loop-i-preserved
loop-i-preserved c =
    let p : Command → Bool = λ d. not (has (history_of c.args.value.now) d) in
    let known = ap (λ t. t.pending) c.self.view_is in
    let at = subst (λ (xs : List Command). slice_get xs c.loop-i.i ≡ Some c.at-c.result.now) known c.at-c.ensures in
    let distinct : no_repeat c.args.self.now.pending ≡ true = sym (ap no_repeat known) ∙ c.len-i-end.ensures.distinct in
    elim c.if-not-has.branch [
      | then-not-has+in_ok-copy+in_ok-push w ↦
          let out : p c.at-c.result.now ≡ true = search rules in
          kept_next p c.args.self.now.pending c.loop-i.rest c.if-not-has.rest c.loop-i.i w.in_ok-copy.field-0 c.at-c.result.now distinct c.loop-i.invariant at w.in_ok-copy.ensures out (w.rest-is ∙ w.in_ok-push.ensures.pushed)
      | else-not-has w ↦
          let in_value : p c.at-c.result.now ≡ false = search rules in
          w.rest-is ∙ left_next p c.args.self.now.pending c.loop-i.rest c.loop-i.i c.at-c.result.now c.loop-i.invariant at in_value
    ]
