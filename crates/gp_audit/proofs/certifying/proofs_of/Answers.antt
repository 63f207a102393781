use Rattle.std.proofs.Common.{[], sym, ap, ◌∙◌}
use Rattle.gp_command.specs.declared.command.Command.{Command}
use Rattle.gp_command.specs.declared.command.CommandId.{CommandId}
use Rattle.gp_audit.specs.Sources.{proof_under}
use Rattle.gp_audit.proofs.NewProofs.{proof_pushed, proof_passed}
use Rattle.gp_audit.proofs.certifying.proofs_of.Goals as goal
use Rattle.gp_audit.proofs.certifying.proofs_of.Goals.{in-Some+in_ok-push, in_default}

pub loop-i-preserved : goal.loop-i-preserved
loop-i-preserved c =
    let ps = c.args.proofs.now in
    let under = c.proof_under.ensures ∙ ap (λ (id : CommandId). proof_under id ps) c.id-id.ensures in
    elim c.match-proof_under.branch [
      | in-Some+in_ok-push w ↦
          ap (λ v. v.items) w.found-is
          ∙ proof_pushed (λ (d : Command). proof_under d.id ps) c.args.commands.now c.loop-i.i c.at.result.now [] c.loop-i.found.items _ w.in-Some.proof c.at.ensures c.loop-i.invariant
          (sym w.in-Some.is ∙ under) w.in_ok-push.ensures.items
      | in_default w ↦
          ap (λ v. v.items) w.found-is
          ∙ proof_passed (λ (d : Command). proof_under d.id ps) c.args.commands.now c.loop-i.i c.at.result.now [] c.loop-i.found.items c.at.ensures c.loop-i.invariant
          (sym w.in_default.is ∙ under)
    ]
