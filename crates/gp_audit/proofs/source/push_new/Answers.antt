use Rattle.std.proofs.Common.{sym, ap, ◌∙◌}
use Rattle.gp_history.specs.Sequence.{history_of}
use Rattle.gp_audit.specs.Noting.{new_proof}
use Rattle.gp_audit.specs.Sources.{source_cause}
use Rattle.gp_audit.proofs.NewProofs.{proof_pushed, proof_passed, first_proofs, on_err}
use Rattle.gp_audit.proofs.source.push_new.Goals as goal
use Rattle.gp_audit.proofs.source.push_new.Goals.{in-Some+in_ok-push, in_default}

pub loop-i-preserved : goal.loop-i-preserved
loop-i-preserved c =
    let h = new_proof (history_of c.args.known.now) c.args.at (source_cause c.args.source.now) in
    elim c.match-new_proof.branch [
      | in-Some+in_ok-push w ↦
          ap (λ v. v.items) w.proofs-is
          ∙ proof_pushed h c.args.learned.now c.loop-i.i c.at-c.result.now c.args.proofs.now.items c.loop-i.proofs.items _ w.in-Some.proof c.at-c.ensures c.loop-i.invariant
          (sym w.in-Some.is ∙ c.new_proof.ensures) w.in_ok-push.ensures.items
      | in_default w ↦
          ap (λ v. v.items) w.proofs-is
          ∙ proof_passed h c.args.learned.now c.loop-i.i c.at-c.result.now c.args.proofs.now.items c.loop-i.proofs.items c.at-c.ensures c.loop-i.invariant
          (sym w.in_default.is ∙ c.new_proof.ensures)
    ]

pub returns-in_err-push-clause-begun : goal.returns-in_err-push-clause-begun
returns-in_err-push-clause-begun c =
    on_err c.from_residual.result
    (first_proofs (new_proof (history_of c.args.known.now) c.args.at (source_cause c.args.source.now)) c.args.learned.now c.loop-i.i c.args.proofs.now.items c.loop-i.proofs.items c.push.new.self.items c.loop-i.invariant c.in_err-push.ensures.items)
