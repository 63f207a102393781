use Rattle.std.proofs.Common.{List, ap, ◌∙◌, refl}
use Rattle.std.specs.Prelude.{Result, Ok, Err, IfOk}
use Rattle.std.specs.List.{filter_map}
use Rattle.gp_command.specs.declared.command.Command.{Command}
use Rattle.gp_history.specs.Canonical.{canonical}
use Rattle.gp_history.specs.Sequence.{history_of}
use Rattle.gp_world.specs.State.{entries_of}
use Rattle.gp_audit.specs.declared.proof.Proof.{Proof}
use Rattle.gp_audit.specs.Sources.{proof_under}
use Rattle.gp_audit.proofs.Finding.{certified_all}
use Rattle.gp_audit.proofs.certifying.certify.Goals as goal

if_ok : {T E : Type 0} (r : Result T E) (P Q : T → Type 0) → ((x : T) → P x → Q x) → IfOk r P → IfOk r Q
if_ok (Ok x) P Q f h = f x h
if_ok (Err e) P Q f h = tt

pub returns : goal.returns
returns c =
    let r = c.in_ok-replay.replay in
    let commands = canonical (history_of c.learned.result.now) in
    if_ok c.proofs_in_order.result _ _
    (λ found is. certified_all c.args.world.now.config (entries_of c.args.world.now) c.args.learner c.learned.ensures.agrees r c.in_ok-replay.ensures
    c.learned.result.now commands c.learned.ensures.learned refl found
    (is ∙ ap (λ (ps : List Proof). filter_map (λ (x : Command). proof_under x.id ps) commands) c.deref.ensures.value))
    c.proofs_in_order.ensures
