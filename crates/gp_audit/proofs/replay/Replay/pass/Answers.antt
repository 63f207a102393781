use Rattle.std.proofs.Common.{◌≡◌, ◌∙◌, ◌++◌, Some, refl, ap}
use Rattle.gp_history.specs.History.{History}
use Rattle.gp_history.specs.Sequence.{history_of}
use Rattle.gp_msg.specs.Messages.{message_of}
use Rattle.gp_audit.specs.declared.proof.Cause.TheVariants as cause
use Rattle.gp_audit.specs.declared.replay.Replay.{Replay}
use Rattle.gp_audit.specs.Noting.{new_proofs}
use Rattle.gp_audit.proofs.Hearing.{passed}
use Rattle.gp_audit.proofs.replay.Replay.pass.Goals as goal

pub returns : goal.returns
returns c =
    let old = c.args.self.now in
    let noted : Replay = record { alloc = old.alloc; config = old.config; number = old.number; learner = c.take.new.self; epoch = old.epoch; votes = old.votes; proofs = c.push_new.new.proofs } in
    let known : history_of c.in_ok-known.known ≡ old.learner.learned = ap history_of c.in_ok-known.ensures ∙ c.learned.ensures in
    passed old c.enter.new.self c.args.at c.args.k (message_of c.args.m.now) c.requires.step c.requires.message.0 c.requires.message.1 c.requires.message.2 c.take.new.self c.in_ok-_outs.ensures.next
    c.learned-2.result.now c.learned-2.ensures noted refl refl refl refl
    (c.in_ok-push_new.ensures.written ∙ ap (λ (u : History). old.proofs.items ++ new_proofs u c.args.at (λ d. Some (cause.Final c.args.k)) c.learned-2.result.now) known)
    c.enter.ensures.epoch c.enter.ensures.votes c.enter.ensures.same
