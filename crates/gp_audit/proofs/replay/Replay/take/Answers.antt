use Rattle.std.proofs.Common.{◌∙◌, ℕ, ap}
use Rattle.gp_history.specs.Sequence.{history_of}
use Rattle.gp_msg.specs.Messages.{message_of, Final}
use Rattle.gp_audit.proofs.replay.Replay.take.Goals as goal

pub pass-requires-clause-message : goal.pass-requires-clause-message
pass-requires-clause-message c =
    (c.in-Final.learner, history_of c.in-Final.value, ap message_of c.in-Final.is ∙ ap (λ (e : ℕ). Final e c.in-Final.learner (history_of c.in-Final.value)) c.if-epoch-self-2.false)

pub returns-else-acceptor-acceptors-clause-takes : goal.returns-else-acceptor-acceptors-clause-takes
returns-else-acceptor-acceptors-clause-takes c = c.hear.ensures c.args.k
