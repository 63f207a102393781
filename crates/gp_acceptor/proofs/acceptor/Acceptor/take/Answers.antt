use Rattle.std.proofs.Common.{◌≡◌, ℕ, ◌∙◌, sym, subst, rules}
use Rattle.std.specs.Prelude.{Option, OnOk, IfOk, map}
use Rattle.std.specs.Option.{option_to_list}
use Rattle.std.proofs.lemmas.Result.{on_ok_weaker}
use Rattle.gp_history.specs.Sequence.{history_of}
use Rattle.gp_msg.specs.Messages.{Sent, Stamped, message_of}
use Rattle.gp_acceptor.specs.State.{AcceptorState}
use Rattle.gp_acceptor.specs.Epochs.{AcceptorInEpoch, stepped, take}
use Rattle.gp_acceptor.specs.Table.{acceptor_take}
use Rattle.gp_acceptor.proofs.Taking.{taken_here}
use Rattle.gp_acceptor.proofs.acceptor.Acceptor.take.Goals as goal

abbrev seen : ℕ → AcceptorState → AcceptorInEpoch
seen epoch state = record { epoch = epoch; state = state }

-- the message is taken in the epoch of the acceptor
here : (c : goal.After-receive) → ◌≡◌ {A = AcceptorInEpoch × Option Stamped} (stepped (seen c.self.inside.epoch c.self.inside.part) (acceptor_take c.self.inside.part (Sent c.in-P2a.round c.in-P2a.coordinator (history_of c.in-P2a.value)))) (take c.args.self.now (message_of c.args.m.now))
here c =
    taken_here (seen c.self.inside.epoch c.self.inside.part) c.in-P2a.epoch (Sent c.in-P2a.round c.in-P2a.coordinator (history_of c.in-P2a.value)) c.if-epoch-self-2.true
    ∙ (λ k. take (c.self.view_is k) (message_of (sym c.in-P2a.is k)))

pub returns-in-P2a-clause-next : goal.returns-in-P2a-clause-next
returns-in-P2a-clause-next c =
    subst (λ (x : AcceptorInEpoch × Option Stamped). OnOk c.receive.result (seen c.self.inside.epoch c.receive.new.self ≡ x.0)) (here c)
    (on_ok_weaker c.receive.result (λ e k. seen c.self.inside.epoch (e k)) c.receive.ensures.next)

pub returns-in-P2a-clause-sent : goal.returns-in-P2a-clause-sent
returns-in-P2a-clause-sent c =
    subst (λ (x : AcceptorInEpoch × Option Stamped). IfOk c.receive.result (λ outs. map message_of outs ≡ option_to_list x.1)) (here c) c.receive.ensures.sent

pub returns-in-Final-clause-next : goal.returns-in-Final-clause-next
returns-in-Final-clause-next c = search rules
