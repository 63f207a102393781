use Rattle.std.proofs.Common.{◌≡◌, ◌≤◌, ◌∙◌, true, None, sym, ap, subst}
use Rattle.std.specs.Prelude.{Option, map}
use Rattle.std.specs.Option.{option_map, option_to_list}
use Rattle.gp_history.specs.Sequence.{history_of}
use Rattle.gp_msg.specs.Messages.{Message, Sent, message_of, maybe_stamped}
use Rattle.gp_round.specs.Rounds.{earlier}
use Rattle.gp_acceptor.specs.State.{AcceptorState}
use Rattle.gp_acceptor.specs.Table.{acceptor_take, with_value, with_vote}
use Rattle.gp_acceptor.specs.Revotes.{IsAgreed}
use Rattle.gp_acceptor.proofs.Taking.{passed_earlier, passed_unknown}
use Rattle.gp_acceptor.proofs.part.Part.receive.Goals as goal
use Rattle.gp_acceptor.proofs.part.Part.receive.Goals.{then-lt-via-then-lt, then-lt-via-else-lt+then-sender-coordinators}

-- such a value is passed over
passed : (c : goal.After-new) → ◌≡◌ {A = AcceptorState × Option Message} (acceptor_take c.args.self.now (Sent c.args.round c.args.sender (history_of c.args.value.now))) (c.args.self.now, None)
passed c =
    elim c.then-lt.branch [
      | then-lt-via-then-lt w ↦ passed_earlier c.args.self.now c.args.round c.args.sender (history_of c.args.value.now) (subst (λ (s : AcceptorState). earlier c.args.round s.round ≡ true) c.self.view_is (sym c.lt.ensures ∙ w.if-lt.true))
      | then-lt-via-else-lt+then-sender-coordinators w ↦ passed_unknown c.args.self.now c.args.round c.args.sender (history_of c.args.value.now) (subst (λ (s : AcceptorState). s.config.coordinators ≤ c.args.sender) c.self.view_is (subst (λ n. n ≤ c.args.sender) w.coordinators.ensures.value w.if-sender-coordinators.true))
    ]

pub returns-then-lt-clause-next : goal.returns-then-lt-clause-next
returns-then-lt-clause-next c = sym (ap (λ (x : AcceptorState × Option Message). x.0) (passed c))

pub returns-then-lt-clause-sent : goal.returns-then-lt-clause-sent
returns-then-lt-clause-sent c = ap (map message_of) c.new.ensures ∙ sym (ap (λ (x : AcceptorState × Option Message). option_to_list (maybe_stamped c.args.epoch x.1)) (passed c))

pub settle-requires-clause-agreed : goal.settle-requires-clause-agreed
settle-requires-clause-agreed c =
    let plan = c.in_ok-plan.plan in
    subst (λ (s : AcceptorState). IsAgreed (with_vote (with_value s c.args.sender (option_map history_of plan.held)) (option_map history_of plan.vote))) (sym c.raise.ensures) c.in_ok-plan.ensures.agreed

pub returns-clause-next : goal.returns-clause-next
returns-clause-next c =
    let plan = c.in_ok-plan.plan in
    c.settle.ensures
    ∙ ap (λ (s : AcceptorState). with_vote (with_value s c.args.sender (option_map history_of plan.held)) (option_map history_of plan.vote)) c.raise.ensures
    ∙ ap (λ (x : AcceptorState × Option Message). x.0) c.in_ok-plan.ensures.next

pub returns-clause-sent : goal.returns-clause-sent
returns-clause-sent c = c.in_ok-plan.ensures.sent ∙ ap (λ (x : AcceptorState × Option Message). option_to_list (maybe_stamped c.args.epoch x.1)) c.in_ok-plan.ensures.next
