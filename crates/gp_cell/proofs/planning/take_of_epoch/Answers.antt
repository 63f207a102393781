use Rattle.std.proofs.Common.{sym, ap, ◌∙◌}
use Rattle.gp_msg.specs.Messages.{message_of}
use Rattle.gp_coordinator.specs.Epochs as coordinator
use Rattle.gp_acceptor.specs.Epochs as acceptor
use Rattle.gp_learner.specs.Epochs as learner
use Rattle.gp_cell.specs.declared.roles.Core.{Core}
use Rattle.gp_cell.specs.declared.roles.Core.TheVariants.{Coordinator, Acceptor, Learner}
use Rattle.std.specs.Option.{option_to_list}
use Rattle.gp_cell.specs.Plans.{took}
use Rattle.gp_cell.proofs.planning.take_of_epoch.Goals as goal

pub returns-in_ok-out-in-Coordinator-clause-next : goal.returns-in_ok-out-in-Coordinator-clause-next
returns-in_ok-out-in-Coordinator-clause-next c =
    let m = message_of c.args.m.now in
    ap Coordinator (c.in_ok-out-in-Coordinator.ensures.next ∙ ap (λ s. (coordinator.take s m).0) c.in_ok-next-in-Coordinator.ensures) ∙ ap (λ (k : Core). (took k m).0) (sym c.in-Coordinator.is)

pub returns-in_ok-out-in-Coordinator-clause-sent : goal.returns-in_ok-out-in-Coordinator-clause-sent
returns-in_ok-out-in-Coordinator-clause-sent c =
    let m = message_of c.args.m.now in
    c.in_ok-out-in-Coordinator.ensures.sent ∙ ap (λ s. option_to_list (coordinator.take s m).1) c.in_ok-next-in-Coordinator.ensures ∙ ap (λ (k : Core). option_to_list (took k m).1) (sym c.in-Coordinator.is)

pub returns-in_ok-out-in-Acceptor-clause-next : goal.returns-in_ok-out-in-Acceptor-clause-next
returns-in_ok-out-in-Acceptor-clause-next c =
    let m = message_of c.args.m.now in
    ap Acceptor (c.in_ok-out-in-Acceptor.ensures.next ∙ ap (λ s. (acceptor.take s m).0) c.in_ok-next-in-Acceptor.ensures) ∙ ap (λ (k : Core). (took k m).0) (sym c.in-Acceptor.is)

pub returns-in_ok-out-in-Acceptor-clause-sent : goal.returns-in_ok-out-in-Acceptor-clause-sent
returns-in_ok-out-in-Acceptor-clause-sent c =
    let m = message_of c.args.m.now in
    c.in_ok-out-in-Acceptor.ensures.sent ∙ ap (λ s. option_to_list (acceptor.take s m).1) c.in_ok-next-in-Acceptor.ensures ∙ ap (λ (k : Core). option_to_list (took k m).1) (sym c.in-Acceptor.is)

pub returns-in_ok-out-in-Learner-clause-next : goal.returns-in_ok-out-in-Learner-clause-next
returns-in_ok-out-in-Learner-clause-next c =
    let m = message_of c.args.m.now in
    ap Learner (c.in_ok-out-in-Learner.ensures.next ∙ ap (λ s. (learner.take s m).0) c.in_ok-next-in-Learner.ensures) ∙ ap (λ (k : Core). (took k m).0) (sym c.in-Learner.is)

pub returns-in_ok-out-in-Learner-clause-sent : goal.returns-in_ok-out-in-Learner-clause-sent
returns-in_ok-out-in-Learner-clause-sent c =
    let m = message_of c.args.m.now in
    c.in_ok-out-in-Learner.ensures.sent ∙ ap (λ s. option_to_list (learner.take s m).1) c.in_ok-next-in-Learner.ensures ∙ ap (λ (k : Core). option_to_list (took k m).1) (sym c.in-Learner.is)
