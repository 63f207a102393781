use Rattle.std.proofs.Common.{rules, ◌≡◌, ◌∙◌, refl, sym, ap, subst, length}
use Rattle.std.specs.Prelude.{Option}
use Rattle.gp_msg.specs.Messages.{Message}
use Rattle.gp_history.specs.History.{History}
use Rattle.std.proofs.lemmas.List.{length-map}
use Rattle.std.specs.Option.{option_map, option_copied}
use Rattle.gp_history.specs.Sequence.{history_of}
use Rattle.gp_safe.specs.Held.{newer, value_with}
use Rattle.gp_acceptor.specs.State.{AcceptorState, histories}
use Rattle.gp_acceptor.specs.Table.{agreed, next_vote, value_at}
use Rattle.gp_acceptor.specs.Revotes.{Settles, HasAgreed, IsAgreed}
use Rattle.gp_acceptor.proofs.Agreeing.{agreed_with_value, agreed_in}
use Rattle.gp_acceptor.proofs.Rejoining.{as_good}
use Rattle.gp_acceptor.proofs.Taking.{assembled, took}
use Rattle.gp_acceptor.proofs.part.Part.plan.Goals as goal

pub returns-clause-next : goal.returns-clause-next
returns-clause-next c =
    let s = c.args.self.now in
    let r = c.args.round in
    let hs = histories c.values_in-values.result.now in
    let o = option_map history_of c.in_ok-newer.newer in
    let w = option_map history_of c.in_ok-vote.vote in
    let a = agreed s.config.coordinators r (value_with (value_at hs) c.args.sender o) in
    let IsWhole : AcceptorState → Type 0 = λ s. length s.held ≡ s.config.coordinators in
    let whole = subst IsWhole c.self.view_is (length-map _ _ ∙ c.self.invariant.0) in
    let same : option_map history_of (option_copied c.as_ref.result) ≡ o = search rules in
    let eo = c.in_ok-newer.ensures ∙ ap (λ x. newer x (history_of c.args.value.now)) c.value_at.ensures in
    let settles : Settles s.voted r s.vote a w = subst (λ (p : AcceptorState × Option History). Settles p.0.voted r p.0.vote (agreed p.0.config.coordinators r (value_with (value_at hs) c.args.sender p.1)) w) (λ i. (c.self.view_is i, same i)) c.in_ok-vote.ensures in
    as_good s r c.args.sender o a w c.requires.reached settles
    ∙ assembled s r c.args.sender (history_of c.args.value.now) hs o a (next_vote s.voted r s.vote a) eo refl refl
    ∙ took s r c.args.sender (history_of c.args.value.now) hs c.requires.reached c.requires.known whole c.values_in-values.ensures

pub returns-clause-agreed : goal.returns-clause-agreed
returns-clause-agreed c =
    let is = subst IsAgreed c.self.view_is c.self.invariant.1 in
    subst (λ (p : AcceptorState × Option Message). IsAgreed p.0) (sym (returns-clause-next c)) (agreed_with_value c.args.self.now c.args.round c.args.sender (history_of c.args.value.now) is)

pub revote-requires-clause-agreed : goal.revote-requires-clause-agreed
revote-requires-clause-agreed c =
    let s = c.args.self.now in
    let is = subst IsAgreed c.self.view_is c.self.invariant.1 in
    let agreed = agreed_in s c.args.round (histories c.values_in-values.result.now) is c.requires.reached c.values_in-values.ensures in
    subst (λ (s : AcceptorState). HasAgreed s.config.coordinators s.voted c.args.round s.vote (value_at (histories c.values_in-values.result.now))) (sym c.self.view_is) agreed
