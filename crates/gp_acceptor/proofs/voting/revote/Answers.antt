use Rattle.std.proofs.Common.{rules, ◌≡◌, inr, sym, ap, ◌∙◌, Some, None}
use Rattle.std.specs.Option.{option_map, option_copied}
use Rattle.std.proofs.lemmas.Result.{IfOk-weaker}
use Rattle.gp_history.specs.Sequence.{history_of}
use Rattle.gp_round.specs.contracts.round.Mode.{the_type}
use Rattle.gp_round.specs.declared.round.Mode.TheVariants.{Multi}
use Rattle.gp_round.specs.Rounds.{is_fast}
use Rattle.gp_round.specs.Sets.{masks}
use Rattle.gp_safe.specs.Meets.{quorum_meets, all_joined, everyone}
use Rattle.gp_safe.specs.Held.{value_with}
use Rattle.gp_round.proofs.Orders.{same_round_is}
use Rattle.gp_acceptor.specs.State.{histories}
use Rattle.gp_acceptor.specs.Table.{value_at, agreed, agreed_by}
use Rattle.gp_acceptor.specs.Revotes.{with_join}
use Rattle.gp_acceptor.proofs.Rejoining.{joined_at_once}
use denote.Enum.Bare.{same_true}
use Rattle.gp_acceptor.proofs.voting.revote.Goals as goal

pub returns-then-eq-2 : goal.returns-then-eq-2
returns-then-eq-2 c =
    let zs = c.args.vote.now in
    let f = value_at (histories c.args.values.now) in
    let multi : c.args.round.mode ≡ Multi = same_true the_type (search rules) _ _ (sym c.if-eq-2.ensures) in
    let n = c.coordinators-n.ensures.value in
    let size = c.coordinator_quorum-size.ensures.value in
    let sent : option_map history_of (option_copied c.args.newer) ≡ Some (history_of c.in-Some.newer.now) = search rules in
    let whole =
    (λ k. with_join (history_of zs) (all_joined (quorum_meets (value_with f c.args.sender (sym sent k)) everyone (n k) (masks (n k) (size k)))))
    ∙ ap (λ m. with_join (history_of zs) (agreed_by c.args.config.now.coordinators m c.args.round.lead (value_with f c.args.sender (option_map history_of (option_copied c.args.newer))))) (sym multi) in
    IfOk-weaker c.join_news.result _ _ (λ w e. inr (same_round_is c.args.voted c.args.round (sym c.eq.ensures ∙ c.if-eq.true), ap is_fast multi, e ∙ joined_at_once zs _ ∙ whole)) c.join_news.ensures.joined

pub join_news-requires-clause-earlier : goal.join_news-requires-clause-earlier
join_news-requires-clause-earlier c =
    let zs = c.args.vote.now in
    let f = value_at (histories c.args.values.now) in
    let multi : c.args.round.mode ≡ Multi = same_true the_type (search rules) _ _ (sym c.if-eq-2.ensures) in
    let n = c.coordinators-n.ensures.value in
    let size = c.coordinator_quorum-size.ensures.value in
    joined_at_once zs (quorum_meets f everyone c.coordinators-n.result (masks c.coordinators-n.result c.coordinator_quorum-size.result))
    ∙ (λ k. with_join (history_of zs) (all_joined (quorum_meets f everyone (n k) (masks (n k) (size k)))))
    ∙ ap (λ m. with_join (history_of zs) (agreed_by c.args.config.now.coordinators m c.args.round.lead f)) (sym multi)
    ∙ c.requires.agreed (same_round_is c.args.voted c.args.round (sym c.eq.ensures ∙ c.if-eq.true)) (ap is_fast multi)

pub returns-in_default : goal.returns-in_default
returns-in_default c =
    let zs = c.args.vote.now in
    let f = value_at (histories c.args.values.now) in
    let multi : c.args.round.mode ≡ Multi = same_true the_type (search rules) _ _ (sym c.if-eq-2.ensures) in
    let at = same_round_is c.args.voted c.args.round (sym c.eq.ensures ∙ c.if-eq.true) in
    let nothing : c.args.newer ≡ None = search rules in
    let same : with_join (history_of zs) (agreed c.args.config.now.coordinators c.args.round f) ≡ with_join (history_of zs) (agreed c.args.config.now.coordinators c.args.round (value_with f c.args.sender (option_map history_of (option_copied c.args.newer)))) = (λ i. with_join (history_of zs) (agreed c.args.config.now.coordinators c.args.round (value_with f c.args.sender (option_map history_of (option_copied (sym nothing i)))))) in
    inr (at, ap is_fast multi, sym (c.requires.agreed at (ap is_fast multi)) ∙ same)
