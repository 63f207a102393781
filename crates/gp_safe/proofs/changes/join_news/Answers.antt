use Rattle.std.proofs.Common.{rules, ◌≡◌, [], Bool, true, false, not, ◌||◌, Some, None, refl, sym, ap, ◌∙◌, subst}
use Rattle.std.specs.Prelude.{unwrap_or}
use Rattle.std.proofs.lemmas.Bool.{true≢false}
use Rattle.std.specs.Option.{option_map, option_copied, is_some}
use Rattle.gp_history.specs.History.{History}
use Rattle.gp_history.specs.Sequence.{history_of}
use Rattle.gp_history.specs.Bounds.{joined}
use Rattle.gp_history.proofs.Joins.{history_of_is}
use Rattle.gp_round.specs.Sets.{masks}
use Rattle.gp_safe.specs.Held.{value_with}
use Rattle.gp_safe.specs.Meets.{quorum_meet, add_meet}
use Rattle.gp_safe.specs.Changes.{may_add, NoneFrom, AreHistories, AreKnown, IsFromOld}
use Rattle.gp_safe.proofs.Adding.{one_more_joined, one_more_addition}
use Rattle.gp_safe.proofs.Changing.{all_known, still_known, any_history, histories_before, nothing_may_add, nothing_added, mask_there, masks_step}
use Rattle.gp_safe.proofs.changes.join_news.Goals as goal

pub returns-then-not-more-clause-joined : goal.returns-then-not-more-clause-joined
returns-then-not-more-clause-joined g c =
    let f0 = g.V.Values.value c.args.values.now in
    let w = g.V.Values.within c.args.values.now in
    let now = value_with f0 c.args.sender (Some (history_of c.args.value.now)) in
    let known = history_of c.args.known.now in
    let before : AreHistories f0 c.args.n = histories_before f0 c.args.n c.args.sender (Some (history_of c.args.value.now)) c.may_add-more.ensures.histories (any_history (option_copied c.value.result) (f0 c.args.sender) c.value.ensures) in
    let was : AreKnown known f0 w c.args.n c.args.size = all_known f0 w c.args.n before known (history_of_is c.args.known.now) c.args.size c.requires.earlier in
    let kept : IsFromOld (f0 c.args.sender) c.args.value.now c.shared_start-from.result = subst (λ o. IsFromOld o c.args.value.now c.shared_start-from.result) c.value.ensures c.shared_start-from.ensures.old in
    let none : c.may_add-more.result ≡ false = search rules in
    sym (nothing_added now w c.args.n known (masks c.args.n c.args.size)
    (nothing_may_add f0 w c.args.n c.args.sender c.args.value.now c.shared_start-from.result before kept known c.args.size c.may_add-more.ensures.distinct was (c.may_add-more.ensures.nothing none)))

pub new_meet-requires-clause-old : goal.new_meet-requires-clause-old
new_meet-requires-clause-old g c = subst (λ o. IsFromOld o c.args.value.now c.shared_start-from.result) c.value.ensures c.shared_start-from.ensures.old

pub new_meet-requires-clause-histories : goal.new_meet-requires-clause-histories
new_meet-requires-clause-histories g c =
    let f0 = g.V.Values.value c.args.values.now in
    histories_before f0 c.args.n c.args.sender (Some (history_of c.args.value.now)) c.may_add-more.ensures.histories (any_history (option_copied c.value.result) (f0 c.args.sender) c.value.ensures)

pub new_meet-requires-clause-earlier : goal.new_meet-requires-clause-earlier
new_meet-requires-clause-earlier g c =
    let f0 = g.V.Values.value c.args.values.now in
    let w = g.V.Values.within c.args.values.now in
    let now = value_with f0 c.args.sender (Some (history_of c.args.value.now)) in
    let known = history_of c.args.known.now in
    let before : AreHistories f0 c.args.n = new_meet-requires-clause-histories g c in
    let was : AreKnown known f0 w c.args.n c.args.size = all_known f0 w c.args.n before known (history_of_is c.args.known.now) c.args.size c.requires.earlier in
    still_known now w c.args.n c.may_add-more.ensures.histories known (history_of_is c.args.known.now) f0 w c.args.size c.loop-mask.yielded (history_of c.latest.result.now) (c.latest.ensures ∙ c.loop-mask.invariant.joined) was
    c.in-Some.mask (mask_there (masks c.args.n c.args.size) c.loop-mask.yielded c.next.new.self c.loop-mask.mask-iterator c.in-Some.mask c.loop-mask.invariant.masks c.in-Some.ensures.steps)

pub loop-mask-preserved-then-not-adds : goal.loop-mask-preserved-then-not-adds
loop-mask-preserved-then-not-adds g c =
    let w = g.V.Values.within c.args.values.now in
    let now = value_with (g.V.Values.value c.args.values.now) c.args.sender (Some (history_of c.args.value.now)) in
    let known = history_of c.args.known.now in
    let old = c.loop-mask.invariant in
    record {
      masks = masks_step (masks c.args.n c.args.size) c.loop-mask.yielded c.next.new.self c.loop-mask.mask-iterator c.in-Some.mask old.masks c.in-Some.ensures.steps;
      joined =
          c.in_ok-news.ensures.joined
          ∙ ap (λ u. joined u (add_meet (option_map history_of c.in_ok-met.met) [])) (sym c.latest.ensures)
          ∙ c.in_ok-met.ensures.joined
          ∙ one_more_joined now w c.args.n c.loop-mask.yielded c.in-Some.mask known (history_of c.latest.result.now) (c.latest.ensures ∙ old.joined);
      addition = one_more_addition history_of now w c.args.n c.loop-mask.yielded c.in-Some.mask known (history_of c.latest.result.now) c.loop-mask.news c.in_ok-met.met c.in_ok-news.news c.latest.ensures old.addition c.in_ok-met.ensures.addition c.in_ok-news.ensures.some;
      nothing = λ e. absurd (true≢false (sym (ap not c.if-not-adds.true) ∙ e));
    }

pub loop-mask-preserved-else-not-adds : goal.loop-mask-preserved-else-not-adds
loop-mask-preserved-else-not-adds g c =
    let w = g.V.Values.within c.args.values.now in
    let now = value_with (g.V.Values.value c.args.values.now) c.args.sender (Some (history_of c.args.value.now)) in
    let known = history_of c.args.known.now in
    let old = c.loop-mask.invariant in
    record {
      masks = masks_step (masks c.args.n c.args.size) c.loop-mask.yielded c.next.new.self c.loop-mask.mask-iterator c.in-Some.mask old.masks c.in-Some.ensures.steps;
      joined =
          c.in_ok-news.ensures.joined
          ∙ ap (λ u. joined u (add_meet (option_map history_of c.in_ok-met.met) [])) (sym c.latest.ensures)
          ∙ c.in_ok-met.ensures.joined
          ∙ one_more_joined now w c.args.n c.loop-mask.yielded c.in-Some.mask known (history_of c.latest.result.now) (c.latest.ensures ∙ old.joined);
      addition = one_more_addition history_of now w c.args.n c.loop-mask.yielded c.in-Some.mask known (history_of c.latest.result.now) c.loop-mask.news c.in_ok-met.met c.in_ok-news.news c.latest.ensures old.addition c.in_ok-met.ensures.addition c.in_ok-news.ensures.some;
      nothing = λ e. subst (λ (u : History). NoneFrom (may_add u now w c.args.n c.args.size) c.args.value.now c.shared_start-from.result) c.latest-else-not-adds.ensures (c.may_add-more-else-not-adds.ensures.nothing e);
    }

or_nothing : (b : Bool) → b ≡ (b || false)
or_nothing true = refl
or_nothing false = refl

pub loop-mask-preserved : goal.loop-mask-preserved
loop-mask-preserved g c =
    let f0 = g.V.Values.value c.args.values.now in
    let w = g.V.Values.within c.args.values.now in
    let now = value_with f0 c.args.sender (Some (history_of c.args.value.now)) in
    let known = history_of c.args.known.now in
    let old = c.loop-mask.invariant in
    let latest = unwrap_or (option_map history_of c.loop-mask.news) known in
    let before : AreHistories f0 c.args.n = histories_before f0 c.args.n c.args.sender (Some (history_of c.args.value.now)) c.may_add-more.ensures.histories (any_history (option_copied c.value.result) (f0 c.args.sender) c.value.ensures) in
    let was : AreKnown known f0 w c.args.n c.args.size = all_known f0 w c.args.n before known (history_of_is c.args.known.now) c.args.size c.requires.earlier in
    let kept : IsFromOld (f0 c.args.sender) c.args.value.now c.shared_start-from.result = subst (λ o. IsFromOld o c.args.value.now c.shared_start-from.result) c.value.ensures c.shared_start-from.ensures.old in
    let listed = mask_there (masks c.args.n c.args.size) c.loop-mask.yielded c.next.new.self c.loop-mask.mask-iterator c.in-Some.mask old.masks c.in-Some.ensures.steps in
    let adds_nothing : joined latest (add_meet (quorum_meet now w c.args.n c.in-Some.mask) []) ≡ latest =
    nothing_may_add f0 w c.args.n c.args.sender c.args.value.now c.shared_start-from.result before kept latest c.args.size c.may_add-more.ensures.distinct
    (still_known now w c.args.n c.may_add-more.ensures.histories known (history_of_is c.args.known.now) f0 w c.args.size c.loop-mask.yielded latest old.joined was)
    (old.nothing c.if-more.false) c.in-Some.mask listed in
    record {
      masks = masks_step (masks c.args.n c.args.size) c.loop-mask.yielded c.next.new.self c.loop-mask.mask-iterator c.in-Some.mask old.masks c.in-Some.ensures.steps;
      joined = sym adds_nothing ∙ one_more_joined now w c.args.n c.loop-mask.yielded c.in-Some.mask known latest old.joined;
      addition = one_more_addition history_of now w c.args.n c.loop-mask.yielded c.in-Some.mask known latest c.loop-mask.news None c.loop-mask.news refl old.addition tt (or_nothing (is_some c.loop-mask.news));
      nothing = old.nothing;
    }
