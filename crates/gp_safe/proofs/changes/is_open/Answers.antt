use Rattle.std.proofs.Common.{◌≡◌, true, false, not, ◌&&◌, sym, ap, ◌∙◌}
use Rattle.std.specs.List.{list_all}
use Rattle.gp_history.specs.History.{has}
use Rattle.gp_history.specs.Sequence.{history_of}
use Rattle.gp_history.specs.Canonical.{is_ready}
use Rattle.gp_history.specs.Walks.{behind}
use Rattle.gp_history.proofs.Sets.{has_history_of}
use Rattle.gp_history.proofs.Places.{place_within, place_tells, place_lacks}
use Rattle.gp_history.proofs.Ready.{ready_is, taken_start}
use Rattle.gp_safe.proofs.changes.is_open.Goals as goal

pub is_behind-requires-clause-within : goal.is_behind-requires-clause-within
is_behind-requires-clause-within c = place_within c.args.h.now c.args.c.now c.in-Some.place (sym c.place_of.ensures ∙ c.in-Some.is)

pub returns-in-None : goal.returns-in-None
returns-in-None c =
    let lacks : has (history_of c.args.h.now) c.args.c.now ≡ false = has_history_of c.args.h.now c.args.c.now ∙ place_lacks c.args.h.now c.args.c.now (sym c.place_of.ensures ∙ c.in-None.is) in
    sym (ap (λ b. b && is_ready (history_of c.args.h.now) (history_of c.args.known.now) c.args.c.now) lacks)

pub returns-then-not-has_near : goal.returns-then-not-has_near
returns-then-not-has_near c =
    let there : has (history_of c.args.h.now) c.args.c.now ≡ true = has_history_of c.args.h.now c.args.c.now ∙ (place_tells c.args.h.now c.args.c.now c.in-Some.place (sym c.place_of.ensures ∙ c.in-Some.is)).there in
    let unknown : has (history_of c.args.known.now) c.args.c.now ≡ false = sym c.has_near.ensures ∙ c.if-not-has_near.true in
    c.is_behind.ensures
    ∙ (λ i. sym there i && (not (sym unknown i) && list_all (behind (history_of c.args.h.now) (history_of c.args.h.now) (history_of c.args.known.now) c.args.c.now) c.args.h.now))
    ∙ ap (λ b. has (history_of c.args.h.now) c.args.c.now && b) (sym (ready_is c.args.h.now c.args.known.now c.args.c.now))

pub is_behind-requires-clause-kept : goal.is_behind-requires-clause-kept
is_behind-requires-clause-kept c = taken_start c.args.h.now c.args.known.now c.common_start.result c.common_start.ensures.alike
