use Rattle.std.proofs.Common.{◌&&◌, sym, ap, ◌∙◌}
use Rattle.std.specs.List.{list_all}
use Rattle.gp_history.specs.Sequence.{history_of}
use Rattle.gp_history.specs.Walks.{behind}
use Rattle.gp_history.proofs.Places.{place_within, has_start}
use Rattle.gp_bounds.proofs.Beside.{beside_both, beside_one}
use Rattle.gp_bounds.proofs.compatibles.goes_beside.Goals as goal

pub is_behind-requires-clause-within : goal.is_behind-requires-clause-within
is_behind-requires-clause-within g c = place_within (g.H.Hist.sequence c.args.a.now) c.args.d.now c.in-Some.i (sym c.place_of.ensures ∙ c.in-Some.is)

pub is_behind-requires-clause-kept : goal.is_behind-requires-clause-kept
is_behind-requires-clause-kept g c = has_start (g.H.Hist.sequence c.args.a.now) c.args.from

pub is_behind-requires-then-is_behind-clause-kept : goal.is_behind-requires-then-is_behind-clause-kept
is_behind-requires-then-is_behind-clause-kept g c = has_start (g.H.Hist.sequence c.args.b.now) c.args.from

pub returns-then-is_behind : goal.returns-then-is_behind
returns-then-is_behind g c =
    c.is_behind-then-is_behind.ensures
    ∙ sym (beside_both (g.H.Hist.sequence c.args.a.now) (g.H.Hist.sequence c.args.b.now) c.args.d.now c.in-Some.i (sym c.place_of.ensures ∙ c.in-Some.is)
    ∙ ap (λ b. b && list_all (behind (history_of (g.H.Hist.sequence c.args.b.now)) (history_of (g.H.Hist.sequence c.args.a.now)) (history_of (g.H.Hist.sequence c.args.b.now)) c.args.d.now) (g.H.Hist.sequence c.args.b.now)) (sym c.is_behind.ensures ∙ c.if-is_behind.true))

pub returns-else-is_behind : goal.returns-else-is_behind
returns-else-is_behind g c =
    c.if-is_behind.false
    ∙ sym (beside_both (g.H.Hist.sequence c.args.a.now) (g.H.Hist.sequence c.args.b.now) c.args.d.now c.in-Some.i (sym c.place_of.ensures ∙ c.in-Some.is)
    ∙ ap (λ b. b && list_all (behind (history_of (g.H.Hist.sequence c.args.b.now)) (history_of (g.H.Hist.sequence c.args.a.now)) (history_of (g.H.Hist.sequence c.args.b.now)) c.args.d.now) (g.H.Hist.sequence c.args.b.now)) (sym c.is_behind.ensures ∙ c.if-is_behind.false))

pub returns-in-None : goal.returns-in-None
returns-in-None g c = c.all_apart.ensures ∙ sym (beside_one (g.H.Hist.sequence c.args.a.now) (g.H.Hist.sequence c.args.b.now) c.args.d.now (sym c.place_of.ensures ∙ c.in-None.is))
