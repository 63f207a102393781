use Rattle.std.proofs.Common.{◌&&◌, sym, ap, ◌∙◌}
use Rattle.std.specs.List.{list_all}
use Rattle.gp_history.specs.Sequence.{history_of}
use Rattle.gp_history.specs.Walks.{behind}
use Rattle.gp_history.proofs.Places.{place_within, kept_found, kept_lost}
use Rattle.gp_bounds.specs.Agree.{agrees}
use Rattle.gp_bounds.proofs.meets.stays.Goals as goal

pub is_behind-requires-then-is_behind-clause-within : goal.is_behind-requires-then-is_behind-clause-within
is_behind-requires-then-is_behind-clause-within g c = place_within (g.H.Hist.sequence c.args.b.now) c.args.d.now c.in-Some.j (sym c.place_of.ensures ∙ c.in-Some.is)

pub returns-then-is_behind : goal.returns-then-is_behind
returns-then-is_behind g c =
    c.is_behind-then-is_behind.ensures
    ∙ (λ i. sym (kept_found (g.H.Hist.sequence c.args.b.now) c.args.d.now c.in-Some.j (sym c.place_of.ensures ∙ c.in-Some.is)) i && (sym (sym c.is_behind.ensures ∙ c.if-is_behind.true) i && list_all (behind (history_of (g.H.Hist.sequence c.args.b.now)) (history_of (g.H.Hist.sequence c.args.a.now)) (history_of (g.H.Hist.sequence c.args.kept.now)) c.args.d.now) (g.H.Hist.sequence c.args.b.now)))

pub returns-else-is_behind : goal.returns-else-is_behind
returns-else-is_behind g c =
    c.if-is_behind.false
    ∙ (λ i. sym (kept_found (g.H.Hist.sequence c.args.b.now) c.args.d.now c.in-Some.j (sym c.place_of.ensures ∙ c.in-Some.is)) i && (sym (sym c.is_behind.ensures ∙ c.if-is_behind.false) i && list_all (behind (history_of (g.H.Hist.sequence c.args.b.now)) (history_of (g.H.Hist.sequence c.args.a.now)) (history_of (g.H.Hist.sequence c.args.kept.now)) c.args.d.now) (g.H.Hist.sequence c.args.b.now)))

pub returns-in-None : goal.returns-in-None
returns-in-None g c = ap (λ b. b && agrees (g.H.Hist.sequence c.args.a.now) (g.H.Hist.sequence c.args.b.now) (history_of (g.H.Hist.sequence c.args.kept.now)) c.args.d.now) (sym (kept_lost (g.H.Hist.sequence c.args.b.now) c.args.d.now (sym c.place_of.ensures ∙ c.in-None.is)))
