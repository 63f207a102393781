use Rattle.std.proofs.Common.{◌&&◌, not, sym, ap, ◌∙◌}
use Rattle.std.specs.List.{list_all}
use Rattle.gp_history.specs.Sequence.{history_of}
use Rattle.gp_history.specs.Walks.{behind}
use Rattle.gp_history.proofs.Ready.{ready_is}
use Rattle.gp_history.proofs.walks.is_ready.Goals as goal

pub returns-then-not-has : goal.returns-then-not-has
returns-then-not-has g c =
    let lacks = c.has.ensures in
    c.is_behind.ensures
    ∙ sym (ready_is (g.H.Hist.sequence c.args.h.now) (g.H.Hist.sequence c.args.taken.now) c.args.c.now
    ∙ ap (λ b. not b && list_all (behind (history_of (g.H.Hist.sequence c.args.h.now)) (history_of (g.H.Hist.sequence c.args.h.now)) (history_of (g.H.Hist.sequence c.args.taken.now)) c.args.c.now) (g.H.Hist.sequence c.args.h.now)) (sym lacks ∙ c.if-not-has.true))

pub returns-else-not-has : goal.returns-else-not-has
returns-else-not-has g c =
    let lacks = c.has.ensures in
    ap not c.if-not-has.false
    ∙ sym (ready_is (g.H.Hist.sequence c.args.h.now) (g.H.Hist.sequence c.args.taken.now) c.args.c.now
    ∙ ap (λ b. not b && list_all (behind (history_of (g.H.Hist.sequence c.args.h.now)) (history_of (g.H.Hist.sequence c.args.h.now)) (history_of (g.H.Hist.sequence c.args.taken.now)) c.args.c.now) (g.H.Hist.sequence c.args.h.now)) (sym lacks ∙ c.if-not-has.false))
