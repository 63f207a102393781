use Rattle.std.proofs.Common.{sym, ◌∙◌, arith}
use Rattle.gp_index.proofs.Searches.{found_at, absent, gap, lacking}
use Rattle.gp_index.proofs.index.search.Goals as goal
use Rattle.gp_index.proofs.index.search.Goals.{else-at-order-via-then-at-order+else-eq, else-at-order-via-else-at-order}

pub returns-then-eq-clause-found : goal.returns-then-eq-clause-found
returns-then-eq-clause-found c = found_at c.args.commands.now c.args.order.now c.requires.index c.args.c.now c.rank-at.result c.index-commands-order.result c.requires.distinct c.if-at-order.true c.index-commands-order.is (sym c.eq.ensures ∙ c.if-eq.true)

pub returns-clause-absent : goal.returns-clause-absent
returns-clause-absent c = absent c.args.commands.now c.args.order.now c.requires.index c.args.c.now c.rank-at.result c.rank-at.ensures.below c.rank-at.ensures.above (λ e h. elim c.else-at-order.branch [
  | else-at-order-via-then-at-order+else-eq w ↦ lacking c.args.commands.now c.args.order.now c.requires.index c.args.c.now c.rank-at.result w.index-commands-order.result e h w.index-commands-order.is (sym w.eq.ensures ∙ w.if-eq.false)
  | else-at-order-via-else-at-order w ↦ absurd (omega (arith, h, w.if-at-order.false))
])

pub returns-clause-gap : goal.returns-clause-gap
returns-clause-gap c = gap c.args.commands.now c.args.order.now c.requires.index c.args.c.now c.rank-at.result c.rank-at.ensures.below c.rank-at.ensures.above c.rank-at.ensures.within (returns-clause-absent c)
