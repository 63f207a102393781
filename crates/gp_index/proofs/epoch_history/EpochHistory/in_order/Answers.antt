use Rattle.std.proofs.Common.{[], refl}
use Rattle.gp_history.specs.Sequence.{history_of}
use Rattle.gp_index.proofs.Continuing.{nothing_below, ordered_from_nothing}
use Rattle.gp_index.proofs.epoch_history.EpochHistory.in_order.Goals as goal

pub in_order_after-requires : goal.in_order_after-requires
in_order_after-requires c = nothing_below [] (history_of c.args.self.now) refl

pub returns : goal.returns
returns c = ordered_from_nothing c.args.self.now c.in_order_after.result c.in_order_after.ensures.same c.in_order_after.ensures.order c.in_order_after.ensures.distinct
