use Rattle.std.proofs.Common.{sym, ap, ◌∙◌}
use Rattle.std.proofs.lemmas.Result.{on_ok_weaker}
use Rattle.gp_collide.specs.Watched.{EpochRound}
use Rattle.gp_caller.proofs.Following.{same_epoch, other_epoch}
use Rattle.gp_caller.proofs.adapting.AdaptiveCaller.enter.Goals as goal

pub returns-then-epoch-self-clause-course : goal.returns-then-epoch-self-clause-course
returns-then-epoch-self-clause-course g c =
    let self = c.args.self.now in
    let at = ap (λ (r : EpochRound). r.0) self.watches in
    on_ok_weaker c.change.result (λ anew. anew ∙ other_epoch self.sight.watch.round.0 c.args.epoch self.adapt.course (λ e. c.if-epoch-self.true (e ∙ at))) c.change.ensures.course

pub returns-else-ne-clause-course : goal.returns-else-ne-clause-course
returns-else-ne-clause-course g c =
    let self = c.args.self.now in
    let at = ap (λ (r : EpochRound). r.0) self.watches in
    same_epoch self.sight.watch.round.0 c.args.epoch self.adapt.course (c.if-epoch-self.false ∙ sym at)
