use Rattle.gp_random.proofs.PlanLemmas.{offers_some}
use Rattle.gp_random.proofs.plan.Plan.offer.Goals as goal

pub returns : goal.returns
returns c = offers_some c.args.self.now c.in_ok-event.event c.offer_at.new.rng c.if-self.false c.in_ok-event.ensures
