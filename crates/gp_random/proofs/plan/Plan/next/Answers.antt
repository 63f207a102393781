use Rattle.std.proofs.Common.{Option, sym, ap, ◌∙◌, arith}
use Rattle.gp_msg.specs.declared.event.Event.{Event}
use Rattle.gp_random.proofs.NextLemmas.{next_takes, passes_on, last_offer}
use Rattle.gp_random.proofs.plan.Plan.next.Goals as goal

pub returns-in-Some : goal.returns-in-Some
returns-in-Some c =
    next_takes c.args.have c.loop-self.self c.turn.new.self c.in-Some.event c.loop-self-test.true (ap (λ (o : Option Event). (o, c.turn.new.self)) (sym c.in-Some.is) ∙ c.in_ok-event.ensures) ∙ c.loop-self.invariant.0

pub loop-self-preserved : goal.loop-self-preserved
loop-self-preserved c =
    let passed = passes_on c.args.have c.loop-self.self c.turn.new.self c.loop-self-test.true c.loop-self.invariant.1 (ap (λ (o : Option Event). (o, c.turn.new.self)) (sym c.in_default.is) ∙ c.in_ok-event.ensures) in
    (passed.0 ∙ c.loop-self.invariant.0, passed.1)

pub returns : goal.returns
returns c = last_offer c.offer.result c.args.have c.loop-self.self c.offer.new.self c.args.self.now (omega (arith, c.loop-self-test.false)) c.loop-self.invariant.0 c.offer.ensures
