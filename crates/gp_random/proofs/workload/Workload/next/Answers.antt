use Rattle.gp_random.proofs.NextLemmas.{leaves}
use Rattle.gp_random.proofs.workload.Workload.next.Goals as goal

pub invariant_of-self : goal.invariant_of-self
invariant_of-self c = (leaves c.args.have c.self.inside.plan c.args.self.now c.in_ok-ahead.ahead c.next.new.self c.in_ok-event.event c.self.invariant c.self.view_is c.in_ok-ahead.ensures.cases c.in_ok-event.ensures).sound

pub returns-clause-fits : goal.returns-clause-fits
returns-clause-fits c = (leaves c.args.have c.self.inside.plan c.args.self.now c.in_ok-ahead.ahead c.next.new.self c.in_ok-event.event c.self.invariant c.self.view_is c.in_ok-ahead.ensures.cases c.in_ok-event.ensures).event

pub returns-clause-offers : goal.returns-clause-offers
returns-clause-offers c = (leaves c.args.have c.self.inside.plan c.args.self.now c.in_ok-ahead.ahead c.next.new.self c.in_ok-event.event c.self.invariant c.self.view_is c.in_ok-ahead.ensures.cases c.in_ok-event.ensures).offered

pub returns-clause-ended : goal.returns-clause-ended
returns-clause-ended c = (leaves c.args.have c.self.inside.plan c.args.self.now c.in_ok-ahead.ahead c.next.new.self c.in_ok-event.event c.self.invariant c.self.view_is c.in_ok-ahead.ensures.cases c.in_ok-event.ensures).ended

pub returns-clause-nearer : goal.returns-clause-nearer
returns-clause-nearer c = (leaves c.args.have c.self.inside.plan c.args.self.now c.in_ok-ahead.ahead c.next.new.self c.in_ok-event.event c.self.invariant c.self.view_is c.in_ok-ahead.ensures.cases c.in_ok-event.ensures).nearer
