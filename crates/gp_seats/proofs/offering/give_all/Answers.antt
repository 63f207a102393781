use Rattle.gp_seats.proofs.Counted.{all_ready, count_given}
use Rattle.gp_seats.proofs.offering.give_all.Goals as goal

pub returns-clause-some : goal.returns-clause-some
returns-clause-some g c = (count_given g.D.Disk.faults c.args.wire.now c.args.offers.now c.args.jobs.items c.give_each.new.jobs.items c.requires.nodes c.in_ok-give_each.ensures).1

pub returns-clause-ready : goal.returns-clause-ready
returns-clause-ready g c = all_ready g.D.Disk.faults c.args.wire.now c.args.offers.now c.args.jobs.items c.give_each.new.jobs.items c.requires.few c.requires.new c.in_ok-give_each.ensures

pub returns-clause-given : goal.returns-clause-given
returns-clause-given g c = c.in_ok-give_each.ensures
