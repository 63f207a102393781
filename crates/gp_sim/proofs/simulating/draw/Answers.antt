use Rattle.std.proofs.Common.{suc, ap, ◌∙◌, arith, rules}
use Rattle.std.specs.Option.{is_some}
use Rattle.gp_world.specs.State.{entries_of}
use Rattle.gp_random.specs.Plans.{plan_of}
use Rattle.gp_driver.proofs.Worlds.{as_many}
use Rattle.gp_sim.proofs.Drawing.{fits_here, short_so_far, drawn_on, drawn_all}
use Rattle.gp_sim.proofs.simulating.draw.Goals as goal

pub happen-requires-clause-few : goal.happen-requires-clause-few
happen-requires-clause-few c =
    let so_far = c.loop-world.invariant.1 in
    let short = short_so_far c.args.seed c.args.commands so_far.0 c.loop-world.workload (entries_of c.loop-world.world) c.requires.few so_far.1 in
    let same = as_many c.loop-world.world in
    omega (arith, short, same)

pub happen-requires-clause-fits : goal.happen-requires-clause-fits
happen-requires-clause-fits c = fits_here c.loop-world.world.config (entries_of c.loop-world.world) c.in-Some.event c.in_ok-event.field-0 c.messages.result c.loop-world.invariant.0 c.messages.ensures c.in-Some.is c.in_ok-event.ensures.fits

pub loop-world-preserved : goal.loop-world-preserved
loop-world-preserved c =
    let so_far = c.loop-world.invariant.1 in (
      c.in_ok-happen.ensures.config ∙ c.loop-world.invariant.0,
      (
        suc so_far.0,
        drawn_on so_far.0 (plan_of c.args.seed c.args.commands) c.loop-world.workload c.next.new.self c.loop-world.world.config (entries_of c.loop-world.world) (entries_of c.happen.new.world) c.in-Some.event c.in_ok-event.field-0 c.messages.result
            c.loop-world.invariant.0 so_far.1 c.messages.ensures c.in_ok-event.ensures.event c.in_ok-event.ensures.next c.in-Some.is c.in_ok-happen.ensures.entry,
      ),
    )

pub returns-clause-run : goal.returns-clause-run
returns-clause-run c =
    let so_far = c.loop-world.invariant.1 in
    drawn_all c.args.seed c.args.commands so_far.0 c.loop-world.workload c.next.new.self (entries_of c.loop-world.world) c.in_ok-event.field-0 c.messages.result
    c.requires.few so_far.1 c.messages.ensures c.in_ok-event.ensures.event c.in_ok-event.ensures.next c.in_default.is (c.in_ok-event.ensures.ended (ap is_some c.in_default.is))

pub loop-world-init : goal.loop-world-init
loop-world-init c = search rules
