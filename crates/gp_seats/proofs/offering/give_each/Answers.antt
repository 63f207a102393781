use Rattle.std.proofs.Common.{◌≡◌, ◌<◌, ◌+◌, suc, length, get_or, set, refl, ap, ◌∙◌, arith}
use Rattle.gp_seats.specs.Offering.{given_to}
use Rattle.gp_seats.proofs.Giving.{given_first, given_long, given_next, given_whole}
use Rattle.gp_seats.proofs.offering.give_each.Goals as goal

pub loop-i-init : goal.loop-i-init
loop-i-init g c = refl

pub index_mut-requires : goal.index_mut-requires
index_mut-requires g c =
    let within = c.loop-i-test.true in let end = c.len-i-end.ensures in let long = c.args.jobs.now.ok.0 in
    let same = given_long (given_to c.args.offers.now) c.args.jobs.now.items c.loop-i.i (omega (arith, within, end, long)) in
    omega (arith, within, end, long, c.loop-i.jobs.ok.0, ap length c.loop-i.invariant, same)

pub loop-i-preserved : goal.loop-i-preserved
loop-i-preserved g c =
    let give = given_to c.args.offers.now in let jobs = c.args.jobs.now.items in let i = c.loop-i.i in let job = c.index_mut.result.now in
    let given = c.in_ok-give.ensures ∙ ap give (c.index_mut.ensures.value ∙ ap (λ js. get_or js i job) c.loop-i.invariant) in
    let within : i < length jobs = omega (arith, c.loop-i-test.true, c.len-i-end.ensures, c.args.jobs.now.ok.0) in
    let next : suc i ≡ i + 1 = omega arith in
    (λ k. set (c.loop-i.invariant k) i (given k)) ∙ given_next give jobs i job within ∙ ap (given_first give jobs) next

pub returns : goal.returns
returns g c = c.loop-i.invariant ∙ given_whole (given_to c.args.offers.now) c.args.jobs.now.items c.loop-i.i (omega (arith, c.loop-i-test.false, c.len-i-end.ensures, c.args.jobs.now.ok.0))
