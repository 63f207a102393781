use Rattle.std.proofs.Common.{◌≡◌, suc, ◌-◌, drop, sym, ap, ◌∙◌, arith}
use Rattle.std.proofs.lemmas.List.{drop_all}
use Rattle.gp_work.specs.declared.job.Job.{Job}
use Rattle.gp_work.specs.Doing.{posted}
use Rattle.gp_phase.specs.Phases.{total}
use Rattle.gp_phase.proofs.Counting.{total_next}
use Rattle.gp_phase.proofs.phases.count.Goals as goal

pub loop-i-init : goal.loop-i-init
loop-i-init g c = sym (ap (total g.P.Process.state c.args.others) (drop_all _ c.args.jobs.now (omega arith)))

pub loop-i-preserved : goal.loop-i-preserved
loop-i-preserved g c =
    let js = c.args.jobs.now in let j = c.index-jobs-i.result in let some = c.loop-i-test.true in let within = c.loop-i.auto.i in
    let at : suc (c.loop-i.i - 1) ≡ c.loop-i.i = omega (arith, some) in
    let next = total_next g.P.Process.state c.args.others js (c.loop-i.i - 1) j (omega (arith, some, within)) in
    let here = ap (λ (x : Job g.row.P.Denot). posted (g.P.Process.state x.cell)) c.index-jobs-i.is in
    let rest = ap (λ n. total g.P.Process.state c.args.others (drop n js)) at in
    omega (arith, c.in_ok-sum.ensures.1, c.posted.ensures, here, next, rest, c.loop-i.invariant)

pub returns : goal.returns
returns g c =
    let none : c.loop-i.i ≡ 0 = (let t = c.loop-i-test.false in omega (arith, t)) in
    c.loop-i.invariant ∙ ap (λ n. total g.P.Process.state c.args.others (drop n c.args.jobs.now)) none
