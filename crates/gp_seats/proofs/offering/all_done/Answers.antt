use Rattle.std.proofs.Common.{length, subst, ap, ◌∙◌, ◌≡◌, take, arith}
use Rattle.std.specs.List.{All}
use Rattle.std.proofs.lemmas.List.Elements.{All-more}
use Rattle.gp_work.proofs.Batching.{take_whole}
use Rattle.gp_seats.specs.Offering.{IsDone}
use Rattle.gp_seats.proofs.offering.all_done.Goals as goal

pub loop-job-preserved : goal.loop-job-preserved
loop-job-preserved g c =
    All-more IsDone c.args.jobs.now c.loop-job.job-index c.job-item.result c.loop-job-test.true c.loop-job.invariant (subst IsDone c.job-item.is (c.is_done.ensures c.if-not-is_done.false))

pub returns : goal.returns
returns g c _ =
    let end : c.loop-job.job-index ≡ length c.args.jobs.now = let a = c.loop-job-test.false in let b = c.loop-job.auto.job-index-end in omega arith in
    subst (All IsDone) (ap (λ i. take i c.args.jobs.now) end ∙ take_whole c.args.jobs.now) c.loop-job.invariant
