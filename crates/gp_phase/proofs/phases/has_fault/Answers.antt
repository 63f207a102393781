use Rattle.std.proofs.Common.{◌≡◌, ap, ◌∙◌, sym, subst, length, take, arith, None, rules}
use Rattle.std.specs.List.{All}
use Rattle.std.proofs.lemmas.List.Elements.{All-get_or, All-more}
use Rattle.gp_work.specs.declared.job.Job.{Job}
use Rattle.gp_work.proofs.Batching.{take_whole}
use Rattle.gp_phase.proofs.Counting.{none_there, some_there}
use Rattle.gp_phase.proofs.phases.has_fault.Goals as goal

pub loop-job-preserved : goal.loop-job-preserved
loop-job-preserved g c =
    let j = c.job-item.result in
    All-more (λ (k : Job g.row.P.Denot). k.fault ≡ None) c.args.jobs.now c.loop-job.job-index j c.loop-job-test.true c.loop-job.invariant
    (subst (λ (k : Job g.row.P.Denot). k.fault ≡ None) c.job-item.is (none_there j.fault c.if-is_some.ensures))

pub returns-clause-none : goal.returns-clause-none
returns-clause-none g c _ =
    let end : c.loop-job.job-index ≡ length c.args.jobs.now = let a = c.loop-job-test.false in let b = c.loop-job.auto.job-index-end in omega arith in
    subst (All (λ (k : Job g.row.P.Denot). k.fault ≡ None)) (ap (λ i. take i c.args.jobs.now) end ∙ take_whole c.args.jobs.now) c.loop-job.invariant

pub returns-then-is_some-clause-none : goal.returns-then-is_some-clause-none
returns-then-is_some-clause-none g c = search rules

pub returns-then-is_some-clause-some : goal.returns-then-is_some-clause-some
returns-then-is_some-clause-some g c _ all =
    let j = c.job-item.result in
    some_there j.fault c.if-is_some.ensures
    (subst (λ (k : Job g.row.P.Denot). k.fault ≡ None) (sym c.job-item.is) (All-get_or (λ (k : Job g.row.P.Denot). k.fault ≡ None) c.args.jobs.now c.loop-job.job-index j c.loop-job-test.true all))
