use Rattle.std.proofs.Common.{subst, sym}
use Rattle.gp_work.specs.Causes.{StepCause}
use Rattle.gp_work.specs.Moves.{event_of}
use Rattle.gp_work.specs.Jobs.{MadeOne}
use Rattle.gp_work.proofs.Making.{fallen}
use Rattle.gp_work.proofs.Results.{on_ok_all}
use Rattle.gp_work.proofs.Stretches.{goes_on, rose_then}
use Rattle.gp_work.proofs.worker.make.Goals as goal

pub returns-in-Err-Disk-clause-stretch : goal.returns-in-Err-Disk-clause-stretch
returns-in-Err-Disk-clause-stretch g c =
    let p = g.P.Process.state c.args.job.now.cell in
    let s = g.P.Process.state c.step.new.self in
    let q = g.P.Process.state c.recover.new.job.cell in
    let cause = subst (StepCause c.args.mv p s ((g.P.Process.causes c.step.new.self).too_great (event_of p.node c.args.mv))) c.in-Err-Disk.field-0-is c.in-Err-Disk.ensures.cause in record {
      goes = goes_on p s q c.step.ensures.goes c.recover.ensures.goes;
      stays = λ e. c.recover.ensures.now;
      turned = λ a b. rose_then p.faults s.faults q.faults cause.1 c.recover.ensures.goes.faults;
    }

pub returns-in-Err-Disk-clause-ok : goal.returns-in-Err-Disk-clause-ok
returns-in-Err-Disk-clause-ok g c =
    let p = g.P.Process.state c.args.job.now.cell in
    let s = g.P.Process.state c.step.new.self in
    let q = g.P.Process.state c.recover.new.job.cell in
    on_ok_all c.recover.result _ _ _ _
    (λ first falls up. subst (λ h. MadeOne p c.args.job.now.risen c.args.mv q h) (sym c.recover.ensures.now)
    (fallen p s q c.args.job.now.risen c.args.mv c.step.ensures.goes c.in-Err-Disk.ensures.nothing first falls up))
    c.recover.ensures.first c.recover.ensures.falls c.recover.ensures.up
