use Rattle.std.proofs.Common.{◌<◌, length, sym, subst, Vec, Global}
use Rattle.std.specs.List.{All}
use Rattle.gp_work.specs.declared.job.Job.{Job}
use Rattle.gp_work.specs.Jobs.{IsReady}
use Rattle.gp_phase.specs.Beside.{HaveAllWorked}
use Rattle.gp_phase.proofs.beside.work_on.Goals as goal

pub workers-requires-clause-some : goal.workers-requires-clause-some
workers-requires-clause-some g c κs within = subst (λ (v : Vec (Job g.row.P.Denot) Global). 0 < length v.items) (sym c.replace-ready.ensures.value) c.requires.some

pub workers-requires-clause-ready : goal.workers-requires-clause-ready
workers-requires-clause-ready g c κs within =
    subst (λ (v : Vec (Job g.row.P.Denot) Global). All (IsReady g.P.Process.state g.P.Process.is_of c.args.net.now) v.items) (sym c.replace-ready.ensures.value) c.requires.ready

pub returns : goal.returns
returns g c =
    subst (λ (v : Vec (Job g.row.P.Denot) Global). HaveAllWorked g.P.Process.state g.P.Process.is_of g.P.Process.causes c.args.net.now v.items c.workers.result.items) c.replace-ready.ensures.value
    (record { same = c.workers.ensures.same; each = c.workers.ensures.each })
