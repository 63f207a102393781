use Rattle.std.proofs.Common.{◌≡◌, List, Option, get_or}
use Rattle.gp_work.specs.declared.job.Job.{Job}
use Rattle.gp_phase.specs.declared.caller.Call.{Call}
use Rattle.gp_phase.specs.Beside.{topics}
use Rattle.gp_phase.proofs.Phasing.{Phase}
use Rattle.gp_phase.proofs.Opening.{AreUntouchedOrOpen}
use Rattle.gp_phase.proofs.phases.run_phases.Given as goal

abbrev pub invariant-loop : goal.invariant-loop
invariant-loop g l = (g.C.Caller.node l.caller ≡ g.C.Caller.node l.fn.caller)
    × (g.C.Caller.config l.caller ≡ g.C.Caller.config l.fn.caller)
    × ((d : Job g.row.P.Denot) → g.C.Caller.knows l.caller (g.P.Process.state (get_or l.jobs.items l.at d).cell).list)
    × (begun : List Call) × (pending : Option Call)
    × Phase g.P.Process.state g.P.Process.is_of g.P.Process.causes l.net g.C.Caller.answers l.at l.fn.jobs.items l.jobs.items (g.C.Caller.node l.fn.caller) (g.C.Caller.config l.fn.caller) begun pending (g.C.Caller.called l.caller)
    × AreUntouchedOrOpen g.P.Process.state g.P.Process.is_of g.P.Process.causes l.net l.fn.jobs.items l.jobs.items
    × (topics g.A.Beside.topic g.B.Beside.topic l.beside ≡ topics g.A.Beside.topic g.B.Beside.topic l.fn.beside)
