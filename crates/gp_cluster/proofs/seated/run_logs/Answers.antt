use Rattle.std.proofs.Common.{None, List, length, refl, ap, ◌∙◌, subst, arith}
use Rattle.gp_vlog.specs.Logs.{LogState}
use Rattle.gp_ending.specs.declared.ends.RunEnd.TheVariants.{NoMemory}
use Rattle.gp_cluster.specs.Seated.{RunsFrom}
use Rattle.gp_cluster.proofs.Sitting as sitting
use Rattle.gp_cluster.proofs.Left.{nothing_said}
use Rattle.gp_cluster.proofs.seated.run_logs.Goals as goal

pub run_seated-requires-clause-seated : goal.run_seated-requires-clause-seated
run_seated-requires-clause-seated g c κs within =
    let e = c.in-Ok.ensures in let s = c.in-Ok.seated in
    sitting.seated c.args.config s.wire s.jobs.items s.proposers.items c.args.logs.items c.requires.count c.requires.blank e.jobs e.rules e.nodes e.proposers

pub run_seated-requires-clause-cells_room : goal.run_seated-requires-clause-cells_room
run_seated-requires-clause-cells_room g c κs within =
    let e = c.in-Ok.ensures in let s = c.in-Ok.seated in
    let seated = sitting.seated c.args.config s.wire s.jobs.items s.proposers.items c.args.logs.items c.requires.count c.requires.blank e.jobs e.rules e.nodes e.proposers in
    let all = sitting.count_nodes g.D.Disk.faults c.args.config s.wire s.jobs.items s.proposers.items seated in
    let a = c.know.ensures.acceptors.1 in let o = c.know.ensures.coordinators.1 in let l = c.know.ensures.learners in let room = c.requires.cells_room.1 in
    (c.requires.cells_room.0, omega (arith, all, a, o, l, room))

pub run_seated-requires-clause-logs_room : goal.run_seated-requires-clause-logs_room
run_seated-requires-clause-logs_room g c κs within =
    let e = c.in-Ok.ensures in let s = c.in-Ok.seated in
    let same = ap length (sitting.same_logs c.args.config s.wire s.jobs.items s.proposers.items c.args.logs.items c.requires.count c.requires.blank e.jobs) ∙ c.requires.count in
    let a = c.know.ensures.acceptors.1 in let o = c.know.ensures.coordinators.1 in let room = c.requires.logs_room.1 in
    (c.requires.logs_room.0, omega (arith, same, a, o, room))

pub returns-in-Ok-clause-run : goal.returns-in-Ok-clause-run
returns-in-Ok-clause-run g c =
    let e = c.in-Ok.ensures in let s = c.in-Ok.seated in let r = c.run_seated.result in
    subst (λ (first : List (LogState g.row.D.Denot)). RunsFrom c.args.policy g.D.Disk.faults g.D.Disk.content c.args.config c.args.offers.now first r.logs.items r.posted r.end)
    (sitting.same_logs c.args.config s.wire s.jobs.items s.proposers.items c.args.logs.items c.requires.count c.requires.blank e.jobs) c.run_seated.ensures.run

pub returns-in-Err-clause-run : goal.returns-in-Err-clause-run
returns-in-Err-clause-run g c = nothing_said g.D.Disk.faults c.args.policy g.D.Disk.content c.args.config c.args.offers.now c.args.logs.items c.in-Err.field-0.logs.items None NoMemory refl refl c.in-Err.ensures.back
