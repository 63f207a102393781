use Rattle.gp_work.specs.Moves.{event_of}
use Rattle.gp_cell.proofs.Acts.{goes, at_same, step_posted, step_nothing, step_fault_if, is_up_again, up_is}
use Rattle.gp_cell.proofs.process.CellProcessWirePaxosRules.step.Goals as goal

pub step-requires-clause-up : goal.step-requires-clause-up
step-requires-clause-up g c = up_is c.args.self.now.down c.requires.up

pub returns-clause-own : goal.returns-clause-own
returns-clause-own g c = let e = c.step.ensures in at_same g.D.Disk.faults c.args.self.now c.step.new.self e.same.0 e.same.1 c.args.net.now e.goes c.requires.own

pub returns-clause-goes : goal.returns-clause-goes
returns-clause-goes g c = let e = c.step.ensures in goes g.D.Disk.faults c.args.self.now c.step.new.self e.same.0 e.same.1 e.goes e.faults.never_falls e.limit

pub returns-clause-posted : goal.returns-clause-posted
returns-clause-posted g c = let e = c.step.ensures in let o = c.args.self.now in step_posted g.D.Disk.faults o c.step.new.self e.same.0 e.same.1 (event_of o.node c.args.mv) c.step.result e.posted

pub returns-clause-up : goal.returns-clause-up
returns-clause-up g c = let e = c.step.ensures in is_up_again g.D.Disk.faults c.args.self.now c.step.new.self e.same.0 e.same.1 c.step.result e.up

pub returns-clause-nothing : goal.returns-clause-nothing
returns-clause-nothing g c = let e = c.step.ensures in step_nothing g.D.Disk.faults c.args.self.now c.step.new.self e.same.0 e.same.1 c.step.result e.nothing

pub returns-clause-cause : goal.returns-clause-cause
returns-clause-cause g c = let e = c.step.ensures in step_fault_if g.D.Disk.faults c.args.self.now c.step.new.self e.same.0 e.same.1 c.args.mv c.step.result e.faults e.cause
