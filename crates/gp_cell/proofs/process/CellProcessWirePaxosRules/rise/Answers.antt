use Rattle.gp_cell.proofs.Acts.{goes, at_same, rise_posted, step_nothing, rise_fault_if, is_up_again, is_still_down, is_down_now}
use Rattle.gp_cell.proofs.process.CellProcessWirePaxosRules.rise.Goals as goal

pub rise-requires-clause-down : goal.rise-requires-clause-down
rise-requires-clause-down g c = is_down_now c.args.self.now.down c.requires.down

pub returns-clause-own : goal.returns-clause-own
returns-clause-own g c = let e = c.rise.ensures in at_same g.D.Disk.faults c.args.self.now c.rise.new.self e.same.0 e.same.1 c.args.net.now e.goes c.requires.own

pub returns-clause-goes : goal.returns-clause-goes
returns-clause-goes g c = let e = c.rise.ensures in goes g.D.Disk.faults c.args.self.now c.rise.new.self e.same.0 e.same.1 e.goes e.faults.never_falls e.limit

pub returns-clause-posted : goal.returns-clause-posted
returns-clause-posted g c = let e = c.rise.ensures in rise_posted g.D.Disk.faults c.args.self.now c.rise.new.self e.same.0 e.same.1 c.rise.result e.rises

pub returns-clause-up : goal.returns-clause-up
returns-clause-up g c = let e = c.rise.ensures in is_up_again g.D.Disk.faults c.args.self.now c.rise.new.self e.same.0 e.same.1 c.rise.result e.up

pub returns-clause-down : goal.returns-clause-down
returns-clause-down g c = let e = c.rise.ensures in is_still_down g.D.Disk.faults c.args.self.now c.rise.new.self e.same.0 e.same.1 c.rise.result e.down c.requires.down

pub returns-clause-nothing : goal.returns-clause-nothing
returns-clause-nothing g c = let e = c.rise.ensures in step_nothing g.D.Disk.faults c.args.self.now c.rise.new.self e.same.0 e.same.1 c.rise.result e.nothing

pub returns-clause-cause : goal.returns-clause-cause
returns-clause-cause g c = let e = c.rise.ensures in rise_fault_if g.D.Disk.faults c.args.self.now c.rise.new.self e.same.0 e.same.1 g.D.Disk.content e.content e.limit c.rise.result e.down e.faults e.cause e.hidden
