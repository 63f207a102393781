use Rattle.std.proofs.Common.{◌≡◌}
use Rattle.gp_wire.specs.Known.{records}
use Rattle.gp_wire.specs.Own.{own}
use Rattle.gp_cell.specs.Cells.{IsSameBut}
use Rattle.gp_cell.specs.Passing.{GoesOn}
use Rattle.gp_caller.specs.Sights.{Saw}
use Rattle.gp_caller.proofs.sight.Sight.look.Given as goal

abbrev pub invariant-loop : goal.invariant-loop
invariant-loop g l = IsSameBut l.fn.cell l.cell × GoesOn l.fn.cell.pass l.cell.pass × (own l.cell.node (records l.cell.pass) ≡ own l.fn.cell.node (records l.fn.cell.pass))
    × (l.self.watch.round ≡ l.fn.self.watch.round) × Saw l.self (records l.cell.pass)
