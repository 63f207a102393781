-- The epoch and the round of a coordinator.
use Rattle.std.specs.Prelude.{◌≡◌, ℕ, List, Some}
use Rattle.gp_round.specs.Counts.{Counts}
use Rattle.gp_round.specs.declared.round.Round.{Round}
use Rattle.gp_msg.specs.declared.node.Node.{Node}
use Rattle.gp_msg.specs.declared.record.Record.{Record}
use Rattle.gp_msg.specs.Messages.{Coordinators}
use Rattle.gp_run.specs.Runs.{newest_first}
use Rattle.gp_cell.specs.Cores.{core_at, part_in}

-- after these records the coordinator is in this epoch, and this is its round there
abbrev pub StandsIn : Counts → Node → List Record → ℕ → Round → Type 0
StandsIn config node seen e r = part_in (core_at config node (newest_first seen)) ≡ Some (record { epoch = e; part = Coordinators r })
