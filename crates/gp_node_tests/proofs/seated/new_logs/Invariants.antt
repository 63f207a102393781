use Rattle.std.proofs.Common.{◌≡◌, length}
use Rattle.std.specs.List.{All}
use Rattle.gp_seats.specs.Seats.{IsBlank}
use Rattle.gp_node_tests.proofs.seated.new_logs.Given as goal

abbrev pub invariant-loop-at : goal.invariant-loop-at
invariant-loop-at l = (length l.logs.items ≡ l.at) × All IsBlank l.logs.items
