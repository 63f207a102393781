use Rattle.std.proofs.Common.{◌≡◌, ◌++◌}
use Rattle.gp_seats.specs.Nodes.{first_of}
use Rattle.gp_seats.proofs.nodes.push_first.Given as goal

abbrev pub invariant-loop-number : goal.invariant-loop-number
invariant-loop-number l = l.nodes.items ≡ l.fn.nodes.items ++ first_of l.fn.role l.number
