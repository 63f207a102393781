use Rattle.std.proofs.Common.{◌≡◌, ◌++◌, take, drop, vec_capacity}
use Rattle.gp_shelf.proofs.moving.move_first.Given as goal

abbrev pub invariant-loop : goal.invariant-loop
invariant-loop g l = (l.to.items ≡ l.fn.to.items ++ take l.counter l.fn.from.items)
    × (l.from.items ≡ drop l.counter l.fn.from.items)
    × (vec_capacity l.to ≡ vec_capacity l.fn.to)
    × (vec_capacity l.from ≡ vec_capacity l.fn.from)
