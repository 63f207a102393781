use Rattle.std.proofs.Common.{◌≡◌, ◌≤◌, ◌+◌, ◌++◌, vec_len, vec_capacity}
use Rattle.gp_wire.specs.Places.{places_to}
use Rattle.gp_wire.proofs.indexed.add_places.Given as goal

abbrev pub invariant-loop-at : goal.invariant-loop-at
invariant-loop-at l = (l.places.items ≡ l.fn.places.items ++ places_to l.index l.at) × (vec_len l.places ≡ vec_len l.fn.places + l.at) × (vec_len l.fn.places + l.count ≤ vec_capacity l.places)
