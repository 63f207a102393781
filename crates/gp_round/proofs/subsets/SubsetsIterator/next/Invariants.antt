use Rattle.std.proofs.Common.{◌-◌, ◌≡◌, ◌≤◌}
use Rattle.gp_round.specs.Sets.{masks_among}
use Rattle.gp_round.proofs.subsets.SubsetsIterator.next.Given as goal

abbrev pub invariant-loop-self : goal.invariant-loop-self
invariant-loop-self l =
    (masks_among l.self-inside.n l.self-inside.size (l.self-inside.limit - l.self-inside.next) l.self-inside.next ≡ l.fn.self)
    × (l.self-inside.n ≤ 7)
    × (l.self-inside.next ≤ l.self-inside.limit)
    × (l.self-inside.limit ≤ 128)

abbrev pub decreases-loop-self : goal.decreases-loop-self
decreases-loop-self l = l.self-inside.limit - l.self-inside.next
