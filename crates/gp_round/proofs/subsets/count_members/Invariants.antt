use Rattle.std.proofs.Common.{◌≡◌, ◌≤◌}
use Rattle.gp_round.specs.Sets.{members, bit}
use Rattle.gp_round.proofs.subsets.count_members.Given as goal

abbrev pub invariant-loop-i : goal.invariant-loop-i
invariant-loop-i l = (l.count ≡ members (bit l.mask) l.i) × (l.count ≤ l.i)
