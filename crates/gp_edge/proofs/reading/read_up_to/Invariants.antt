use Rattle.std.proofs.Common.{◌≡◌, ◌≤◌, ◌-◌, length}
use Rattle.gp_edge.specs.Reads.{ReadsUpTo}
use Rattle.gp_edge.proofs.reading.read_up_to.Given as goal

-- so many of the first bytes were read as are held, and none by a call that was not made
abbrev pub invariant-loop-piece : goal.invariant-loop-piece
invariant-loop-piece g l = record {
  sofar : ReadsUpTo (length l.bytes.items) (g.S.Source.rest l.fn.source) (g.S.Source.rest l.source) l.bytes.items;
  within : length l.bytes.items ≤ l.limit;
  steady : g.S.Source.faults l.source ≡ g.S.Source.faults l.fn.source;
  untouched : l.limit ≡ 0 → l.source ≡ l.fn.source;
}

abbrev pub decreases-loop-piece : goal.decreases-loop-piece
decreases-loop-piece g l = l.limit - length l.bytes.items
